use Rattle.std.proofs.Common.{subst}
use Rattle.job_bodies.specs.WellFormed.{IsWellFormed}
use Rattle.locked_runner.proofs.Worlds.{none_refused}
use Rattle.locked_runner.proofs.world_laws.reached_worlds_refuse_nothing.Goals as goal

pub returns : goal.returns
returns c = λ history led.
    none_refused c.args.certified.now.plan c.args.certified.now.cert history c.args.world.now (subst IsWellFormed c.plan.ensures.plan c.pools-pools.ensures.well_formed) c.cert-cert.ensures.accepted led
