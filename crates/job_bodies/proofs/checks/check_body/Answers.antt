use Rattle.std.proofs.Common.{refl, false}
use Rattle.std.proofs.lemmas.List.{get_or-replicate}
use Rattle.job_bodies.specs.declared.limits.TheConstants.{MAX_ACTIONS}
use Rattle.job_bodies.proofs.checks.check_body.Goals as goal

pub loop-position-init : goal.loop-position-init
loop-position-init c = (refl, λ submit within. get_or-replicate MAX_ACTIONS submit false false within)
