use Rattle.std.proofs.Common.{◌≡◌, drop}
use Rattle.support.specs.Reading.{check_each}
use Rattle.job_bodies.specs.declared.fault.Part.TheVariants as part
use Rattle.job_bodies.specs.Checks.{check_length}
use Rattle.job_bodies.proofs.build.check_client_lengths.Given as goal

abbrev pub invariant-loop-index : goal.invariant-loop-index
invariant-loop-index l = check_each (λ index client. check_length part.Client index client.body) l.index (drop l.index l.clients) ≡ check_each (λ index client. check_length part.Client index client.body) 0 l.clients
