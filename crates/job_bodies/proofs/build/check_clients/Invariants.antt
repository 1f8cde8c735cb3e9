use Rattle.std.proofs.Common.{◌≡◌, drop, map, take}
use Rattle.support.specs.Reading.{check_each}
use Rattle.job_bodies.specs.Checks.{check_client}
use Rattle.job_bodies.proofs.build.check_clients.Given as goal

abbrev pub invariant-loop-index : goal.invariant-loop-index
invariant-loop-index l = check_each (λ index. check_client (take index (map (λ client. client.name) l.clients)) index) l.index (drop l.index l.clients) ≡ check_each (λ index. check_client (take index (map (λ client. client.name) l.clients)) index) 0 l.clients
