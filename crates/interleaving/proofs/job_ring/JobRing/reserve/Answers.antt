use Rattle.std.proofs.Common.{length, nat_eq, ap, arith}
use Rattle.std.specs.HashMap.{get}
use Rattle.interleaving.specs.JobRing.{Row}
use Rattle.interleaving.proofs.JobRings.{length-row}
use Rattle.interleaving.proofs.Results.{on_ok}
use Rattle.interleaving.proofs.job_ring.JobRing.reserve.Goals as goal

pub returns-clause-room : goal.returns-clause-room
returns-clause-room c =
    let r = c.self.inside in
    let long = length-row (get nat_eq r.older) r.base r.recent.items in
    let seen = ap (λ (s : Row). length s.items) c.self.view_is in
    on_ok c.reserve.result c.reserve.ensures.ok (λ ok. omega (arith, ok, long, seen, c.len.ensures, c.reserve.ensures.len))
