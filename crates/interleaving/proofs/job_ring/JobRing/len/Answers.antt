use Rattle.std.proofs.Common.{length, ap, arith, nat_eq}
use Rattle.std.specs.HashMap.{get}
use Rattle.interleaving.specs.JobRing.{Row}
use Rattle.interleaving.proofs.JobRings.{length-row}
use Rattle.interleaving.proofs.job_ring.JobRing.len.Goals as goal

pub returns : goal.returns
returns c =
    let r = c.self.inside in
    let long = length-row (get nat_eq r.older) r.base r.recent.items in
    let seen = ap (λ (s : Row). length s.items) c.self.view_is in
    omega (arith, long, seen)
