use Rattle.std.proofs.Common.{length, nat_eq, ap, arith}
use Rattle.std.specs.HashMap.{get}
use Rattle.interleaving.specs.JobRing.{Row}
use Rattle.interleaving.proofs.JobRings.{length-row}
use Rattle.interleaving.proofs.job_ring.JobRing.push.Goals as goal

pub returns-clause-fits : goal.returns-clause-fits
returns-clause-fits c =
    let r = c.self.inside in
    let long = length-row (get nat_eq r.older) r.base r.recent.items in
    let seen = ap (λ (s : Row). length s.items) c.self.view_is in
    let room = ap (λ (s : Row). s.room) c.self.view_is in
    omega (arith, long, seen, room)
