use Rattle.std.proofs.Common.{refl}
use Rattle.interleaving.proofs.IndexOnceChanged.{indexed_as}
use Rattle.interleaving.proofs.live_jobs.LiveJobs.reserve_for.Goals as goal

pub invariant_of-self : goal.invariant_of-self
invariant_of-self c = indexed_as c.self.inside.kept.items _ c.self.inside.latest _ c.self.inside.unfinished refl c.reserve_for.ensures.found c.self.invariant

pub invariant_of-self-2 : goal.invariant_of-self-2
invariant_of-self-2 c = indexed_as c.self.inside.kept.items _ c.self.inside.latest _ c.self.inside.unfinished c.reserve.ensures.items c.in_ok-reserve_for.ensures.found c.self.invariant
