use Rattle.std.proofs.Common.{◌≡◌, ◌<◌, ◌≤◌, ℕ, length, take}
use Rattle.interleaving.specs.PoolActivity.{activity_of, activity_at}
use Rattle.interleaving.proofs.world.World.activities.Given as goal

-- the activities of the members before this place; the number of running members is at most the number of these members
abbrev pub invariant-loop-place : goal.invariant-loop-place
invariant-loop-place l = (length l.activities ≡ 64) × ((p : ℕ) → p < 64 → (activity_at l.activities p ≡ activity_of l.plan l.self.view (take l.place l.members) p) × ((activity_at l.activities p).at_work ≤ l.place))
