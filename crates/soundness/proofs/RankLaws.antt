-- The inequalities that ranks satisfy if their rows hold.
use Rattle.std.proofs.Common.{◌≡◌, ℕ, ◌+◌, ◌<◌, ◌≤◌, length, slice_get, Some, zero-add}
use Rattle.support.specs.In.{here, there}
use Rattle.support.proofs.Members.{In-flat_map, In-enumerate_from}
use Rattle.job_bodies.specs.declared.action.Action.{Action}
use Rattle.job_bodies.specs.declared.action.Action.TheVariants as action
use Rattle.job_bodies.specs.Plan.{Class, Plan, class_at, submitted_class}
use Rattle.weights.specs.Row.{AllHold}
use Rattle.weights.specs.Ranks.{Ranks, rank, reach, level, rank_rows_of_action, rank_rows_of_class, rank_rows}
use Rattle.soundness.proofs.VectorLaws.{numbered_class, class_of_action}

-- the inequalities of the rules K1 to K3
pub record RankLaws (plan : Plan) (ranks : Ranks) : Type 0 where
  pub reaches : (k : ℕ) → k < length plan.classes → rank ranks (class_at plan k).pool ≤ reach ranks k
  pub falls : (k i t : ℕ) → slice_get (class_at plan k).body i ≡ Some (action.Get t) → reach ranks (submitted_class (class_at plan k).body t) ≤ reach ranks k
  pub sinks : (k i k' : ℕ) → slice_get (class_at plan k).body i ≡ Some (action.Submit k') → level ranks k' + 1 ≤ level ranks k

-- if the rows of the ranks hold, the rows of each class hold
class_holds : (plan : Plan) (ranks : Ranks) → AllHold (rank_rows plan ranks) → (k : ℕ) → k < length plan.classes → AllHold (rank_rows_of_class ranks k (class_at plan k))
class_holds plan ranks hold k inside x i = hold x (In-flat_map (λ (entry : ℕ × Class). rank_rows_of_class ranks entry.0 entry.1) (numbered_class plan k inside) i)

-- if the rows of the ranks hold, the rows of each action of a class's body hold
action_holds : (plan : Plan) (ranks : Ranks) → AllHold (rank_rows plan ranks) → (k i : ℕ) (x : Action) → slice_get (class_at plan k).body i ≡ Some x → AllHold (rank_rows_of_action ranks k (class_at plan k).body i x)
action_holds plan ranks hold k i x is_next y at =
    let body = (class_at plan k).body in
    class_holds plan ranks hold k (class_of_action plan k i x is_next) y (there (In-flat_map (λ (entry : ℕ × Action). rank_rows_of_action ranks k body entry.0 entry.1) (In-enumerate_from 0 body i x i is_next (zero-add i)) at))

-- if the rows of the ranks hold, the inequalities of the rules K1 to K3 hold
pub rank_laws : (plan : Plan) (ranks : Ranks) → AllHold (rank_rows plan ranks) → RankLaws plan ranks
rank_laws plan ranks hold = record {
  reaches = λ k inside. class_holds plan ranks hold k inside _ here;
  falls = λ k i t is_next. action_holds plan ranks hold k i (action.Get t) is_next _ here;
  sinks = λ k i k' is_next. action_holds plan ranks hold k i (action.Submit k') is_next _ here;
}
