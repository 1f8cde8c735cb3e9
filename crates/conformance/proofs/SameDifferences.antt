-- The equality of reported differences is that of the definitions.
use Rattle.std.proofs.Common.{◌≡◌, ℕ, ◌==◌, ◌&&◌, ◌||◌, Bool, true, false, cond, refl, ap, ◌∙◌}
use Rattle.recordings.specs.declared.pool_sizes.QueueKind.{QueueKind}
use Rattle.recordings.specs.declared.pool_sizes.QueueKind.TheVariants as queue
use Rattle.recordings.specs.contracts.pool_sizes.QueueKindPartialEq.TheImpl as kind_eq
use Rattle.conformance.specs.declared.difference.Difference.{Difference}
use Rattle.conformance.specs.declared.difference.Difference.TheVariants.{Core, Max, BoundedMax, KindOfQueue, Capacity, BoundedQueue, CoreTimeout, NoCoreTimeout, Prestarted}
use Rattle.conformance.specs.contracts.difference.DifferencePartialEq.TheImpl as difference_eq
use Rattle.conformance.specs.Difference.{is_same_kind, is_same_difference}
use Rattle.conformance.specs.PoolComparison.{is_same_element}

same_array : (other : QueueKind) → (kind_eq.ghosts).eq queue.Array other ≡ is_same_kind queue.Array other
same_array queue.Array = refl
same_array queue.Linked = refl
same_array queue.Synchronous = refl
same_array queue.Priority = refl
same_array queue.Other = refl

same_linked : (other : QueueKind) → (kind_eq.ghosts).eq queue.Linked other ≡ is_same_kind queue.Linked other
same_linked queue.Array = refl
same_linked queue.Linked = refl
same_linked queue.Synchronous = refl
same_linked queue.Priority = refl
same_linked queue.Other = refl

same_synchronous : (other : QueueKind) → (kind_eq.ghosts).eq queue.Synchronous other ≡ is_same_kind queue.Synchronous other
same_synchronous queue.Array = refl
same_synchronous queue.Linked = refl
same_synchronous queue.Synchronous = refl
same_synchronous queue.Priority = refl
same_synchronous queue.Other = refl

same_priority : (other : QueueKind) → (kind_eq.ghosts).eq queue.Priority other ≡ is_same_kind queue.Priority other
same_priority queue.Array = refl
same_priority queue.Linked = refl
same_priority queue.Synchronous = refl
same_priority queue.Priority = refl
same_priority queue.Other = refl

same_other : (other : QueueKind) → (kind_eq.ghosts).eq queue.Other other ≡ is_same_kind queue.Other other
same_other queue.Array = refl
same_other queue.Linked = refl
same_other queue.Synchronous = refl
same_other queue.Priority = refl
same_other queue.Other = refl

same_kind : (kind other : QueueKind) → (kind_eq.ghosts).eq kind other ≡ is_same_kind kind other
same_kind queue.Array other = same_array other
same_kind queue.Linked other = same_linked other
same_kind queue.Synchronous other = same_synchronous other
same_kind queue.Priority other = same_priority other
same_kind queue.Other other = same_other other

same_difference : (difference other : Difference) → (difference_eq.ghosts).eq difference other ≡ is_same_difference difference other
same_difference (Core recorded planned) (Core other beside) = refl
same_difference (Max recorded planned) (Max other beside) = refl
same_difference (BoundedMax recorded) (BoundedMax other) = refl
same_difference (KindOfQueue kind) (KindOfQueue other) = same_kind kind other
same_difference (Capacity recorded planned) (Capacity other beside) = refl
same_difference (BoundedQueue recorded) (BoundedQueue other) = refl
same_difference CoreTimeout CoreTimeout = refl
same_difference NoCoreTimeout NoCoreTimeout = refl
same_difference (Prestarted recorded planned) (Prestarted other beside) = refl
same_difference difference other = refl

either : (beside there : Bool) → cond beside true there ≡ (there || beside)
either true true = refl
either true false = refl
either false true = refl
either false false = refl

pub same_element : (pool one : ℕ) (difference other : Difference) → is_same_element (record { pool = pool; difference = difference }) (record { pool = one; difference = other }) ≡ (pool == one && is_same_difference difference other)
same_element pool one difference other = ap (λ b. pool == one && b) (same_difference difference other)

pub reported_more : (same beside there : Bool) → same ≡ beside → cond same true there ≡ (there || beside)
reported_more same beside there is = ap (λ b. cond b true there) is ∙ either beside there
