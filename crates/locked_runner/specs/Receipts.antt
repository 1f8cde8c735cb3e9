-- The check that the receipts of all threads are the events of a history. Each event has one receipt, in a list of its owner.
use Rattle.std.specs.Prelude.{◌≡◌, ◌<◌, ◌≤◌, ◌+◌, ◌==◌, ℕ, List, [], ◌∷◌, length, take, sum_by, count_by, slice_get, Some}
use Rattle.job_bodies.specs.Plan.{Plan}
use Rattle.pool_machine.specs.declared.event.Event.{Event}
use Rattle.pool_machine.specs.State.{State}
use Rattle.pool_machine.specs.Reach.{Reaches}
use Rattle.held_machines.specs.declared.held.Receipt.{Receipt}
use Rattle.locked_runner.specs.declared.owner.Owner.{Owner}
use Rattle.locked_runner.specs.Owner.{owner_in, lists_of}

-- The receipt's event is the event of the history with the receipt's number. In the state before this event, `owner` owns it.
pub record IsReceiptOf (plan : Plan) (history : List Event) (owner : Owner) (r : Receipt Event) : Type 0 where
  pub event : slice_get history r.number ≡ Some r.event
  pub owned : (s : State) → Reaches plan (take r.number history) s → owner_in plan s r.event ≡ Some owner

-- The list has only receipts of the owner (`IsReceiptOf`). Their numbers are in ascending order and at least `low`.
abbrev pub AreReceiptsOf : Plan → List Event → Owner → ℕ → List (Receipt Event) → Type 0
AreReceiptsOf plan history owner low [] = Unit {0}
AreReceiptsOf plan history owner low (r ∷ rs) = (low ≤ r.number) × IsReceiptOf plan history owner r × AreReceiptsOf plan history owner (r.number + 1) rs

-- There is one list for each owner, and each list has only receipts of its owner, in ascending order.
abbrev pub AreListsOf : Plan → List Event → List Owner → List (List (Receipt Event)) → Type 0
AreListsOf plan history [] [] = Unit {0}
AreListsOf plan history (owner ∷ owners) (list ∷ lists) = AreReceiptsOf plan history owner 0 list × AreListsOf plan history owners lists
AreListsOf plan history _ _ = ⊥

-- the number of receipts in all lists whose number is k
abbrev pub places_of : ℕ → List (List (Receipt Event)) → ℕ
places_of k lists = sum_by (λ list. count_by (λ r. r.number == k) list) lists

pub record AreReceipts (plan : Plan) (history : List Event) (lists : List (List (Receipt Event))) : Type 0 where
  pub owner_lists : AreListsOf plan history (lists_of plan) lists
  pub once : (k : ℕ) → k < length history → places_of k lists ≡ 1
