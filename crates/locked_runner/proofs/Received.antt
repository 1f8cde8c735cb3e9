-- Receipts of a legal history, checked against the owner of each of its events.
use Rattle.std.proofs.Common.{◌≡◌, ◌↔◌, ℕ, suc, Bool, false, IsTrue, List, [], ◌∷◌, length, slice_get, Option, Some, refl, sym, ap, ◌∙◌}
use Rattle.std.proofs.lemmas.Option.{same_Some}
use Rattle.job_bodies.specs.Plan.{Plan}
use Rattle.pool_machine.specs.declared.event.Event.{Event}
use Rattle.held_machines.specs.declared.held.Receipt.{Receipt}
use Rattle.locked_runner.specs.declared.owner.Owner.{Owner}
use Rattle.locked_runner.specs.Owner.{owner_by, ArePoolsOf}
use Rattle.locked_runner.specs.Receipts.{IsReceiptOf, AreListsOf}
use Rattle.locked_runner.specs.Run.{IsLegal}
use Rattle.locked_runner.proofs.Prefixes.{prefix_is_legal}

-- if a receipt belongs to an owner, the pool at its number determines this owner
owner_at : (plan : Plan) (history : List Event) (pools : List ℕ) (owner : Owner) (r : Receipt Event) (pool : ℕ) → IsLegal plan history → ArePoolsOf plan history pools → slice_get pools r.number ≡ Some pool
    → IsReceiptOf plan history owner r → owner_by r.event pool ≡ Some owner
owner_at plan history pools owner r pool legal are at receipt =
    let before = prefix_is_legal plan history legal.0 r.number legal.1 in
    sym (are.each r.number before.0 r.event pool receipt.event at before.1) ∙ receipt.owned before.0 before.1

-- if the history has the receipt's event at the receipt's number, the receipt belongs to the owner of that event
pub owned_where : (plan : Plan) (history : List Event) (pools : List ℕ) (owner : Owner) (r : Receipt Event) (event : Event) (pool : ℕ) (found : Option Owner) (same owned : Bool) → IsLegal plan history → ArePoolsOf plan history pools
    → slice_get history r.number ≡ Some event → slice_get pools r.number ≡ Some pool → found ≡ owner_by event pool → (IsTrue same ↔ (event ≡ r.event)) → IsTrue same → (IsTrue owned ↔ (found ≡ Some owner)) → IsTrue owned ↔ IsReceiptOf plan history owner r
owned_where plan history pools owner r event pool found same owned legal are event_at pool_at is_found is_same so is_owned =
    let value_holds : found ≡ owner_by r.event pool = is_found ∙ ap (λ (e : Event). owner_by e pool) (is_same.0 so) in (
      λ its. record {
        event = event_at ∙ ap Some (is_same.0 so);
        owned = λ s reached. are.each r.number s r.event pool (event_at ∙ ap Some (is_same.0 so)) pool_at reached ∙ (sym value_holds ∙ is_owned.0 its);
      },
      λ receipt. is_owned.1 (value_holds ∙ owner_at plan history pools owner r pool legal are pool_at receipt),
    )

-- if the history has another event at the receipt's number, the receipt belongs to no owner
pub other_event : (plan : Plan) (history : List Event) (owner : Owner) (r : Receipt Event) (event : Event) (same : Bool) → slice_get history r.number ≡ Some event → (IsTrue same ↔ (event ≡ r.event)) → same ≡ false → IsTrue same ↔ IsReceiptOf plan history owner r
other_event plan history owner r event same event_at is_same differs = (
  λ so. absurd cc,
  λ receipt. is_same.1 (same_Some event r.event (sym event_at ∙ receipt.event)),
)

pub as_many : (plan : Plan) (history : List Event) (owners : List Owner) (lists : List (List (Receipt Event))) → AreListsOf plan history owners lists → length owners ≡ length lists
as_many plan history [] [] fit = refl
as_many plan history [] (list ∷ lists) fit = absurd fit
as_many plan history (owner ∷ owners) [] fit = absurd fit
as_many plan history (owner ∷ owners) (list ∷ lists) fit = ap suc (as_many plan history owners lists fit.1)
