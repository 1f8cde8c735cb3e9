-- The property that all clients with numbers below a bound have finished.
use Rattle.std.proofs.Common.{◌≡◌, ◌<◌, ◌+◌, ℕ, List, length, get_or, slice_get, Some, inl, inr, sym, subst, arith}
use Rattle.std.proofs.lemmas.Bool.{cases_lt}
use Rattle.std.proofs.lemmas.Option.{slice_get_within, get_or_from_slice_get}
use Rattle.job_bodies.specs.Plan.{Plan, client_at}
use Rattle.pool_machine.specs.declared.event.Event.{Event}
use Rattle.pool_machine.specs.State.{State}
use Rattle.interleaving.specs.LiveView.{View, live_view}
use Rattle.locked_runner.specs.Complete.{IsCompleteClient, AreMadeIn}

-- all clients with numbers below n have finished
abbrev pub AreCompleteClients : Plan → List ℕ → ℕ → List ℕ → View → ℕ → Type 0
AreCompleteClients plan kinds rounds made view n =
    (history : List Event) (s : State) → AreMadeIn history made → live_view plan s ≡ view → (c kind : ℕ) → c < n → slice_get kinds c ≡ Some kind → IsCompleteClient rounds history s c (client_at plan kind)

pub complete_clients_more : (plan : Plan) (kinds : List ℕ) (rounds : ℕ) (made : List ℕ) (view : View) (n : ℕ) → AreCompleteClients plan kinds rounds made view n
    → ((history : List Event) (s : State) → AreMadeIn history made → live_view plan s ≡ view → IsCompleteClient rounds history s n (client_at plan (get_or kinds n 0))) → AreCompleteClients plan kinds rounds made view (n + 1)
complete_clients_more plan kinds rounds made view n below here history s are seen c kind inside at = elim (cases_lt c n) [
  | inl earlier ↦ below history s are seen c kind earlier at
  | inr past ↦
      let same : c ≡ n = omega arith in
      let kind_at : get_or kinds n 0 ≡ kind = get_or_from_slice_get kinds n kind 0 (subst (λ (i : ℕ). slice_get kinds i ≡ Some kind) same at) in
      subst (λ (i : ℕ). IsCompleteClient rounds history s i (client_at plan kind)) (sym same) (subst (λ (k : ℕ). IsCompleteClient rounds history s n (client_at plan k)) kind_at (here history s are seen))
]

-- if n is the number of clients, all clients have finished
pub complete_clients_all : (plan : Plan) (kinds : List ℕ) (rounds : ℕ) (made : List ℕ) (view : View) (n : ℕ) → length kinds ≡ n → AreCompleteClients plan kinds rounds made view n
    → (history : List Event) (s : State) → AreMadeIn history made → live_view plan s ≡ view → (c kind : ℕ) → slice_get kinds c ≡ Some kind → IsCompleteClient rounds history s c (client_at plan kind)
complete_clients_all plan kinds rounds made view n all below history s are seen c kind at =
    let inside : c < length kinds = slice_get_within kinds c kind at in
    below history s are seen c kind (omega arith) at
