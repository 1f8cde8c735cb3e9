-- The pools at which Java will look: core threads of each of them may time out, and each other pool with a queued job has enough threads.
use Rattle.std.proofs.Common.{◌≡◌, ◌≢◌, ℕ, ◌<◌, ◌≤◌, ◌⊎◌, inl, inr, ⊎_elim, Bool, true, false, cond, eqb, List, [], ◌∷◌, length, refl, sym, subst, ◌∙◌, arith}
use Rattle.std.proofs.lemmas.Bool.{false≢true, or_cases, or_left, or_right, cases_eq, eqb-true}
use Rattle.job_bodies.specs.Plan.{Plan, pool_at}
use Rattle.job_bodies.proofs.Bodies.{HasValidBodies}
use Rattle.pool_machine.specs.declared.event.Event.{Event}
use Rattle.pool_machine.specs.declared.event.Outcome.{Outcome}
use Rattle.pool_machine.specs.State.{State, pool_part, threads}
use Rattle.pool_machine.specs.Laws.{HasThreads}
use Rattle.pool_machine.proofs.Events.{KeepsThreads, Happens}
use Rattle.pool_machine.proofs.StateInvariant.{StateInvariant}
use Rattle.pool_machine.proofs.EnoughThreads.{one_is_enough, threads_step}
use Rattle.soundness.specs.Execute.{JavaState, is_looking, looked_once}
use Rattle.soundness.proofs.ThreadChanges.{IsLasting}
use Rattle.soundness.proofs.JavaEvents.{Looks, with_spare_thread}
use Rattle.soundness.proofs.SpareThreads.{threads_spared, one_spared}

-- core threads of each pool at which Java will look may time out, and each other pool with a queued job has enough threads
pub record LooksKept (plan : Plan) (s : State) (looking : List ℕ) : Type 0 where
  pub timeouts : (p : ℕ) → is_looking looking p ≡ true → (pool_at plan p).core_timeout ≡ true
  pub enough : (p : ℕ) → p < length plan.pools → (is_looking looking p ≡ true) ⊎ HasThreads plan s p

-- ---- the list without one entry

-- a pool of the list without one entry is in the list
looked_before : (q p : ℕ) (looking : List ℕ) → is_looking (looked_once p looking) q ≡ true → is_looking looking q ≡ true
looked_before q p [] is_there = is_there
looked_before q p (r ∷ looking) is_there = first (eqb p r) (looked_before q p looking) is_there
  where
    first : (same : Bool) → (is_looking (looked_once p looking) q ≡ true → is_looking looking q ≡ true) → is_looking (cond same looking (r ∷ looked_once p looking)) q ≡ true → is_looking (r ∷ looking) q ≡ true
    first true before rest = or_right (eqb q r) (is_looking looking q) rest
    first false before rest =
        ⊎_elim (or_left (eqb q r) (is_looking looking q)) (λ later. or_right (eqb q r) (is_looking looking q) (before later)) (or_cases (eqb q r) (is_looking (looked_once p looking) q) rest)

-- a pool other than p is still in the list without one entry of p
looked_other : (q p : ℕ) (looking : List ℕ) → q ≢ p → is_looking looking q ≡ true → is_looking (looked_once p looking) q ≡ true
looked_other q p [] other is_there = is_there
looked_other q p (r ∷ looking) other is_there = first (eqb p r) refl (looked_other q p looking other) (or_cases (eqb q r) (is_looking looking q) is_there)
  where
    first : (same : Bool) → eqb p r ≡ same → (is_looking looking q ≡ true → is_looking (looked_once p looking) q ≡ true) → (eqb q r ≡ true) ⊎ (is_looking looking q ≡ true) → is_looking (cond same looking (r ∷ looked_once p looking)) q ≡ true
    first true is_same still (inl here) = absurd (other (eqb-true q r here ∙ sym (eqb-true p r is_same)))
    first true is_same still (inr later) = later
    first false is_same still (inl here) = or_left (eqb q r) (is_looking (looked_once p looking) q) here
    first false is_same still (inr later) = or_right (eqb q r) (is_looking (looked_once p looking) q) (still later)

-- ---- an event

-- after an event, each pool that needs threads has them or is one at which Java will look
pub looks_step : (plan : Plan) (s : JavaState) (after : State) (o : Outcome) (looking : List ℕ) {e : Event} → HasValidBodies plan → StateInvariant plan s.machine → (happened : Happens plan s.machine e after o) → Looks plan s looking e after o happened
    → LooksKept plan s.machine s.looking → LooksKept plan after looking
looks_step plan s after o looking ordered kept happened looks held = record {
  timeouts = λ p is_there. ⊎_elim (held.timeouts p) (λ timeout. timeout) (looks.join p is_there);
  enough = λ p inside. elim (looks.keeps p) [
    | inl is_there ↦ inl is_there
    | inr keeps ↦ elim (held.enough p inside) [
      | inl before ↦ inl (looks.stay p before)
      | inr had ↦ inr (threads_step plan s.machine after o ordered kept happened p inside keeps had)
    ]
  ];
}

-- an event keeps threads in a pool whose core threads never time out
pub lasting_keeps : (plan : Plan) (s : JavaState) (after : State) (o : Outcome) (looking : List ℕ) {e : Event} → (happened : Happens plan s.machine e after o) → Looks plan s looking e after o happened → LooksKept plan s.machine s.looking → (p : ℕ) → IsLasting plan p
    → KeepsThreads plan s.machine p e after o happened
lasting_keeps plan s after o looking happened looks held p lasting = elim (looks.keeps p) [
  | inl is_there ↦ absurd (false≢true (sym lasting ∙ ⊎_elim (held.timeouts p) (λ timeout. timeout) (looks.join p is_there)))
  | inr keeps ↦ keeps
]

-- ---- a look

-- after Java looked at a pool that has a thread or no queued job, that pool has enough threads
pub looks_enough : (plan : Plan) (s : State) (looking : List ℕ) (p : ℕ) → is_looking looking p ≡ true → (1 ≤ threads plan s p) ⊎ (length (pool_part s p).queue ≡ 0) → LooksKept plan s looking → LooksKept plan s (looked_once p looking)
looks_enough plan s looking p is_there enough held = record {
  timeouts = λ q still. held.timeouts q (looked_before q p looking still);
  enough = λ q inside. elim (held.enough q inside) [
    | inl before ↦ elim (cases_eq q p) [
      | inl same ↦ inr (subst (HasThreads plan s) (sym same) (has_enough enough))
      | inr other ↦ inl (looked_other q p looking other before)
    ]
    | inr had ↦ inr had
  ];
}
  where
    has_enough : (1 ≤ threads plan s p) ⊎ (length (pool_part s p).queue ≡ 0) → HasThreads plan s p
    has_enough (inl one) some = omega (arith, one_is_enough (pool_at plan p) (held.timeouts p is_there))
    has_enough (inr empty) some = absurd (omega arith)

-- after Java looked at a pool and started a thread, that pool has enough threads
pub looks_spared : (plan : Plan) (s : State) (looking : List ℕ) (p : ℕ) → StateInvariant plan s → is_looking looking p ≡ true → LooksKept plan s looking → LooksKept plan (with_spare_thread p s) (looked_once p looking)
looks_spared plan s looking p kept is_there held = record {
  timeouts = λ q still. held.timeouts q (looked_before q p looking still);
  enough = λ q inside. elim (held.enough q inside) [
    | inl before ↦ elim (cases_eq q p) [
      | inl same ↦ inr (subst (HasThreads plan (with_spare_thread p s)) (sym same) (has_one (subst (λ (r : ℕ). r < length plan.pools) same inside)))
      | inr other ↦ inl (looked_other q p looking other before)
    ]
    | inr had ↦ inr (threads_spared plan s p q kept inside had)
  ];
}
  where
    has_one : p < length plan.pools → HasThreads plan (with_spare_thread p s) p
    has_one exists some = omega (arith, one_is_enough (pool_at plan p) (held.timeouts p is_there), one_spared plan s p kept exists)
