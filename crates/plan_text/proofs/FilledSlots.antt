-- Proofs that a filled slot was filled by a submit with that slot, and that no later get has emptied it.
use Rattle.std.proofs.Common.{◌≡◌, ℕ, zero, suc, ◌<◌, ◌≤◌, List, [], ◌∷◌, length, take, slice_get, Option, None, Some, refl, sym, ap, subst, ◌∙◌, arith, add-one, inl, inr, ◌⊎◌}
use Rattle.std.specs.Str.{bytes_eq}
use Rattle.std.proofs.lemmas.Bool.{cases_Bool, cases_lt}
use Rattle.std.proofs.lemmas.Slice.Eq.{bytes_eq-Decides}
use Rattle.plan_text.specs.ParsedActions.{ParsedAction, work, submit, submit_as, get, parse_action}
use Rattle.plan_text.specs.Slots.{filled_by, filled}
use Rattle.plan_text.proofs.SlotStates.{filled_more}

-- the text at index i parses as this action
pub record HasParsedAction (texts : List (List ℕ)) (i : ℕ) (parsed_action : ParsedAction) : Type 0 where
  pub text : List ℕ
  pub here : slice_get texts i ≡ Some text
  pub gives : parse_action text ≡ Some parsed_action

-- the submit at position t filled the slot before position i, and no get between them names the slot
pub record Fills (texts : List (List ℕ)) (i : ℕ) (slot : List ℕ) (t : ℕ) : Type 0 where
  pub before : t < i
  pub class : List ℕ
  pub submitted : HasParsedAction texts t (submit_as class slot)
  pub since : (j : ℕ) → t < j → j < i → HasParsedAction texts j (get slot) → ⊥

-- the action at position i filled the slot, or the slot was filled before and this action is not a get of the slot
abbrev FilledHere : List ℕ → ℕ → Option ℕ → Option ParsedAction → ℕ → Type 0
FilledHere slot i before parsed_action t =
    ((t ≡ i) × (class : List ℕ) × (parsed_action ≡ Some (submit_as class slot))) ⊎ ((before ≡ Some t) × (parsed_action ≡ Some (get slot) → ⊥))

filled_here : (slot : List ℕ) (i : ℕ) (before : Option ℕ) (parsed_action : Option ParsedAction) (t : ℕ) → filled_by slot i before parsed_action ≡ Some t → FilledHere slot i before parsed_action t
filled_here slot i before None t e = inr (e, λ h. cc)
filled_here slot i before (Some (work units)) t e = inr (e, λ h. cc)
filled_here slot i before (Some (submit class)) t e = inr (e, λ h. cc)
filled_here slot i before (Some (submit_as class name)) t e =
    elim (cases_Bool (bytes_eq name slot)) [
      | inl same ↦
          let now = rw same at e in
          let name-is : name ≡ slot = (bytes_eq-Decides name slot).0 same in
          inl (cc, class, ap (λ (s : List ℕ). Some (submit_as class s)) name-is)
      | inr other ↦ inr (rw other at e, λ h. cc)
    ]
filled_here slot i before (Some (get name)) t e =
    elim (cases_Bool (bytes_eq name slot)) [
      | inl same ↦ let now = rw same at e in absurd cc
      | inr other ↦
          let apart : Some (get name) ≡ Some (get slot) → ⊥ = λ h.
          let name-is : name ≡ slot = cc in
          let same = (bytes_eq-Decides name slot).1 name-is in
          cc in
          inr (rw other at e, apart)
    ]

-- the list has a text at each index below its length
text_within : (texts : List (List ℕ)) (i : ℕ) → i < length texts → (text : List ℕ) × (slice_get texts i ≡ Some text)
text_within [] i within = absurd (omega arith)
text_within (text ∷ texts) zero within = (text, refl)
text_within (text ∷ texts) (suc i) within = text_within texts i (omega arith)

same_text : (texts : List (List ℕ)) (i : ℕ) (x y : List ℕ) → slice_get texts i ≡ Some x → slice_get texts i ≡ Some y → x ≡ y
same_text texts i x y a b = cc

no_get_here : (texts : List (List ℕ)) (slot : List ℕ) (i : ℕ) (text : List ℕ) → slice_get texts i ≡ Some text → (parse_action text ≡ Some (get slot) → ⊥) → HasParsedAction texts i (get slot) → ⊥
no_get_here texts slot i text here apart has = apart (rw (same_text texts i text has.text here has.here) has.gives)

fills_more : (texts : List (List ℕ)) (i : ℕ) (slot : List ℕ) (t : ℕ) → Fills texts i slot t → (HasParsedAction texts i (get slot) → ⊥) → Fills texts (suc i) slot t
fills_more texts i slot t fills none = record {
  before = omega (arith, fills.before);
  class = fills.class;
  submitted = fills.submitted;
  since = λ j after within.
      elim (cases_lt j i) [
        | inl lt ↦ fills.since j after lt
        | inr ge ↦ let same : i ≡ j = omega arith in subst (λ (k : ℕ). HasParsedAction texts k (get slot) → ⊥) same none
      ];
}

-- a slot that is filled before position i has a submit before i that filled it
pub fills : (texts : List (List ℕ)) (i : ℕ) (slot : List ℕ) (t : ℕ) → i ≤ length texts → filled (take i texts) slot ≡ Some t → Fills texts i slot t
fills texts zero slot t within e = absurd cc
fills texts (suc i) slot t within e =
    let text = text_within texts i (omega arith) in
    let next : filled (take (suc i) texts) slot ≡ filled_by slot i (filled (take i texts) slot) (parse_action text.0) = rw (← add-one) (filled_more slot texts i text.0 text.1) in
    elim (filled_here slot i (filled (take i texts) slot) (parse_action text.0) t (sym next ∙ e)) [
      | inl here ↦ record {
        before = omega (arith, here.0);
        class = here.1;
        submitted = record { text = text.0; here = rw here.0 text.1; gives = here.2 };
        since = λ j after within has. absurd (omega (arith, here.0));
      }
      | inr earlier ↦ fills_more texts i slot t (fills texts i slot t (omega arith) earlier.0) (no_get_here texts slot i text.0 text.1 earlier.1)
    ]
