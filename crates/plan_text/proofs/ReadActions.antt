-- Proofs that a text that parses as an action is the spelling of that action.
use Rattle.std.proofs.Common.{◌≡◌, ◌↔◌, ℕ, zero, suc, ◌+◌, ◌<◌, Bool, true, not, ◌==◌, ◌&&◌, nat_le, List, [], ◌∷◌, ◌++◌, length, take, drop, slice_index, slice_get, codes, Option, None, Some, refl, sym, ap, subst, ◌∙◌, arith, add-one, inl, inr}
use Rattle.std.specs.Prelude.{decimal}
use Rattle.std.specs.List.{position_or_len}
use Rattle.std.specs.Str.{bytes_eq}
use Rattle.std.specs.Str.Parse.{digits_value}
use Rattle.std.proofs.lemmas.Bool.{cases_Bool, and_parts, and_from, leb-true, ltb-true, eqb-true, eq-eqb}
use Rattle.std.proofs.lemmas.Fmt.{decimal-digits_value}
use Rattle.std.proofs.lemmas.Option.{option_and_then_some, cond_some}
use Rattle.std.proofs.lemmas.Slice.Eq.{bytes_eq-Decides}
use Rattle.job_bodies.specs.declared.limits.TheConstants.{MAX_WORK}
use Rattle.job_bodies.specs.WellFormed.{is_within, is_valid_name}
use Rattle.plan_text.specs.ParsedActions.{ParsedAction, work, submit, submit_as, get, split_space, name_of, are_digits, is_positive_decimal, parse_units, parse_submit_as, submit_parts, parse_submit, parse_action_of_verb, parse_action, spelling, IsValidParsedAction}
use Rattle.plan_text.proofs.Numbers.{digits_are, not_empty}
use Rattle.plan_text.proofs.SpelledActions.{spelled}

-- ---- the parts of a text before and after its first space
abbrev is_space : ℕ → Bool
is_space b = b == 32

-- the byte at the index of the first space is a space
space_found : (text : List ℕ) → position_or_len is_space text < length text → slice_get text (position_or_len is_space text) ≡ Some 32
space_found [] within = absurd (omega arith)
space_found (b ∷ text) within =
    elim (cases_Bool (is_space b)) [
      | inl space ↦ rw space (ap (λ (n : ℕ). Some n) (eqb-true b 32 space))
      | inr other ↦
          let next : position_or_len is_space (b ∷ text) ≡ suc (position_or_len is_space text) = rw other (omega arith) in
          rw next (space_found text (omega (arith, within, next)))
    ]

cut : (text : List ℕ) (n : ℕ) → slice_get text n ≡ Some 32 → text ≡ take n text ++ 32 ∷ drop (suc n) text
cut [] n e = absurd cc
cut (b ∷ text) zero e = let same : b ≡ 32 = cc in ap (λ (x : ℕ). x ∷ text) same
cut (b ∷ text) (suc n) e = ap (λ (rest : List ℕ). b ∷ rest) (cut text n e)

-- a text is the parts before and after its first space, with a space between them
joined : (text : List ℕ) (words : List ℕ × List ℕ) → split_space text ≡ Some words → text ≡ words.0 ++ 32 ∷ words.1
joined text words e =
    let found = cond_some (_) _ _ e in
    let within = ltb-true _ _ found.0 in
    let at = position_or_len is_space text in
    let whole : text ≡ take at text ++ 32 ∷ drop (at + 1) text = rw add-one (cut text at (space_found text within)) in
    whole ∙ ap (λ (parts : List ℕ × List ℕ). parts.0 ++ 32 ∷ parts.1) found.1

-- ---- numbers and names
units_spelled : (text : List ℕ) (units : ℕ) → parse_units text ≡ Some units → (is_within 1 MAX_WORK units ≡ true) × (text ≡ decimal units)
unfolding parse_units
units_spelled text units e =
    let found = cond_some (is_positive_decimal text && is_within 1 MAX_WORK (digits_value 10 text)) _ _ e in
    let parts = and_parts (is_positive_decimal text) _ found.0 in
    let shape = and_parts _ (are_digits text) parts.0 in
    let lead = and_parts (not (length text == 0)) (not (slice_index text 0 == 48)) shape.0 in
    let small = (and_parts _ (nat_le (digits_value 10 text) MAX_WORK) parts.1).1 in
    let first : slice_index text 0 ≡ 48 → length text ≡ 1 = λ zero_first. let same = eq-eqb (slice_index text 0) 48 zero_first in let none = rw same at lead.1 in absurd cc in
    let spelled : decimal (digits_value 10 text) ≡ text = decimal-digits_value digits_are text shape.1 (not_empty text lead.0) first (omega (arith, leb-true _ _ small)) in
    (subst (λ (n : ℕ). is_within 1 MAX_WORK n ≡ true) found.1 parts.1, sym spelled ∙ ap decimal found.1)

name_spelled : (text name : List ℕ) → name_of text ≡ Some name → (is_valid_name name ≡ true) × (text ≡ name)
name_spelled text name e =
    let found = cond_some (is_valid_name text) _ _ e in
    (subst (λ (n : List ℕ). is_valid_name n ≡ true) found.1 found.0, found.1)

-- ---- actions
abbrev pub Spells : List ℕ → ParsedAction → Type 0
Spells text parsed_action = IsValidParsedAction parsed_action × (text ≡ spelling parsed_action)

spells_same : (text : List ℕ) (made parsed_action : ParsedAction) (o : Option ParsedAction) → o ≡ Some parsed_action → o ≡ Some made → Spells text made → Spells text parsed_action
spells_same text made parsed_action o e m s = let same : made ≡ parsed_action = cc in subst (λ (x : ParsedAction). Spells text x) same s

is_word : (x y : List ℕ) → bytes_eq x y ≡ true → x ≡ y
is_word x y e = (bytes_eq-Decides x y).0 e

submit_as_spelled : (class text : List ℕ) (parsed_action : ParsedAction) → parse_submit_as class text ≡ Some parsed_action → Spells (codes "submit " ++ class ++ 32 ∷ text) parsed_action
unfolding parse_submit_as
submit_as_spelled class text parsed_action e =
    option_and_then_some _ (split_space text) _ e (λ words here h.
    elim (cases_Bool (bytes_eq words.0 (codes "as"))) [
      | inl word ↦
          option_and_then_some _ (name_of class) _ (rw word at h) (λ name named g.
          option_and_then_some _ (name_of words.1) _ g (λ slot slotted k.
          let c = name_spelled class name named in
          let s = name_spelled words.1 slot slotted in
          let behind : text ≡ codes "as" ++ 32 ∷ slot = joined text words here ∙ ap (λ (w : List ℕ). w ++ 32 ∷ words.1) (is_word words.0 (codes "as") word) ∙ ap (λ (w : List ℕ). codes "as" ++ 32 ∷ w) s.1 in
          let same : submit_as name slot ≡ parsed_action = cc in
          subst (λ (x : ParsedAction). Spells (codes "submit " ++ class ++ 32 ∷ text) x) same
          (and_from _ _ c.0 s.0, rw (behind, c.1) refl)))
      | inr other ↦ let none = rw other at h in absurd cc
    ])

submit_spelled : (text : List ℕ) (parts : Option (List ℕ × List ℕ)) (parsed_action : ParsedAction) → split_space text ≡ parts → submit_parts text parts ≡ Some parsed_action → Spells (codes "submit " ++ text) parsed_action
submit_spelled text None parsed_action whole e =
    option_and_then_some _ (name_of text) _ e (λ name named h.
    let c = name_spelled text name named in
    let same : submit name ≡ parsed_action = cc in
    subst (λ (x : ParsedAction). Spells (codes "submit " ++ text) x) same (c.0, ap (λ (w : List ℕ). codes "submit " ++ w) c.1))
submit_spelled text (Some words) parsed_action whole e =
    subst (λ (w : List ℕ). Spells (codes "submit " ++ w) parsed_action) (sym (joined text words whole)) (submit_as_spelled words.0 words.1 parsed_action e)

verb_spelled : (verb text : List ℕ) (parsed_action : ParsedAction) → parse_action_of_verb verb text ≡ Some parsed_action → Spells (verb ++ 32 ∷ text) parsed_action
unfolding parse_action_of_verb parse_submit
verb_spelled verb text parsed_action e =
    elim (cases_Bool (bytes_eq verb (codes "work"))) [
      | inl is_work ↦
          option_and_then_some _ (parse_units text) _ (rw is_work at e) (λ units here h.
          let u = units_spelled text units here in
          let same : work units ≡ parsed_action = cc in
          subst (λ (x : ParsedAction). Spells (verb ++ 32 ∷ text) x) same (u.0, rw (is_word verb _ is_work, u.1) refl))
      | inr no_work ↦
          let second = rw no_work at e in
          elim (cases_Bool (bytes_eq verb (codes "submit"))) [
            | inl is_submit ↦ subst (λ (w : List ℕ). Spells (w ++ 32 ∷ text) parsed_action) (sym (is_word verb _ is_submit)) (submit_spelled text (split_space text) parsed_action refl (rw is_submit at second))
            | inr no_submit ↦
                let third = rw no_submit at second in
                elim (cases_Bool (bytes_eq verb (codes "get"))) [
                  | inl is_get ↦
                      option_and_then_some _ (name_of text) _ (rw is_get at third) (λ slot here h.
                      let s = name_spelled text slot here in
                      let same : get slot ≡ parsed_action = cc in
                      subst (λ (x : ParsedAction). Spells (verb ++ 32 ∷ text) x) same (s.0, rw (is_word verb _ is_get, s.1) refl))
                  | inr no_get ↦ let none = rw no_get at third in absurd cc
                ]
          ]
    ]

-- a text that parses as an action is the spelling of that action, and the action is valid
pub read_spelled : (text : List ℕ) (parsed_action : ParsedAction) → parse_action text ≡ Some parsed_action → Spells text parsed_action
unfolding parse_action
read_spelled text parsed_action e =
    option_and_then_some _ (split_space text) _ e (λ words here h. subst (λ (t : List ℕ). Spells t parsed_action) (sym (joined text words here)) (verb_spelled words.0 words.1 parsed_action h))

-- a text parses as an action exactly when the action is valid and the text is its spelling
pub canonical : (text : List ℕ) (parsed_action : ParsedAction) → (parse_action text ≡ Some parsed_action) ↔ Spells text parsed_action
canonical text parsed_action = (read_spelled text parsed_action, λ s. ap parse_action s.1 ∙ spelled parsed_action s.0)
