-- Proofs that the spelling of a valid action parses as that action.
use Rattle.std.proofs.Common.{◌≡◌, ℕ, ◌+◌, ◌<◌, ◌≤◌, ◌^◌, Bool, true, false, not, ◌==◌, nat_lt, nat_le, List, [], ◌∷◌, ◌++◌, length, take, drop, slice_index, codes, Option, None, Some, refl, sym, ap, ap₂, subst, ◌∙◌, arith, append_assoc}
use Rattle.std.specs.Prelude.{if◌then◌else◌, option_and_then, decimal}
use Rattle.std.specs.List.{list_all, position_or_len, before_first, after_first}
use Rattle.std.specs.Str.{bytes_eq}
use Rattle.std.specs.Str.Parse.{digits_value}
use Rattle.std.proofs.lemmas.Bool.{and_parts, and_from, or_left, or_right, leb-true, lt-ltb, le-ltb, not_from_false, ne_eqb, cond-true, cond-false}
use Rattle.std.proofs.lemmas.Bool.Decides.{nat_tests}
use Rattle.std.proofs.lemmas.List.{take_at, drop_at, length-append, length_push}
use Rattle.std.proofs.lemmas.Fmt.{decimal_nonempty, first_decimal, digits_decimal, digits_value-decimal}
use Rattle.job_bodies.specs.declared.limits.TheConstants.{MAX_WORK}
use Rattle.job_bodies.specs.WellFormed.{is_within, is_letter, is_name_byte, is_valid_name}
use Rattle.plan_text.proofs.Numbers.{digits_are}
use Rattle.plan_text.specs.ParsedActions.{ParsedAction, work, submit, submit_as, get, split_space, name_of, is_digit, are_digits, is_positive_decimal, parse_units, parse_submit_as, submit_parts, parse_submit, parse_action_of_verb, parse_action, spelling, IsValidParsedAction}

-- ---- the parts of a text before and after its first space
abbrev is_space : ℕ → Bool
is_space b = b == 32

-- whether no byte of the text is a space
abbrev has_no_space : List ℕ → Bool
has_no_space text = list_all (λ b. not (is_space b)) text

place_of_space : (front rest : List ℕ) → has_no_space front ≡ true → position_or_len is_space (front ++ 32 ∷ rest) ≡ length front
place_of_space [] rest none = refl
place_of_space (b ∷ front) rest none =
    let parts = and_parts (not (is_space b)) _ none in
    rw (parts.0, place_of_space front rest parts.1) (omega arith)

nowhere : (text : List ℕ) → has_no_space text ≡ true → position_or_len is_space text ≡ length text
nowhere [] none = refl
nowhere (b ∷ text) none =
    let parts = and_parts (not (is_space b)) _ none in
    rw (parts.0, nowhere text parts.1) (omega arith)

splits : (front rest : List ℕ) → has_no_space front ≡ true → split_space (front ++ 32 ∷ rest) ≡ Some (front, rest)
splits front rest none =
    let at = place_of_space front rest none in
    let text : List ℕ = front ++ 32 ∷ rest in
    let within : nat_lt (position_or_len is_space text) (length text) ≡ true = lt-ltb _ _ (omega (arith, at, length-append front (32 ∷ rest))) in
    let before : before_first is_space text ≡ front = ap (λ n. take n text) at ∙ take_at front (32 ∷ rest) (length front) refl in
    let after : after_first is_space text ≡ rest = ap (λ n. drop (n + 1) text) at ∙ ap (drop (length front + 1)) (sym (append_assoc front (32 ∷ []) rest)) ∙ drop_at (front ++ 32 ∷ []) rest (length front + 1) (length_push front 32) in
    cond-true _ _ _ within ∙ ap₂ (λ (x y : List ℕ). Some (x, y)) before after

stays_whole : (text : List ℕ) → has_no_space text ≡ true → split_space text ≡ None
stays_whole text none =
    let past : nat_lt (position_or_len is_space text) (length text) ≡ false = le-ltb _ _ (omega (arith, nowhere text none)) in
    cond-false _ _ _ past

-- ---- names have no space
name_byte_no_space : (b : ℕ) → is_name_byte b ≡ true → not (is_space b) ≡ true
name_byte_no_space b h = grind (arith, nat_tests)

bytes_no_space : (bytes : List ℕ) → list_all is_name_byte bytes ≡ true → has_no_space bytes ≡ true
bytes_no_space [] h = refl
bytes_no_space (b ∷ bytes) h =
    let parts = and_parts (is_name_byte b) _ h in
    and_from _ _ (name_byte_no_space b parts.0) (bytes_no_space bytes parts.1)

name_no_space : (name : List ℕ) → is_valid_name name ≡ true → has_no_space name ≡ true
name_no_space name valid = bytes_no_space name (and_parts _ (list_all is_name_byte name) valid).1

-- ---- numbers have no space
digit_in_name : (b : ℕ) → is_digit b ≡ true → is_name_byte b ≡ true
digit_in_name b h = or_left _ _ (or_right (is_letter b) _ h)

pub digits_in_name : (digits : List ℕ) → are_digits digits ≡ true → list_all is_name_byte digits ≡ true
digits_in_name [] h = refl
digits_in_name (b ∷ digits) h =
    let parts = and_parts (is_digit b) _ h in
    and_from _ _ (digit_in_name b parts.0) (digits_in_name digits parts.1)

units_read : (units : ℕ) → is_within 1 MAX_WORK units ≡ true → parse_units (decimal units) ≡ Some units
unfolding parse_units
units_read units within =
    let bounds = and_parts (nat_le 1 units) (nat_le units MAX_WORK) within in
    let some : 1 ≤ units = leb-true _ _ bounds.0 in
    let small : units < 2 ^ 64 = omega (arith, leb-true _ _ bounds.1) in
    let value : digits_value 10 (decimal units) ≡ units = digits_value-decimal digits_are units small in
    let filled : not (length (decimal units) == 0) ≡ true = not_from_false _ (ne_eqb _ 0 (λ e. omega (arith, decimal_nonempty units small))) in
    let leading : not (slice_index (decimal units) 0 == 48) ≡ true = not_from_false _ (ne_eqb _ 48 (λ e. omega (arith, first_decimal units some small))) in
    let full : is_positive_decimal (decimal units) ≡ true = and_from _ _ (and_from _ _ filled leading) (digits_decimal digits_are units small) in
    let fits : is_within 1 MAX_WORK (digits_value 10 (decimal units)) ≡ true = subst (λ (n : ℕ). is_within 1 MAX_WORK n ≡ true) (sym value) within in
    cond-true _ _ _ (and_from _ _ full fits) ∙ ap (λ (n : ℕ). Some n) value

-- ---- the spellings of actions
-- the parser splits a text at its first space into the verb and the rest
by_verb : (verb text : List ℕ) → has_no_space verb ≡ true → parse_action (verb ++ 32 ∷ text) ≡ parse_action_of_verb verb text
unfolding parse_action
by_verb verb text none = ap (λ o. option_and_then (λ words. parse_action_of_verb words.0 words.1) o) (splits verb text none)

name_read : (name : List ℕ) → is_valid_name name ≡ true → name_of name ≡ Some name
name_read name valid = cond-true _ _ _ valid

submit_read : (class : List ℕ) → is_valid_name class ≡ true → parse_submit class ≡ Some (submit class)
unfolding parse_submit
submit_read class valid = ap (submit_parts class) (stays_whole class (name_no_space class valid)) ∙ ap (λ o. option_and_then (λ name. Some (submit name)) o) (name_read class valid)

-- the submit of this class that fills the slot, if the slot is a valid name
abbrev with_slot : List ℕ → Option (List ℕ) → Option ParsedAction
with_slot class slot = option_and_then (λ name. Some (submit_as class name)) slot

abbrev with_class : Option (List ℕ) → List ℕ → Option ParsedAction
with_class class slot = option_and_then (λ name. with_slot name (name_of slot)) class

submit_as_read : (class slot : List ℕ) → is_valid_name class ≡ true → is_valid_name slot ≡ true → parse_submit (class ++ 32 ∷ (codes "as" ++ 32 ∷ slot)) ≡ Some (submit_as class slot)
unfolding parse_submit parse_submit_as
submit_as_read class slot valid named =
    let behind : List ℕ = codes "as" ++ 32 ∷ slot in
    ap (submit_parts (class ++ 32 ∷ behind)) (splits class behind (name_no_space class valid))
    ∙ ap (λ o. option_and_then (λ words. if bytes_eq words.0 (codes "as") then with_class (name_of class) words.1 else None) o) (splits (codes "as") slot refl)
    ∙ ap (λ o. with_class o slot) (name_read class valid)
    ∙ ap (with_slot class) (name_read slot named)

spelled_work : (units : ℕ) → is_within 1 MAX_WORK units ≡ true → parse_action (codes "work " ++ decimal units) ≡ Some (work units)
unfolding parse_action_of_verb
spelled_work units within = by_verb (codes "work") (decimal units) refl ∙ ap (λ o. option_and_then (λ n. Some (work n)) o) (units_read units within)

spelled_submit : (class : List ℕ) → is_valid_name class ≡ true → parse_action (codes "submit " ++ class) ≡ Some (submit class)
unfolding parse_action_of_verb
spelled_submit class valid = by_verb (codes "submit") class refl ∙ submit_read class valid

spelled_submit_as : (class slot : List ℕ) → is_valid_name class ≡ true → is_valid_name slot ≡ true → parse_action (codes "submit " ++ class ++ (codes " as " ++ slot)) ≡ Some (submit_as class slot)
unfolding parse_action_of_verb
spelled_submit_as class slot valid named = by_verb (codes "submit") (class ++ 32 ∷ (codes "as" ++ 32 ∷ slot)) refl ∙ submit_as_read class slot valid named

spelled_get : (slot : List ℕ) → is_valid_name slot ≡ true → parse_action (codes "get " ++ slot) ≡ Some (get slot)
unfolding parse_action_of_verb
spelled_get slot named = by_verb (codes "get") slot refl ∙ ap (λ o. option_and_then (λ name. Some (get name)) o) (name_read slot named)

-- ---- the spelling of a valid action parses as that action
pub spelled : (parsed_action : ParsedAction) → IsValidParsedAction parsed_action → parse_action (spelling parsed_action) ≡ Some parsed_action
spelled (work units) valid = spelled_work units valid
spelled (submit class) valid = spelled_submit class valid
spelled (submit_as class slot) valid = let parts = and_parts (is_valid_name class) (is_valid_name slot) valid in spelled_submit_as class slot parts.0 parts.1
spelled (get slot) valid = spelled_get slot valid
