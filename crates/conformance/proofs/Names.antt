-- The names of a family are the label, and the label, `_` and a number from 2 on.
use Rattle.std.proofs.Common.{◌≡◌, ◌↔◌, IsTrue, Bool, ℕ, ◌≤◌, ◌==◌, true, false, nat_le, List, [], ◌∷◌, ◌++◌, length, take, drop, decimal, Option, None, Some, inl, inr, refl, sym, ap, subst, ◌∙◌, append_assoc, append-nil}
use Rattle.std.specs.Option.{option_map_or}
use Rattle.std.specs.Str.{bytes_eq}
use Rattle.std.proofs.lemmas.Bool.{and_parts, and_from, leb-true, le-leb, eqb-true}
use Rattle.std.proofs.lemmas.List.{take-append-drop, take_at, drop_at}
use Rattle.std.proofs.lemmas.Slice.Eq.{bytes_eq-Decides}
use Rattle.support.specs.declared.line_number.TheConstants.{MAX_LINE_NUMBER}
use Rattle.support.specs.LineNumber.{number_of}
use Rattle.support.proofs.WrittenNumbers.{number_read, number_written}
use Rattle.conformance.specs.Family.{is_family_end, is_of_family, IsOfFamily}

-- Digits that are read as a number from 2 on are the decimal form of this number.
from_two : (digits : List ℕ) (read : Option ℕ) → number_of digits ≡ read → option_map_or (nat_le 2) read false ≡ true → (n : ℕ) × (2 ≤ n) × (n ≤ MAX_LINE_NUMBER) × (digits ≡ decimal n)
from_two digits None reads test = cc
from_two digits (Some n) reads test = let found = number_read digits n reads in (n, leb-true 2 n test, leb-true n MAX_LINE_NUMBER found.0, found.1)

end_read : (label end : List ℕ) → is_family_end end ≡ true → IsOfFamily label (label ++ end)
end_read label [] test = inl (append-nil label)
end_read label (byte ∷ digits) test =
    let parts = and_parts (byte == 95) _ test in
    let found = from_two digits (number_of digits) refl parts.1 in
    let marked : label ++ byte ∷ digits ≡ label ++ 95 ∷ digits = ap (λ (b : ℕ). label ++ b ∷ digits) (eqb-true byte 95 parts.0) in
    let written : label ++ 95 ∷ digits ≡ label ++ 95 ∷ decimal found.0 = ap (λ (text : List ℕ). label ++ 95 ∷ text) found.3 in
    inr (found.0, found.1, found.2, marked ∙ (written ∙ sym (append_assoc label (95 ∷ []) (decimal found.0))))

-- A name that passes the test is one of these names.
pub name_read : (label name : List ℕ) → is_of_family label name ≡ true → IsOfFamily label name
unfolding is_of_family
name_read label name test =
    let parts = and_parts (bytes_eq (take (length label) name) label) _ test in
    let front : take (length label) name ≡ label = (bytes_eq-Decides (take (length label) name) label).0 parts.0 in
    let whole : label ++ drop (length label) name ≡ name = ap (λ (text : List ℕ). text ++ drop (length label) name) (sym front) ∙ take-append-drop (length label) name in
    subst (IsOfFamily label) whole (end_read label (drop (length label) name) parts.1)

end_written : (label end : List ℕ) → is_family_end end ≡ true → is_of_family label (label ++ end) ≡ true
unfolding is_of_family
end_written label end test =
    and_from _ _ ((bytes_eq-Decides _ label).1 (take_at label end (length label) refl)) (ap is_family_end (drop_at label end (length label) refl) ∙ test)

number_ends : (n : ℕ) → 2 ≤ n → n ≤ MAX_LINE_NUMBER → is_family_end (95 ∷ decimal n) ≡ true
number_ends n two most = ap (λ (read : Option ℕ). option_map_or (nat_le 2) read false) (number_written n (le-leb n MAX_LINE_NUMBER most)) ∙ le-leb 2 n two

-- Each of these names passes the test.
pub name_written : (label name : List ℕ) → IsOfFamily label name → is_of_family label name ≡ true
name_written label name (inl same) = subst (λ (text : List ℕ). is_of_family label text ≡ true) (append-nil label ∙ sym same) (end_written label [] refl)
name_written label name (inr (n, two, most, same)) =
    let joined : label ++ 95 ∷ decimal n ≡ name = sym (append_assoc label (95 ∷ []) (decimal n)) ∙ sym same in
    subst (λ (text : List ℕ). is_of_family label text ≡ true) joined (end_written label (95 ∷ decimal n) (number_ends n two most))

-- A function that returns the result of the test decides which names are of the family.
pub names_by : (label name : List ℕ) (path_match : Bool) → path_match ≡ is_of_family label name → IsTrue path_match ↔ IsOfFamily label name
names_by label name path_match same = (λ yes. name_read label name (sym same ∙ yes), λ one. same ∙ name_written label name one)
