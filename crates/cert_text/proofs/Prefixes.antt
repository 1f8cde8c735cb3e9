-- Lemmas about lists and objects that are parsed at the start of a text, part by part.
use Rattle.std.proofs.Common.{◌≡◌, ℕ, suc, ◌+◌, Bool, true, false, nat_lt, List, [], ◌∷◌, ◌++◌, length, map, refl, sym, ap, ◌∙◌, append_assoc, append-nil, arith}
use Rattle.std.proofs.lemmas.Bool.{lt-ltb}
use Rattle.std.proofs.lemmas.List.{map_push, length_push, length-map}
use Rattle.json.specs.Print.{quoted}
use Rattle.serde_json.specs.Data.{Data, object, member, no_members}
use Rattle.serde_json.specs.View.{items_of}
use Rattle.serde_json.specs.Written.{comma_if, compact_text, items_text}
use Rattle.cert_text.specs.CertText.{list_data}
use Rattle.cert_text.specs.Canonical.{BeginsAs}

-- the text of elements without the closing bracket; a comma precedes each element, except the first if `later` is false
abbrev elements_text : Bool → List Data → List ℕ
elements_text later [] = []
elements_text later (d ∷ ds) = comma_if later ++ (compact_text d ++ elements_text true ds)

-- at the start of the text of a list, `count` elements were parsed, and `rest` follows them
pub record BeginsList {X : Type 0} (made : X → Data) (text : List ℕ) (xs : List X) (count : ℕ) (rest : List ℕ) : Type 0 where
  pub as_many : length xs ≡ count
  pub prefix : text ≡ 91 ∷ (elements_text false (map made xs) ++ rest)

more_after : (ds : List Data) (d : Data) → elements_text true (ds ++ d ∷ []) ≡ elements_text true ds ++ (44 ∷ compact_text d)
more_after [] d = ap (λ (t : List ℕ). 44 ∷ t) (append-nil (compact_text d))
more_after (e ∷ ds) d = ap (λ (t : List ℕ). 44 ∷ (compact_text e ++ t)) (more_after ds d) ∙ ap (λ (t : List ℕ). 44 ∷ t) (sym (append_assoc (compact_text e) _ _))

more_elements : (ds : List Data) (d : Data) → elements_text false (ds ++ d ∷ []) ≡ elements_text false ds ++ (comma_if (nat_lt 0 (length ds)) ++ compact_text d)
more_elements [] d = append-nil (compact_text d)
more_elements (e ∷ ds) d =
    let some : nat_lt 0 (suc (length ds)) ≡ true = lt-ltb 0 (suc (length ds)) (omega arith) in
    rw some (ap (λ (t : List ℕ). compact_text e ++ t) (more_after ds d) ∙ sym (append_assoc (compact_text e) _ _))

ended : (later : Bool) (ds : List Data) → elements_text later ds ++ 93 ∷ [] ≡ items_text later (items_of ds)
ended true [] = refl
ended false [] = refl
ended later (d ∷ ds) =
    append_assoc (comma_if later) (compact_text d ++ elements_text true ds) (93 ∷ [])
    ∙ ap (λ (t : List ℕ). comma_if later ++ t) (append_assoc (compact_text d) (elements_text true ds) (93 ∷ []) ∙ ap (λ (t : List ℕ). compact_text d ++ t) (ended true ds))

-- `BeginsList` holds after one more element is parsed
pub list_more : {X : Type 0} (made : X → Data) (text : List ℕ) (xs : List X) (x : X) (count : ℕ) (rest element remaining : List ℕ) → BeginsList made text xs count rest → rest ≡ comma_if (nat_lt 0 count) ++ element
    → BeginsAs element (made x) remaining → BeginsList made text (xs ++ x ∷ []) (count + 1) remaining
list_more made text xs x count rest element remaining begins comma here = record {
  as_many = length_push xs x ∙ ap (λ (n : ℕ). n + 1) begins.as_many;
  prefix =
      let mapped : length (map made xs) ≡ count = length-map xs made ∙ begins.as_many in
      let pushed : elements_text false (map made (xs ++ x ∷ [])) ≡ elements_text false (map made xs) ++ (comma_if (nat_lt 0 count) ++ compact_text (made x)) =
      ap (elements_text false) (map_push made xs x) ∙ (more_elements (map made xs) (made x) ∙ ap (λ (n : ℕ). elements_text false (map made xs) ++ (comma_if (nat_lt 0 n) ++ compact_text (made x))) mapped) in
      begins.prefix ∙ ap (λ (t : List ℕ). 91 ∷ t)
      (ap (λ (t : List ℕ). elements_text false (map made xs) ++ t) (comma ∙ ap (λ (t : List ℕ). comma_if (nat_lt 0 count) ++ t) here)
      ∙ (regroup (elements_text false (map made xs)) (comma_if (nat_lt 0 count)) (compact_text (made x)) remaining ∙ ap (λ (t : List ℕ). t ++ remaining) (sym pushed)));
}
  where
    regroup : (a b c d : List ℕ) → a ++ (b ++ (c ++ d)) ≡ (a ++ (b ++ c)) ++ d
    regroup a b c d = simp append_assoc

-- the list is parsed completely when its closing bracket is parsed
pub list_whole : {X : Type 0} (made : X → Data) (text : List ℕ) (xs : List X) (count : ℕ) (rest remaining : List ℕ) → BeginsList made text xs count rest → rest ≡ 93 ∷ remaining → BeginsAs text (list_data (map made xs)) remaining
list_whole made text xs count rest remaining begins closed =
    begins.prefix ∙ ap (λ (t : List ℕ). 91 ∷ t)
    (ap (λ (t : List ℕ). elements_text false (map made xs) ++ t) closed ∙ (sym (append_assoc (elements_text false (map made xs)) (93 ∷ []) remaining) ∙ ap (λ (t : List ℕ). t ++ remaining) (ended false (map made xs))))

-- the text of the first key of an object, up to its value
abbrev pub first_key : List ℕ → List ℕ
first_key key = 123 ∷ (quoted key ++ 58 ∷ [])

abbrev pub next_key : List ℕ → List ℕ
next_key key = 44 ∷ (quoted key ++ 58 ∷ [])

-- if the values of an object of three keys were parsed in order, the object was parsed
pub triple_read : (j k l : List ℕ) (d e f : Data) (text at_d after_d at_e after_e at_f after_f rest : List ℕ) → text ≡ first_key j ++ at_d → BeginsAs at_d d after_d → after_d ≡ next_key k ++ at_e
    → BeginsAs at_e e after_e → after_e ≡ next_key l ++ at_f → BeginsAs at_f f after_f → after_f ≡ 125 ∷ rest → BeginsAs text (object (member j d (member k e (member l f no_members)))) rest
triple_read j k l d e f text at_d after_d at_e after_e at_f after_f rest a b c p q r s = simp (a, b, c, p, q, r, s, append_assoc)

-- if the value of an object of one key was parsed, the object was parsed
pub single_read : (j : List ℕ) (d : Data) (text at_d after_d rest : List ℕ) → text ≡ first_key j ++ at_d → BeginsAs at_d d after_d → after_d ≡ 125 ∷ rest → BeginsAs text (object (member j d no_members)) rest
single_read j d text at_d after_d rest a b c = simp (a, b, c, append_assoc)

-- if both values of an object of two keys were parsed in order, the second together with its key, the object was parsed
pub pair_read : (j k : List ℕ) (d e : Data) (text at_d after_d after_e rest : List ℕ) → text ≡ first_key j ++ at_d → BeginsAs at_d d after_d → after_d ≡ (next_key k ++ compact_text e) ++ after_e → after_e ≡ 125 ∷ rest
    → BeginsAs text (object (member j d (member k e no_members))) rest
pair_read j k d e text at_d after_d after_e rest a b c p = simp (a, b, c, p, append_assoc)
