-- The key that a search finds has the name that was searched.
use Rattle.std.proofs.Common.{◌≡◌, ℕ, Bool, true, false, if◌then◌else◌, List, [], ◌∷◌, drop, Option, None, Some, IfSome, option_and_then, refl, sym, ap, subst}
use Rattle.plan_text.specs.declared.place.TextPlace.{TextPlace}
use Rattle.plan_text.specs.declared.outline.Range.{Range}
use Rattle.plan_text.specs.declared.outline.Part.{Part}
use Rattle.plan_text.specs.declared.outline.Part.TheVariants as part
use Rattle.plan_text.specs.Places.{is_named, key_in, entry_in, entry_key_in, start_of, IsPlaceOf, IsNameAt}

-- the parts begin with a key of this name
pub record BeginsWithKey (text name : List ℕ) (parts : List Part) : Type 0 where
  pub range : Range
  pub named : is_named text range name ≡ true
  pub start : start_of parts ≡ Some range.start

chosen : (text name : List ℕ) (key : Range) (parts found : List Part) (named : Bool) → is_named text key name ≡ named
    → (key_in text name parts ≡ Some found → BeginsWithKey text name found)
    → (if named then Some (part.Key key ∷ parts) else key_in text name parts) ≡ Some found → BeginsWithKey text name found
chosen text name key parts found true named later e = let same : part.Key key ∷ parts ≡ found = cc in record { range = key; named = named; start = ap start_of (sym same) }
chosen text name key parts found false named later e = later e

key_found : (text name : List ℕ) (parts found : List Part) → key_in text name parts ≡ Some found → BeginsWithKey text name found
key_found text name [] found e = absurd cc
key_found text name (part.Header header ∷ parts) found e = absurd cc
key_found text name (part.Key key ∷ parts) found e = chosen text name key parts found (is_named text key name) refl (key_found text name parts found) e
key_found text name (part.Value start ∷ parts) found e = key_found text name parts found e
key_found text name (part.Element start ∷ parts) found e = key_found text name parts found e

in_entry : (text key : List ℕ) (entry : Option (List Part)) (found : List Part) → option_and_then (λ parts. key_in text key (drop 1 parts)) entry ≡ Some found → BeginsWithKey text key found
in_entry text key None found e = absurd cc
in_entry text key (Some parts) found e = key_found text key (drop 1 parts) found e

at_place : (text key : List ℕ) (range : Range) (place : Option TextPlace) → is_named text range key ≡ true → IsPlaceOf text (Some range.start) place → IfSome place (IsNameAt text key)
at_place text key range None named here = tt
at_place text key range (Some place) named here = (range, named, here)

-- the position of the key that a search finds is that of its name
pub name_at_place : (text list : List ℕ) (index : ℕ) (key : List ℕ) (parts found : List Part) (place : Option TextPlace)
    → Some found ≡ entry_key_in text list index key parts → IsPlaceOf text (start_of found) place → IfSome place (IsNameAt text key)
name_at_place text list index key parts found place e here =
    let begins = in_entry text key (entry_in text list index parts) found (sym e) in
    at_place text key begins.range place begins.named (subst (λ (start : Option ℕ). IsPlaceOf text start place) begins.start here)
