-- Proofs that data are read from their own text: numbers have at most 64 bits, nesting is limited, and keys are in order.
use Rattle.std.proofs.Common.{◌≡◌, ℕ, suc, ◌^◌, ◌<◌, ◌≤◌, Bool, true, false, List, [], ◌∷◌, ◌++◌, map, option_map, option_and_then, Some, Greater, nat_cmp, IsUtf8, refl, sym, ap, ◌∙◌, arith, append-nil}
use Rattle.std.specs.Cmp.Lexicographic.{slice_cmp}
use Rattle.std.proofs.lemmas.Fmt.{IsAscii-decimal}
use Rattle.std.proofs.lemmas.Str.{IsUtf8-append, IsUtf8-nil, IsUtf8-from_ascii}
use Rattle.json.specs.Json as json
use Rattle.json.specs.Lex.{tokens}
use Rattle.json.specs.Print.{quoted, print}
use Rattle.json.specs.Tree.{json_tokens, depth, items_depth, HasNumbers, ItemsHaveNumbers}
use Rattle.json.proofs.Printed.Decimals.{IsNumber-decimal}
use Rattle.json.proofs.Printed.Tokens.{tokens-print}
use Rattle.json.proofs.Printed.Trees.{value-json_tokens, ArePrintable-json_tokens}
use Rattle.json.proofs.Printed.Utf8.{IsUtf8-are_ascii}
use Rattle.serde_json.specs.Data.{Data, number, object, member, no_members}
use Rattle.serde_json.specs.Read.{of_json, of_items, read, max_depth}
use Rattle.serde_json.specs.View.{items_of}
use Rattle.serde_json.specs.Written.{outline, items_outline, comma_if, compact_text, items_text}
use Rattle.serde_json.proofs.Numbers.{number_of-decimal}
use Rattle.serde_json.proofs.Texts.{print-outline}
use Rattle.job_bodies.proofs.Passing.{EachPlace}
use Rattle.cert_text.specs.CertText.{number_data, list_data}

pub record IsReadable (levels : ℕ) (d : Data) : Type 0 where
  pub numbers : HasNumbers (outline d)
  pub shallow : depth (outline d) ≤ levels
  pub back : of_json (outline d) ≡ Some d
  pub utf8 : IsUtf8 (compact_text d)

pub number_readable : (levels n : ℕ) → n < 2 ^ 64 → IsReadable levels (number_data n)
number_readable levels n fits = record {
  numbers = IsNumber-decimal n fits;
  shallow = omega arith;
  back = ap (option_map number) (number_of-decimal n fits);
  utf8 = IsUtf8-from_ascii _ (IsAscii-decimal n fits);
}

pub deeper : (d : Data) (few more : ℕ) → few ≤ more → IsReadable few d → IsReadable more d
deeper d few more above r = record { numbers = r.numbers; shallow = omega (arith, r.shallow); back = r.back; utf8 = r.utf8 }

-- ---- lists
record AreReadable {X : Type 0} (levels : ℕ) (f : X → Data) (xs : List X) : Type 0 where
  numbers : ItemsHaveNumbers (items_outline (items_of (map f xs)))
  shallow : items_depth (items_outline (items_of (map f xs))) ≤ levels
  back : of_items (items_outline (items_of (map f xs))) ≡ Some (items_of (map f xs))
  utf8 : (later : Bool) → IsUtf8 (items_text later (items_of (map f xs)))

comma_utf8 : (later : Bool) → IsUtf8 (comma_if later)
comma_utf8 true = IsUtf8-are_ascii (44 ∷ []) refl
comma_utf8 false = IsUtf8-nil

ending_utf8 : (later : Bool) → IsUtf8 (items_text later (items_of []))
ending_utf8 true = IsUtf8-are_ascii (93 ∷ []) refl
ending_utf8 false = IsUtf8-are_ascii (93 ∷ []) refl

elements_readable : {X : Type 0} (levels : ℕ) (f : X → Data) (xs : List X) → EachPlace xs (λ i x. IsReadable levels (f x)) → AreReadable levels f xs
elements_readable levels f [] each = record { numbers = tt; shallow = omega arith; back = refl; utf8 = ending_utf8 }
elements_readable levels f (x ∷ xs) each =
    let first : IsReadable levels (f x) = each 0 x refl in
    let rest : AreReadable levels f xs = elements_readable levels f xs (λ i y here. each (suc i) y here) in
    record {
      numbers = (first.numbers, rest.numbers);
      shallow = omega (arith, first.shallow, rest.shallow);
      back = rw (first.back, rest.back) refl;
      utf8 = λ later. IsUtf8-append (comma_if later) _ (comma_utf8 later) (IsUtf8-append (compact_text (f x)) _ first.utf8 (rest.utf8 true));
    }

pub list_readable : {X : Type 0} (levels : ℕ) (f : X → Data) (xs : List X) → EachPlace xs (λ i x. IsReadable levels (f x)) → IsReadable (suc levels) (list_data (map f xs))
list_readable levels f xs each =
    let elements = elements_readable levels f xs each in
    record {
      numbers = elements.numbers;
      shallow = omega (arith, elements.shallow);
      back = rw elements.back refl;
      utf8 = IsUtf8-append (91 ∷ []) _ (IsUtf8-are_ascii (91 ∷ []) refl) (elements.utf8 false);
    }

-- ---- objects of one, two and three keys
pub record IsKey (key : List ℕ) : Type 0 where
  pub utf8 : IsUtf8 (quoted key)

-- key j comes before key k in the order of keys
pub record IsBefore (j k : List ℕ) : Type 0 where
  pub order : slice_cmp nat_cmp k j ≡ Greater

member_utf8 : (prefix key : List ℕ) (d : Data) (rest : List ℕ) → IsUtf8 prefix → IsKey key → IsUtf8 (compact_text d) → IsUtf8 rest → IsUtf8 (prefix ++ (quoted key ++ 58 ∷ (compact_text d ++ rest)))
member_utf8 prefix key d rest before name here remaining =
    IsUtf8-append prefix _ before (IsUtf8-append (quoted key) _ name.utf8 (IsUtf8-append (58 ∷ []) _ (IsUtf8-are_ascii (58 ∷ []) refl) (IsUtf8-append (compact_text d) rest here remaining)))

brace_utf8 : IsUtf8 (123 ∷ [])
brace_utf8 = IsUtf8-are_ascii (123 ∷ []) refl

end_utf8 : IsUtf8 (125 ∷ [])
end_utf8 = IsUtf8-are_ascii (125 ∷ []) refl

pub single_readable : (levels : ℕ) (j : List ℕ) (d : Data) → IsKey j → IsReadable levels d → IsReadable (suc levels) (object (member j d no_members))
single_readable levels j d key only = record {
  numbers = (only.numbers, tt);
  shallow = omega (arith, only.shallow);
  back = rw only.back refl;
  utf8 = member_utf8 (123 ∷ []) j d _ brace_utf8 key only.utf8 end_utf8;
}

pub pair_readable : (levels : ℕ) (j k : List ℕ) (d e : Data) → IsKey j → IsKey k → IsBefore j k → IsReadable levels d → IsReadable levels e → IsReadable (suc levels) (object (member j d (member k e no_members)))
pair_readable levels j k d e first_key second_key jk first second = record {
  numbers = (first.numbers, (second.numbers, tt));
  shallow = omega (arith, first.shallow, second.shallow);
  back = rw (first.back, second.back, jk.order) refl;
  utf8 = member_utf8 (123 ∷ []) j d _ brace_utf8 first_key first.utf8 (member_utf8 (44 ∷ []) k e _ (comma_utf8 true) second_key second.utf8 end_utf8);
}

pub triple_readable : (levels : ℕ) (j k l : List ℕ) (d e f : Data) → IsKey j → IsKey k → IsKey l → IsBefore j k → IsBefore j l → IsBefore k l → IsReadable levels d → IsReadable levels e → IsReadable levels f
    → IsReadable (suc levels) (object (member j d (member k e (member l f no_members))))
triple_readable levels j k l d e f first_key second_key third_key jk jl kl first second third = record {
  numbers = (first.numbers, (second.numbers, (third.numbers, tt)));
  shallow = omega (arith, first.shallow, second.shallow, third.shallow);
  back = rw (first.back, second.back, jk.order, third.back, jl.order, kl.order) refl;
  utf8 = member_utf8 (123 ∷ []) j d _ brace_utf8 first_key first.utf8
      (member_utf8 (44 ∷ []) k e _ (comma_utf8 true) second_key second.utf8 (member_utf8 (44 ∷ []) l f _ (comma_utf8 true) third_key third.utf8 end_utf8));
}

-- ---- the text of readable data
tokens_of_text : (levels : ℕ) (d : Data) → IsReadable levels d → tokens (compact_text d) ≡ json_tokens (outline d)
tokens_of_text levels d r = ap tokens (sym (print-outline d)) ∙ tokens-print (json_tokens (outline d)) (ArePrintable-json_tokens (outline d) r.numbers)

-- the text of readable data has no white space between its tokens
pub text_is_compact : (levels : ℕ) (d : Data) → IsReadable levels d → compact_text d ≡ print (tokens (compact_text d))
text_is_compact levels d r = sym (print-outline d) ∙ ap print (sym (tokens_of_text levels d r))

pub text_reads : (levels : ℕ) (d : Data) → levels ≤ max_depth → IsReadable levels d → read (compact_text d) ≡ Some d
text_reads levels d few r =
    ap (λ ts. option_and_then of_json (option_and_then (λ p. json.if_last p.0 p.1) (json.value max_depth ts))) (tokens_of_text levels d r ∙ sym (append-nil (json_tokens (outline d))))
    ∙ (ap (λ found. option_and_then of_json (option_and_then (λ p. json.if_last p.0 p.1) found)) (value-json_tokens (outline d) max_depth [] (omega (arith, r.shallow)))
    ∙ r.back)
