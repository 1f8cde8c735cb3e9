-- A JSON text in its compact form has no newline.
use Rattle.std.proofs.Common.{◌≡◌, ◌∙◌, ℕ, suc, ◌+◌, ◌/◌, ◌%◌, Bool, true, false, cond, not, ◌&&◌, ◌||◌, ◌==◌, List, [], ◌∷◌, ◌++◌, drop, Option, Some, None, option_and_then, refl, sym, subst, arith, ap}
use Rattle.std.specs.Prelude.{◌≢◌, nat_lt}
use Rattle.std.specs.List.{AllByRecursion, list_all, prefix_len}
use Rattle.std.specs.Char.{is_ascii_digit, digit_char}
use Rattle.std.proofs.lemmas.List.Elements.{All-from_recursion}
use Rattle.std.proofs.lemmas.Bool.{false≢true, eqb-false, cond_both}
use Rattle.json.specs.Token.{Token, begin_object, end_object, begin_array, end_array, key, string, number, boolean, null, bad}
use Rattle.json.specs.Word.{head, after_digits, after_minus, after_sign, after_whole, after_fraction, after_exponent, after_number}
use Rattle.json.specs.Lex.{tokens}
use Rattle.json.specs.Print.{IsNumber, ArePrintableOrBad, IsPrintableOrBad, print, print_from, separator, token_text, quoted, escape, escape_byte, escape_letter, ends, begins}
use Rattle.json.proofs.Numbered.{ArePrintableOrBad-tokens}
use Rattle.diagnostics.specs.Lines.{HasNoNewline}

-- no byte is a newline
abbrev Clean : List ℕ → Type 0
Clean = AllByRecursion (λ byte. byte ≢ 10)

Clean-append : (xs ys : List ℕ) → Clean xs → Clean ys → Clean (xs ++ ys)
Clean-append [] ys h k = k
Clean-append (x ∷ xs) ys h k = (h.0, Clean-append xs ys h.1 k)

-- ---- numbers

-- a text is clean if it is clean after its first byte, which is no newline
first : (t : List ℕ) → head t ≢ 10 → Clean (drop 1 t) → Clean t
first [] differs rest = tt
first (x ∷ xs) differs rest = (differs, rest)

after_first : (t : List ℕ) (b : Bool) → (b ≡ true → head t ≢ 10) → Clean (cond b (drop 1 t) t) → Clean t
after_first t true differs rest = first t (differs refl) rest
after_first t false differs rest = rest

digit_differs : (x : ℕ) → is_ascii_digit x ≡ true → x ≢ 10
digit_differs x h e = absurd (false≢true (ap is_ascii_digit (sym e) ∙ h))

one_and : (n : ℕ) → 1 + n ≡ suc n
one_and n = omega arith

digits : (t : List ℕ) → Clean (drop (prefix_len is_ascii_digit t) t) → Clean t
digits [] rest = tt
digits (x ∷ xs) rest = go (is_ascii_digit x) (digit_differs x) (digits xs) rest
  where
    go : (b : Bool) → (b ≡ true → x ≢ 10) → (Clean (drop (prefix_len is_ascii_digit xs) xs) → Clean xs) → Clean (drop (cond b (1 + prefix_len is_ascii_digit xs) 0) (x ∷ xs)) → Clean (x ∷ xs)
    go true differs later rest = (differs refl, later (subst (λ k. Clean (drop k (x ∷ xs))) (one_and (prefix_len is_ascii_digit xs)) rest))
    go false differs later rest = rest

-- what follows, if it is known, is clean
abbrev CleanAfter : Option (List ℕ) → Type 0
CleanAfter None = ⊥
CleanAfter (Some rest) = Clean rest

at_digits : (t : List ℕ) → CleanAfter (after_digits t) → Clean t
at_digits t h = go (prefix_len is_ascii_digit t == 0) h
  where
    go : (b : Bool) → CleanAfter (cond b None (Some (drop (prefix_len is_ascii_digit t) t))) → Clean t
    go true never = absurd never
    go false rest = digits t rest

at_sign : (t : List ℕ) → Clean (after_sign t) → Clean t
at_sign t = after_first t ((head t == 45) || (head t == 43)) differs
  where
    differs : ((head t == 45) || (head t == 43)) ≡ true → head t ≢ 10
    differs h e = absurd (false≢true (ap (λ x. (x == 45) || (x == 43)) (sym e) ∙ h))

at_minus : (t : List ℕ) → Clean (after_minus t) → Clean t
at_minus t = after_first t (head t == 45) (λ h e. absurd (false≢true (ap (λ x. x == 45) (sym e) ∙ h)))

at_exponent : (t : List ℕ) → CleanAfter (after_exponent t) → Clean t
at_exponent t h = go ((head t == 101) || (head t == 69)) (λ h e. absurd (false≢true (ap (λ x. (x == 101) || (x == 69)) (sym e) ∙ h))) h
  where
    go : (b : Bool) → (b ≡ true → head t ≢ 10) → CleanAfter (cond b (after_digits (after_sign (drop 1 t))) (Some t)) → Clean t
    go true differs rest = first t (differs refl) (at_sign (drop 1 t) (at_digits _ rest))
    go false differs rest = rest

at_fraction : (t : List ℕ) → CleanAfter (after_fraction t) → Clean t
at_fraction t h = go (head t == 46) (λ h e. absurd (false≢true (ap (λ x. x == 46) (sym e) ∙ h))) h
  where
    go : (b : Bool) → (b ≡ true → head t ≢ 10) → CleanAfter (cond b (after_digits (drop 1 t)) (Some t)) → Clean t
    go true differs rest = first t (differs refl) (at_digits _ rest)
    go false differs rest = rest

at_whole : (t : List ℕ) → CleanAfter (after_whole t) → Clean t
at_whole t h = go (head t == 48) (λ h e. absurd (false≢true (ap (λ x. x == 48) (sym e) ∙ h))) h
  where
    go : (b : Bool) → (b ≡ true → head t ≢ 10) → CleanAfter (cond b (Some (drop 1 t)) (after_digits t)) → Clean t
    go true differs rest = first t (differs refl) rest
    go false differs rest = at_digits t rest

-- what one part leaves is clean if what the next part leaves of it is
then : (o : Option (List ℕ)) (f : List ℕ → Option (List ℕ)) → ((t : List ℕ) → CleanAfter (f t) → Clean t) → CleanAfter (option_and_then f o) → CleanAfter o
then None f part h = h
then (Some t) f part h = part t h

at_number : (t : List ℕ) → CleanAfter (after_number t) → Clean t
unfolding after_number
at_number t h = at_minus t (at_whole _ (then _ after_fraction at_fraction (then _ after_exponent at_exponent h)))

number_is_clean : (s : List ℕ) → IsNumber s → Clean s
number_is_clean s is = at_number s (subst CleanAfter (sym is) tt)

-- ---- strings

tested : (s : List ℕ) → list_all (λ byte. not (byte == 10)) s ≡ true → Clean s
tested [] h = tt
tested (x ∷ xs) h = go (x == 10) (eqb-false x 10) (tested xs) h
  where
    go : (b : Bool) → (b ≡ false → x ≢ 10) → (list_all (λ byte. not (byte == 10)) xs ≡ true → Clean xs) → (not b && list_all (λ byte. not (byte == 10)) xs) ≡ true → Clean (x ∷ xs)
    go true differs later h = absurd (false≢true h)
    go false differs later h = (differs refl, later h)

digit_char_differs : (d : ℕ) → digit_char d ≢ 10
digit_char_differs d = cond_both (nat_lt d 10) (48 + d) (87 + d) (λ c. c ≢ 10) (λ _ e. omega (arith, e)) (λ _ e. omega (arith, e))

letter_differs : (x : ℕ) → escape_letter x ≢ 10
letter_differs x =
    cond_both ((x == 34) || (x == 92)) x _ (λ c. c ≢ 10) (λ h e. absurd (false≢true (ap (λ y. (y == 34) || (y == 92)) (sym e) ∙ h))) (λ _.
    cond_both (x == 8) 98 _ (λ c. c ≢ 10) (λ _ e. omega (arith, e)) (λ _.
    cond_both (x == 12) 102 _ (λ c. c ≢ 10) (λ _ e. omega (arith, e)) (λ _.
    cond_both (x == 10) 110 _ (λ c. c ≢ 10) (λ _ e. omega (arith, e)) (λ _.
    cond_both (x == 13) 114 _ (λ c. c ≢ 10) (λ _ e. omega (arith, e)) (λ _.
    cond_both (x == 9) 116 0 (λ c. c ≢ 10) (λ _ e. omega (arith, e)) (λ _ e. omega (arith, e)))))))

escaped_byte : (x : ℕ) → Clean (escape_byte x)
unfolding escape_byte
escaped_byte x =
    let hex : List ℕ = 92 ∷ 117 ∷ 48 ∷ 48 ∷ digit_char (x / 16) ∷ digit_char (x % 16) ∷ [] in
    let hex_is_clean : Clean hex =
    Clean-append (92 ∷ 117 ∷ 48 ∷ 48 ∷ []) (digit_char (x / 16) ∷ digit_char (x % 16) ∷ []) (tested (92 ∷ 117 ∷ 48 ∷ 48 ∷ []) refl)
    (digit_char_differs (x / 16), (digit_char_differs (x % 16), tt)) in
    cond_both (nat_lt 0 (escape_letter x)) (92 ∷ escape_letter x ∷ []) _ Clean (λ _. ((λ e. omega (arith, e)), (letter_differs x, tt))) (λ plain.
    cond_both (nat_lt x 32) hex (x ∷ []) Clean (λ _. hex_is_clean)
    (λ _. ((λ e. absurd (false≢true (sym plain ∙ ap (λ y. nat_lt 0 (escape_letter y)) e))), tt)))

escaped : (s : List ℕ) → Clean (escape s)
escaped [] = tt
escaped (x ∷ xs) = Clean-append (escape_byte x) (escape xs) (escaped_byte x) (escaped xs)

quoted_is_clean : (s : List ℕ) → Clean (quoted s)
quoted_is_clean s = ((λ e. omega (arith, e)), Clean-append (escape s) (34 ∷ []) (escaped s) (tested (34 ∷ []) refl))

-- ---- tokens

token_is_clean : (t : Token) → IsPrintableOrBad t → Clean (token_text t)
token_is_clean begin_object h = tested (token_text begin_object) refl
token_is_clean end_object h = tested (token_text end_object) refl
token_is_clean begin_array h = tested (token_text begin_array) refl
token_is_clean end_array h = tested (token_text end_array) refl
token_is_clean (key s) h = Clean-append (quoted s) (58 ∷ []) (quoted_is_clean s) (tested (58 ∷ []) refl)
token_is_clean (string s) h = quoted_is_clean s
token_is_clean (number s) h = number_is_clean s h
token_is_clean (boolean true) h = tested (token_text (boolean true)) refl
token_is_clean (boolean false) h = tested (token_text (boolean false)) refl
token_is_clean null h = tested (token_text null) refl
token_is_clean bad h = tt

separator_is_clean : (after_value : Bool) (t : Token) → Clean (separator after_value t)
separator_is_clean after_value t = cond_both (after_value && begins t) (44 ∷ []) [] Clean (λ _. tested (44 ∷ []) refl) (λ _. tt)

printed : (after_value : Bool) (ts : List Token) → ArePrintableOrBad ts → Clean (print_from after_value ts)
unfolding print_from
printed after_value [] h = tt
printed after_value (t ∷ ts) h =
    Clean-append (separator after_value t) _ (separator_is_clean after_value t) (Clean-append (token_text t) _ (token_is_clean t h.0) (printed (ends t) ts h.1))

-- a text that is the compact form of its tokens has no newline
pub compact_text_is_a_line : (text : List ℕ) → text ≡ print (tokens text) → HasNoNewline text
compact_text_is_a_line text compact = All-from_recursion (λ byte. byte ≢ 10) text (subst Clean (sym compact) (printed false (tokens text) (ArePrintableOrBad-tokens text)))
