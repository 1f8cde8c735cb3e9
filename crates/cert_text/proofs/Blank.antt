-- Proofs that white space after a written text does not change the value that is read.
use Rattle.std.proofs.Common.{◌≡◌, ◌⊎◌, inl, inr, ℕ, Bool, true, false, cond, ◌&&◌, nat_lt, List, [], ◌∷◌, ◌++◌, IsUtf8, option_and_then, refl, sym, ap, ap₂, subst, ◌∙◌, append_assoc, append-nil, arith}
use Rattle.std.proofs.lemmas.Bool.{and_parts, and_from}
use Rattle.std.proofs.lemmas.Bool.Decides.{nat_tests}
use Rattle.json.specs.Token.{Token, begin_object, end_object, begin_array, end_array, key, string, number, boolean, null, bad}
use Rattle.json.specs.Word.{is_space, ends_word, word}
use Rattle.json.specs.Lex.{token, comma, colon, string_token, lex, between, in_word, fresh, punctuate, tokens}
use Rattle.json.specs.Json as json
use Rattle.json.specs.Print.{escape, quoted, token_text, begins, ends, separator, print_from, print, IsPrintableOrBad, ArePrintableOrBad}
use Rattle.json.proofs.Printed.Strings.{content-escape, lex-escape}
use Rattle.json.proofs.Printed.Numbers.{lex-number, in_word-ended}
use Rattle.json.proofs.Printed.Utf8.{are_ascii, IsUtf8-are_ascii}
use Rattle.json.proofs.Numbered.{ArePrintableOrBad-tokens}
use Rattle.serde_json.specs.Read.{of_json, read, max_depth}
use Rattle.cert_text.specs.Canonical.{IsBlank}

-- the lexer reads the same tokens from r and s, and each of them ends a word that precedes it
record AreAlike (r s : List ℕ) : Type 0 where
  lexed : lex between r ≡ lex between s
  first : ends_word r ≡ true
  second : ends_word s ≡ true

quoted_lexed : (t r : List ℕ) → lex between (quoted t ++ r) ≡ token (string t) ∷ lex between r
unfolding lex
quoted_lexed t r =
    ap (λ l. lex between (34 ∷ l)) (append_assoc (escape t) (34 ∷ []) r) ∙ ap₂ (λ o l. token (string_token o) ∷ l) (content-escape t r) (lex-escape t r)

quoted_alike : (t r s : List ℕ) → lex between r ≡ lex between s → lex between (quoted t ++ r) ≡ lex between (quoted t ++ s)
quoted_alike t r s same = quoted_lexed t r ∙ ap (λ l. token (string t) ∷ l) same ∙ sym (quoted_lexed t s)

key_alike : (t r s : List ℕ) → lex between r ≡ lex between s → lex between ((quoted t ++ 58 ∷ []) ++ r) ≡ lex between ((quoted t ++ 58 ∷ []) ++ s)
unfolding lex
key_alike t r s same =
    ap (lex between) (append_assoc (quoted t) (58 ∷ []) r)
    ∙ quoted_alike t (58 ∷ r) (58 ∷ s) (ap (λ l. colon ∷ l) same) ∙ sym (ap (lex between) (append_assoc (quoted t) (58 ∷ []) s))

-- a literal followed by r has the same tokens as the literal followed by s
literal_alike : (t : Token) (r s : List ℕ) → AreAlike r s → (token (cond (ends_word r) t bad) ∷ lex in_word r) ≡ (token (cond (ends_word s) t bad) ∷ lex in_word s)
literal_alike t r s alike =
    ap₂ (λ b l. token (cond b t bad) ∷ l) (alike.first ∙ sym alike.second) (in_word-ended r alike.first ∙ alike.lexed ∙ sym (in_word-ended s alike.second))

-- the text of a token followed by r has the same tokens as that text followed by s
token_alike : (t : Token) (r s : List ℕ) → IsPrintableOrBad t → lex between r ≡ lex between s → (ends t ≡ true → AreAlike r s) → lex between (token_text t ++ r) ≡ lex between (token_text t ++ s)
unfolding lex word
token_alike begin_object r s h same alike = ap (λ l. token begin_object ∷ l) same
token_alike end_object r s h same alike = ap (λ l. token end_object ∷ l) same
token_alike begin_array r s h same alike = ap (λ l. token begin_array ∷ l) same
token_alike end_array r s h same alike = ap (λ l. token end_array ∷ l) same
token_alike (key t) r s h same alike = key_alike t r s same
token_alike (string t) r s h same alike = quoted_alike t r s same
token_alike (number t) r s h same alike =
    let ended = alike refl in
    lex-number t r h ended.first ∙ ap (λ l. token (number t) ∷ l) same ∙ sym (lex-number t s h ended.second)
token_alike (boolean true) r s h same alike = literal_alike (boolean true) r s (alike refl)
token_alike (boolean false) r s h same alike = literal_alike (boolean false) r s (alike refl)
token_alike null r s h same alike = literal_alike null r s (alike refl)
token_alike bad r s h same alike = same

-- the text after a value (a comma, a closing bracket or the end) ends a word
value_ends : (ts : List Token) (r : List ℕ) → ends_word r ≡ true → ends_word (print_from true ts ++ r) ≡ true
unfolding print_from
value_ends [] r ended = ended
value_ends (begin_object ∷ ts) r ended = refl
value_ends (end_object ∷ ts) r ended = refl
value_ends (begin_array ∷ ts) r ended = refl
value_ends (end_array ∷ ts) r ended = refl
value_ends (key s ∷ ts) r ended = refl
value_ends (string s ∷ ts) r ended = refl
value_ends (number s ∷ ts) r ended = refl
value_ends (boolean b ∷ ts) r ended = refl
value_ends (null ∷ ts) r ended = refl
value_ends (bad ∷ ts) r ended = refl

separator_alike : (b : Bool) (r s : List ℕ) → lex between r ≡ lex between s → lex between (cond b (44 ∷ []) [] ++ r) ≡ lex between (cond b (44 ∷ []) [] ++ s)
unfolding lex
separator_alike true r s same = ap (λ l. comma ∷ l) same
separator_alike false r s same = same

-- the text of a list of tokens followed by r has the same tokens as that text followed by s
tokens_alike : (later : Bool) (ts : List Token) (r s : List ℕ) → ArePrintableOrBad ts → AreAlike r s → lex between (print_from later ts ++ r) ≡ lex between (print_from later ts ++ s)
unfolding print_from
tokens_alike later [] r s h alike = alike.lexed
tokens_alike later (t ∷ ts) r s h alike =
    let rest = print_from (ends t) ts in
    let same = tokens_alike (ends t) ts r s h.1 alike in
    let ended : ends t ≡ true → AreAlike (rest ++ r) (rest ++ s) = λ e. record {
      lexed = same;
      first = rw e (value_ends ts r alike.first);
      second = rw e (value_ends ts s alike.second);
    } in
    let around : (u : List ℕ) → (separator later t ++ (token_text t ++ rest)) ++ u ≡ separator later t ++ (token_text t ++ (rest ++ u)) = λ u. simp append_assoc in
    ap (lex between) (around r) ∙ separator_alike (later && begins t) _ _ (token_alike t (rest ++ r) (rest ++ s) h.0 same ended) ∙ sym (ap (lex between) (around s))

-- white space is a space, a tab, a newline or a carriage return
space_is : (x : ℕ) → is_space x ≡ true → (x ≡ 32) ⊎ ((x ≡ 9) ⊎ ((x ≡ 10) ⊎ (x ≡ 13)))
space_is x space = grind (arith, nat_tests)

-- the lexer skips white space, and white space ends a word
passed_over : (x : ℕ) (xs : List ℕ) → is_space x ≡ true → (lex between (x ∷ xs) ≡ lex between xs) × (ends_word (x ∷ xs) ≡ true)
unfolding lex
passed_over x xs space = elim (space_is x space) [
  | inl e ↦ (rw e refl, rw e refl)
  | inr other ↦ elim other [
    | inl e ↦ (rw e refl, rw e refl)
    | inr other ↦ elim other [
      | inl e ↦ (rw e refl, rw e refl)
      | inr e ↦ (rw e refl, rw e refl)
    ]
  ]
]

blank_alike : (blank : List ℕ) → IsBlank blank → AreAlike blank []
blank_alike [] h = record { lexed = refl; first = refl; second = refl }
blank_alike (x ∷ xs) h =
    let parts = and_parts (is_space x) _ h in
    let here = passed_over x xs parts.0 in
    record { lexed = here.0 ∙ (blank_alike xs parts.1).lexed; first = here.1; second = refl }

tokens_before_blank : (text blank : List ℕ) → IsBlank blank → text ≡ print (tokens text) → tokens (text ++ blank) ≡ tokens text
tokens_before_blank text blank h compact =
    let ts = tokens text in
    let same = tokens_alike false ts blank [] (ArePrintableOrBad-tokens text) (blank_alike blank h) in
    ap (punctuate fresh) (subst (λ (t : List ℕ). lex between (t ++ blank) ≡ lex between (t ++ [])) (sym compact) same ∙ ap (lex between) (append-nil text))

-- a text without white space between its tokens reads the same if white space follows it
pub read_before_blank : (text blank : List ℕ) → IsBlank blank → text ≡ print (tokens text) → read (text ++ blank) ≡ read text
read_before_blank text blank h compact =
    ap (λ ts. option_and_then of_json (option_and_then (λ p. json.if_last p.0 p.1) (json.value max_depth ts))) (tokens_before_blank text blank h compact)

space_is_ascii : (x : ℕ) → is_space x ≡ true → nat_lt x 128 ≡ true
space_is_ascii x space = grind (arith, nat_tests)

blank_is_ascii : (blank : List ℕ) → IsBlank blank → are_ascii blank ≡ true
blank_is_ascii [] h = refl
blank_is_ascii (x ∷ xs) h =
    let parts = and_parts (is_space x) _ h in
    and_from (nat_lt x 128) _ (space_is_ascii x parts.0) (blank_is_ascii xs parts.1)

pub blank_is_utf8 : (blank : List ℕ) → IsBlank blank → IsUtf8 blank
blank_is_utf8 blank h = IsUtf8-are_ascii blank (blank_is_ascii blank h)
