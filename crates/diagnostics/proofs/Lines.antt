-- Characters as they are written in messages, and that messages have no newline.
use Rattle.std.proofs.Common.{◌≡◌, ◌≢◌, ◌<◌, ◌+◌, ◌/◌, ◌%◌, ℕ, cond, nat_lt, List, [], ◌∷◌, ◌++◌, length, take, get_or, flat_map, sym, ap, ◌∙◌, append_assoc, arith}
use Rattle.std.proofs.lemmas.List.{take_more, append-nil}
use Rattle.std.proofs.lemmas.Grind.{flat_map-append}
use Rattle.std.proofs.lemmas.List.Elements.{All-head, All-from_get_or}
use Rattle.std.proofs.lemmas.Str.{encodes-append, inside_one}
use Rattle.std.proofs.lemmas.Bool.Decides.{nat_tests}
use Rattle.std.specs.Char.{is_control, digit_char, encode_utf8}
use Rattle.std.specs.Char.Escape.{hex_digit_at, escape_unicode, short_escape, escape_default}
use Rattle.std.specs.Str.{chars, encode_utf8_all}
use Rattle.diagnostics.proofs.Single.{Single, none, more, rest_of, joined, either}
use Rattle.diagnostics.specs.Lines.{HasNoNewline, plain, one_line}

-- one more character is appended
pub written_more : (f : ℕ → List ℕ) (cs start now : List ℕ) (n c : ℕ) → n < length cs → c ≡ get_or cs n c → now ≡ start ++ encode_utf8_all (flat_map f (take n cs))
    → now ++ encode_utf8_all (f c) ≡ start ++ encode_utf8_all (flat_map f (take (n + 1) cs))
written_more f cs start now n c inside there so =
    let front = flat_map f (take n cs) in
    let longer : flat_map f (take (n + 1) cs) ≡ front ++ f c =
    ap (flat_map f) (take_more cs n c inside ∙ ap (λ (x : ℕ). take n cs ++ x ∷ []) (sym there))
    ∙ (flat_map-append f (take n cs) (c ∷ []) ∙ ap (λ (xs : List ℕ). front ++ xs) (append-nil (f c))) in
    ap (λ (xs : List ℕ). xs ++ encode_utf8_all (f c)) so
    ∙ (append_assoc start (encode_utf8_all front) (encode_utf8_all (f c))
    ∙ ap (λ (xs : List ℕ). start ++ xs) (sym (encodes-append front (f c)) ∙ ap encode_utf8_all (sym longer)))

no_digit : (d : ℕ) → digit_char d ≢ 10
no_digit d = grind (arith, nat_tests)

no_letter : (c : ℕ) → short_escape c ≢ 10
no_letter c = grind (arith, nat_tests)

-- `\u{` and the rest
coded : (rest : List ℕ) → Single rest → Single (92 ∷ 117 ∷ 123 ∷ rest)
coded rest after = more 92 (117 ∷ 123 ∷ rest) (λ same. omega arith) (more 117 (123 ∷ rest) (λ same. omega arith) (more 123 rest (λ same. omega arith) after))

brace : Single (125 ∷ [])
brace = more 125 [] (λ same. omega arith) none

unicode : (c : ℕ) → Single (escape_unicode c)
unicode c =
    let r0 = 125 ∷ [] in
    let r1 = hex_digit_at 1 c ∷ r0 in
    let r2 = hex_digit_at 0x10 c ∷ r1 in
    let r3 = hex_digit_at 0x100 c ∷ r2 in
    let r4 = hex_digit_at 0x1000 c ∷ r3 in
    let r5 = hex_digit_at 0x1_0000 c ∷ r4 in
    let r6 = hex_digit_at 0x10_0000 c ∷ r5 in
    let s1 : Single r1 = more (hex_digit_at 1 c) r0 (no_digit (c / 1 % 16)) brace in
    let s2 : Single r2 = more (hex_digit_at 0x10 c) r1 (no_digit (c / 0x10 % 16)) s1 in
    let s3 : Single r3 = more (hex_digit_at 0x100 c) r2 (no_digit (c / 0x100 % 16)) s2 in
    let s4 : Single r4 = more (hex_digit_at 0x1000 c) r3 (no_digit (c / 0x1000 % 16)) s3 in
    let s5 : Single r5 = more (hex_digit_at 0x1_0000 c) r4 (no_digit (c / 0x1_0000 % 16)) s4 in
    let s6 : Single r6 = more (hex_digit_at 0x10_0000 c) r5 (no_digit (c / 0x10_0000 % 16)) s5 in
    let e6 = 92 ∷ 117 ∷ 123 ∷ r6 in
    let e5 = cond (nat_lt c 0x10_0000) (92 ∷ 117 ∷ 123 ∷ r5) e6 in
    let e4 = cond (nat_lt c 0x1_0000) (92 ∷ 117 ∷ 123 ∷ r4) e5 in
    let e3 = cond (nat_lt c 0x1000) (92 ∷ 117 ∷ 123 ∷ r3) e4 in
    let e2 = cond (nat_lt c 0x100) (92 ∷ 117 ∷ 123 ∷ r2) e3 in
    either (nat_lt c 0x10) (92 ∷ 117 ∷ 123 ∷ r1) e2 (λ _. coded r1 s1)
    (λ _. either (nat_lt c 0x100) (92 ∷ 117 ∷ 123 ∷ r2) e3 (λ _. coded r2 s2)
    (λ _. either (nat_lt c 0x1000) (92 ∷ 117 ∷ 123 ∷ r3) e4 (λ _. coded r3 s3)
    (λ _. either (nat_lt c 0x1_0000) (92 ∷ 117 ∷ 123 ∷ r4) e5 (λ _. coded r4 s4)
    (λ _. either (nat_lt c 0x10_0000) (92 ∷ 117 ∷ 123 ∷ r5) e6 (λ _. coded r5 s5) (λ _. coded r6 s6)))))

escaped : (c : ℕ) → Single (escape_default c)
escaped c =
    let coded = escape_unicode c in
    let own = cond (nat_lt c 127) (c ∷ []) coded in
    either (nat_lt 0 (short_escape c)) (92 ∷ short_escape c ∷ []) (cond (nat_lt c 32) coded own)
    (λ _. more 92 (short_escape c ∷ []) (λ same. omega arith) (more (short_escape c) [] (no_letter c) none))
    (λ _. either (nat_lt c 32) coded own (λ _. unicode c)
    (λ large. either (nat_lt c 127) (c ∷ []) coded (λ _. more c [] (λ same. grind (arith, nat_tests)) none) (λ _. unicode c)))

of_char : (c : ℕ) → Single (plain c)
unfolding plain
of_char c = either (is_control c) (escape_default c) (c ∷ []) (λ _. escaped c) (λ other. more c [] (λ same. grind (arith, nat_tests)) none)

of_chars : (cs : List ℕ) → Single (flat_map plain cs)
of_chars [] = none
of_chars (c ∷ cs) = joined (plain c) (flat_map plain cs) (of_char c) (of_chars cs)

-- the bytes of a character that is no newline
bytes_of : (c : ℕ) → c ≢ 10 → Single (encode_utf8 c)
bytes_of c other = record {
  each = All-from_get_or (λ (x : ℕ). x ≢ 10) (encode_utf8 c) 0
      (λ k inside same. other (inside_one c [] (encode_utf8 c) k (sym (append-nil (encode_utf8 c))) inside (omega arith) ∙ same));
}

bytes_all : (cs : List ℕ) → Single cs → Single (encode_utf8_all cs)
bytes_all [] all = none
bytes_all (c ∷ cs) all =
    joined (encode_utf8 c) (encode_utf8_all cs) (bytes_of c (All-head (λ (x : ℕ). x ≢ 10) c cs all.each))
    (bytes_all cs (rest_of c cs all))

-- a message has no newline
pub one_line-single : (text : List ℕ) → HasNoNewline (one_line text)
one_line-single text = (bytes_all (flat_map plain (chars text)) (of_chars (chars text))).each
