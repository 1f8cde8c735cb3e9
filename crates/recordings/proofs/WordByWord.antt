-- Each parser of words: a text that parses begins with the words of its value, and the words of a value parse as the value.
use Rattle.std.proofs.Common.{◌≡◌, ℕ, Bool, true, false, cond, List, ◌∷◌, ◌++◌, decimal, bytes_eq, Option, Some, None, refl, ap, ap₂, subst, ◌∙◌, arith}
use Rattle.std.proofs.lemmas.Option.{none-some, same_Some, cond_some}
use Rattle.std.proofs.lemmas.Bool.{cond-true}
use Rattle.std.proofs.lemmas.Slice.Eq.{bytes_eq-Decides}
use Rattle.job_bodies.specs.WellFormed.{is_valid_name}
use Rattle.support.specs.Pieces.{split_space}
use Rattle.support.specs.LineNumber.{number_of, is_valid_number}
use Rattle.support.proofs.FirstSpace.{splits, split_parts}
use Rattle.support.proofs.Splits.{has_no}
use Rattle.support.proofs.WrittenNumbers.{number_read, number_written, decimal_has_no}
use Rattle.recordings.specs.Words.{◌>>=◌, name_of, parse_number, parse_name, strip_word, parse_word_and_number}
use Rattle.recordings.proofs.Names.{name_has_no}

-- ---- two parsers in sequence
pub bind_some : {X Y : Type 0} (o : Option X) (f : X → Option Y) (y : Y) → (o >>= f) ≡ Some y → (x : X) × (o ≡ Some x) × (f x ≡ Some y)
bind_some None f y e = absurd (none-some y e)
bind_some (Some x) f y e = (x, refl, e)

pub bind_written : {X Y : Type 0} (o : Option X) (f : X → Option Y) (x : X) (y : Y) → o ≡ Some x → f x ≡ Some y → (o >>= f) ≡ Some y
bind_written o f x y first second = ap (λ o. o >>= f) first ∙ second

-- if a choice by a word has a result, it is the result for this word, or the result for other words
pub by_word : {Y P : Type 0} (text word : List ℕ) (here others : Option Y) (y : Y) → cond (bytes_eq text word) here others ≡ Some y → (text ≡ word → here ≡ Some y → P) → (others ≡ Some y → P) → P
by_word {Y} {P} text word here others y e is_it is_not = by_test (bytes_eq text word) refl e
  where
    by_test : (b : Bool) → bytes_eq text word ≡ b → cond b here others ≡ Some y → P
    by_test true same read = is_it ((bytes_eq-Decides text word).0 same) read
    by_test false other read = is_not read

-- ---- names
pub name_read : (word name : List ℕ) → name_of word ≡ Some name → (is_valid_name name ≡ true) × (word ≡ name)
unfolding name_of
name_read word name read =
    let found = cond_some (is_valid_name word) word name read in
    (subst (λ (n : List ℕ). is_valid_name n ≡ true) found.1 found.0, found.1)

pub name_written : (name : List ℕ) → is_valid_name name ≡ true → name_of name ≡ Some name
unfolding name_of
name_written name valid = cond-true _ _ _ valid

-- ---- the first of several words
pub number_then_read : (text : List ℕ) (read : ℕ × List ℕ) → parse_number text ≡ Some read → (is_valid_number read.0 ≡ true) × (text ≡ decimal read.0 ++ 32 ∷ read.1)
unfolding parse_number
number_then_read text read e =
    let words = bind_some (split_space text) (λ words. number_of words.0 >>= λ n. Some (n, words.1)) read e in
    let number = bind_some (number_of words.0.0) (λ n. Some (n, words.0.1)) read words.2 in
    let found = number_read words.0.0 number.0 number.1 in
    let same : (number.0, words.0.1) ≡ read = same_Some _ read number.2 in
    subst (λ (r : ℕ × List ℕ). (is_valid_number r.0 ≡ true) × (text ≡ decimal r.0 ++ 32 ∷ r.1)) same
    (found.0, split_parts text words.0 words.1 ∙ ap (λ (w : List ℕ). w ++ 32 ∷ words.0.1) found.1)

pub number_then_written : (n : ℕ) (rest : List ℕ) → is_valid_number n ≡ true → parse_number (decimal n ++ 32 ∷ rest) ≡ Some (n, rest)
unfolding parse_number
number_then_written n rest valid =
    ap (λ o. o >>= λ words. number_of words.0 >>= λ m. Some (m, words.1)) (splits (decimal n) rest (decimal_has_no 32 n (omega arith) valid))
    ∙ ap (λ o. o >>= λ m. Some (m, rest)) (number_written n valid)

pub name_then_read : (text : List ℕ) (read : List ℕ × List ℕ) → parse_name text ≡ Some read → (is_valid_name read.0 ≡ true) × (text ≡ read.0 ++ 32 ∷ read.1)
unfolding parse_name
name_then_read text read e =
    let words = bind_some (split_space text) (λ words. name_of words.0 >>= λ name. Some (name, words.1)) read e in
    let name = bind_some (name_of words.0.0) (λ name. Some (name, words.0.1)) read words.2 in
    let found = name_read words.0.0 name.0 name.1 in
    let same : (name.0, words.0.1) ≡ read = same_Some _ read name.2 in
    subst (λ (r : List ℕ × List ℕ). (is_valid_name r.0 ≡ true) × (text ≡ r.0 ++ 32 ∷ r.1)) same
    (found.0, split_parts text words.0 words.1 ∙ ap (λ (w : List ℕ). w ++ 32 ∷ words.0.1) found.1)

pub name_then_written : (name rest : List ℕ) → is_valid_name name ≡ true → parse_name (name ++ 32 ∷ rest) ≡ Some (name, rest)
unfolding parse_name
name_then_written name rest valid =
    ap (λ o. o >>= λ words. name_of words.0 >>= λ m. Some (m, words.1)) (splits name rest (name_has_no 32 name (omega arith) valid))
    ∙ ap (λ o. o >>= λ m. Some (m, rest)) (name_written name valid)

-- ---- the words after a given word
pub after_read : (word text rest : List ℕ) → strip_word word text ≡ Some rest → text ≡ word ++ 32 ∷ rest
unfolding strip_word
after_read word text rest e =
    let words = bind_some (split_space text) (λ words. cond (bytes_eq words.0 word) (Some words.1) None) rest e in
    let found = cond_some (bytes_eq words.0.0 word) words.0.1 rest words.2 in
    split_parts text words.0 words.1 ∙ ap₂ (λ (w r : List ℕ). w ++ 32 ∷ r) ((bytes_eq-Decides words.0.0 word).0 found.0) found.1

pub after_written : (word rest : List ℕ) → has_no 32 word ≡ true → strip_word word (word ++ 32 ∷ rest) ≡ Some rest
unfolding strip_word
after_written word rest none =
    ap (λ o. o >>= λ words. cond (bytes_eq words.0 word) (Some words.1) None) (splits word rest none)
    ∙ cond-true _ _ _ ((bytes_eq-Decides word word).1 refl)

pub number_after_read : (word text : List ℕ) (read : ℕ × List ℕ) → parse_word_and_number word text ≡ Some read → (is_valid_number read.0 ≡ true) × (text ≡ word ++ 32 ∷ (decimal read.0 ++ 32 ∷ read.1))
unfolding parse_word_and_number
number_after_read word text read e =
    let rest = bind_some (strip_word word text) (λ rest. parse_number rest) read e in
    let number = number_then_read rest.0 read rest.2 in
    (number.0, after_read word text rest.0 rest.1 ∙ ap (λ (r : List ℕ). word ++ 32 ∷ r) number.1)

pub number_after_written : (word : List ℕ) (n : ℕ) (rest : List ℕ) → has_no 32 word ≡ true → is_valid_number n ≡ true → parse_word_and_number word (word ++ 32 ∷ (decimal n ++ 32 ∷ rest)) ≡ Some (n, rest)
unfolding parse_word_and_number
number_after_written word n rest none valid =
    ap (λ o. o >>= λ r. parse_number r) (after_written word (decimal n ++ 32 ∷ rest) none) ∙ number_then_written n rest valid
