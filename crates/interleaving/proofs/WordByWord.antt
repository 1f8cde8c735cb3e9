-- Lemmas about the loops of `NamedJobs`, which parse numbers word by word.
use Rattle.std.proofs.Common.{◌≡◌, ℕ, true, false, List, [], ◌∷◌, ◌++◌, Option, Some, None, is_some, option_map, refl, sym, ap, ◌∙◌, append_assoc}
use Rattle.std.proofs.lemmas.Bool.{true≢false}
use Rattle.std.proofs.lemmas.Option.{none-some, same_Some}
use Rattle.support.specs.Pieces.{split_space}
use Rattle.support.specs.LineNumber.{number_of}
use Rattle.interleaving.specs.Words.{all_of, unwrap_or_empty, members_in}
use Rattle.support.proofs.FirstSpace.{words_more, words_end}

-- ---- the numbers of the first word and of the others
members_more : (text word rest : List ℕ) (n : ℕ) → Some (word, rest) ≡ split_space text → number_of word ≡ Some n → members_in text ≡ option_map (λ ns. n ∷ ns) (members_in rest)
members_more text word rest n read number = ap (all_of number_of) (words_more text word rest read) ∙ rw number refl

members_bad : (text word rest : List ℕ) → Some (word, rest) ≡ split_space text → None ≡ number_of word → members_in text ≡ None
members_bad text word rest read none = ap (all_of number_of) (words_more text word rest read) ∙ rw (← none) refl

members_last : (text : List ℕ) (n : ℕ) → None ≡ split_space text → number_of text ≡ Some n → members_in text ≡ Some (n ∷ [])
members_last text n read number = ap (all_of number_of) (words_end text read) ∙ rw number refl

members_last_bad : (text : List ℕ) → None ≡ split_space text → None ≡ number_of text → members_in text ≡ None
members_last_bad text read none = ap (all_of number_of) (words_end text read) ∙ rw (← none) refl

-- ---- whether all words are numbers
-- the remaining words are numbers exactly when all words are
abbrev pub SameReading : List ℕ → List ℕ → Type 0
SameReading rest words = is_some (members_in rest) ≡ is_some (members_in words)

some_of_map : {X Y : Type 0} (f : X → Y) (o : Option X) → is_some (option_map f o) ≡ is_some o
some_of_map f None = refl
some_of_map f (Some x) = refl

none_there : {X : Type 0} (o : Option X) → is_some o ≡ false → None ≡ o
none_there None e = refl
none_there (Some x) e = absurd (true≢false e)

some_there : {X : Type 0} (o : Option (List X)) → is_some o ≡ true → Some (unwrap_or_empty o) ≡ o
some_there None e = absurd (true≢false (sym e))
some_there (Some x) e = refl

pub read_more : (words text word rest : List ℕ) (n : ℕ) → Some (word, rest) ≡ split_space text → number_of word ≡ Some n → SameReading text words → SameReading rest words
read_more words text word rest n read number same = sym (ap is_some (members_more text word rest n read number) ∙ some_of_map (λ ns. n ∷ ns) (members_in rest)) ∙ same

pub read_bad : (words text word rest : List ℕ) → Some (word, rest) ≡ split_space text → None ≡ number_of word → SameReading text words → None ≡ members_in words
read_bad words text word rest read none same = none_there (members_in words) (sym same ∙ ap is_some (members_bad text word rest read none))

pub read_last_bad : (words text : List ℕ) → None ≡ split_space text → None ≡ number_of text → SameReading text words → None ≡ members_in words
read_last_bad words text read none same = none_there (members_in words) (sym same ∙ ap is_some (members_last_bad text read none))

pub all_numbers : (words text : List ℕ) (n : ℕ) → None ≡ split_space text → number_of text ≡ Some n → SameReading text words → is_some (members_in words) ≡ true
all_numbers words text n read number same = sym same ∙ ap is_some (members_last text n read number)

pub whole_members : (words : List ℕ) → is_some (members_in words) ≡ true → Some (unwrap_or_empty (members_in words)) ≡ members_in words
whole_members words all = some_there (members_in words) all

-- ---- the list of the numbers
-- the numbers in `front`, followed by those of the remaining words, are the numbers of all words
abbrev pub Front : List ℕ → List ℕ → List ℕ → Type 0
Front front rest all = option_map (λ ns. front ++ ns) (members_in rest) ≡ Some all

pub front_begin : (words all : List ℕ) → is_some (members_in words) ≡ true → unwrap_or_empty (members_in words) ≡ all → Front [] words all
front_begin words all some is = by_members (members_in words) some is
  where
    by_members : (o : Option (List ℕ)) → is_some o ≡ true → unwrap_or_empty o ≡ all → option_map (λ ns. [] ++ ns) o ≡ Some all
    by_members None some is = absurd (true≢false (sym some))
    by_members (Some ns) some is = ap (λ (xs : List ℕ). Some xs) is

pub front_more : (all front text word rest : List ℕ) (n : ℕ) → Some (word, rest) ≡ split_space text → number_of word ≡ Some n → Front front text all → Front (front ++ n ∷ []) rest all
front_more all front text word rest n read number so_far =
    sym (regroup (members_in rest)) ∙ sym (ap (λ o. option_map (λ ns. front ++ ns) o) (members_more text word rest n read number)) ∙ so_far
  where
    regroup : (o : Option (List ℕ)) → option_map (λ ns. front ++ ns) (option_map (λ ns. n ∷ ns) o) ≡ option_map (λ ns. (front ++ n ∷ []) ++ ns) o
    regroup None = refl
    regroup (Some ns) = ap (λ (xs : List ℕ). Some xs) (sym (append_assoc front (n ∷ []) ns))

pub front_bad : (all front text word rest : List ℕ) → Some (word, rest) ≡ split_space text → None ≡ number_of word → Front front text all → ⊥
front_bad all front text word rest read none so_far = none-some all (sym (ap (λ o. option_map (λ ns. front ++ ns) o) (members_bad text word rest read none)) ∙ so_far)

pub front_last : (all front text : List ℕ) (n : ℕ) → None ≡ split_space text → number_of text ≡ Some n → Front front text all → front ++ n ∷ [] ≡ all
front_last all front text n read number so_far = same_Some (front ++ n ∷ []) all (sym (ap (λ o. option_map (λ ns. front ++ ns) o) (members_last text n read number)) ∙ so_far)

pub front_last_bad : (all front text : List ℕ) → None ≡ split_space text → None ≡ number_of text → Front front text all → ⊥
front_last_bad all front text read none so_far = none-some all (sym (ap (λ o. option_map (λ ns. front ++ ns) o) (members_last_bad text read none)) ∙ so_far)
