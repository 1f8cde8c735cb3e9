-- The numbers in a text of words.
use Rattle.std.specs.Prelude.{ℕ, List, [], ◌∷◌, Option, Some, None, option_map, option_and_then}
use Rattle.support.specs.Pieces.{words_of}
use Rattle.support.specs.LineNumber.{number_of}

-- the values of f for all elements, or None if f gives None for one of them
abbrev pub all_of : {X Y : Type 0} → (X → Option Y) → List X → Option (List Y)
all_of f [] = Some []
all_of f (x ∷ xs) = option_and_then (λ y. option_map (λ ys. y ∷ ys) (all_of f xs)) (f x)

-- the list of the option; the empty list for None
abbrev pub unwrap_or_empty : {X : Type 0} → Option (List X) → List X
unwrap_or_empty (Some xs) = xs
unwrap_or_empty None = []

-- the numbers that the words of the text spell, in order, or None if a word is not a number
abbrev pub members_in : List ℕ → Option (List ℕ)
members_in text = all_of number_of (words_of text)
