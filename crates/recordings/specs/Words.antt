-- Parsers for the first word of a line. They return its value and the text after the next space.
use Rattle.std.specs.Prelude.{ℕ, if◌then◌else◌, List, Option, Some, None}
use Rattle.std.specs.Str.{bytes_eq}
use Rattle.job_bodies.specs.WellFormed.{is_valid_name}
use Rattle.support.specs.Pieces.{split_space}
use Rattle.support.specs.LineNumber.{number_of}

-- the second parser applied to the result of the first; None if the first has no result
infixl 10 ◌>>=◌
abbrev pub ◌>>=◌ : {X Y : Type 0} → Option X → (X → Option Y) → Option Y
(Some x) >>= f = f x
None >>= f = None

-- the word, if it is a valid name
unfoldable pub name_of : List ℕ → Option (List ℕ)
name_of word = if is_valid_name word then Some word else None

-- the first of several words as a number, and the other words
unfoldable pub parse_number : List ℕ → Option (ℕ × List ℕ)
parse_number text = split_space text >>= λ words. number_of words.0 >>= λ n. Some (n, words.1)

-- the first of several words as a name, and the other words
unfoldable pub parse_name : List ℕ → Option (List ℕ × List ℕ)
parse_name text = split_space text >>= λ words. name_of words.0 >>= λ name. Some (name, words.1)

-- the words after `word`, if the first word is `word`
unfoldable pub strip_word : List ℕ → List ℕ → Option (List ℕ)
strip_word word text = split_space text >>= λ words. if bytes_eq words.0 word then Some words.1 else None

-- the number after this word, and the words after the number
unfoldable pub parse_word_and_number : List ℕ → List ℕ → Option (ℕ × List ℕ)
parse_word_and_number word text = strip_word word text >>= λ rest. parse_number rest
