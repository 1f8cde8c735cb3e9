-- Messages in one line, and texts of several lines.
use Rattle.std.specs.Prelude.{◌≡◌, ◌≢◌, ℕ, if◌then◌else◌, List, [], ◌∷◌, ◌++◌, length}
use Rattle.std.specs.List.{All, flat_map}
use Rattle.std.specs.Char.{is_control}
use Rattle.std.specs.Char.Escape.{escape_default}
use Rattle.std.specs.Str.{chars, encode_utf8_all}

-- the text has no newline
abbrev pub HasNoNewline : List ℕ → Type 0
HasNoNewline text = All (λ byte. byte ≢ 10) text

-- a character as messages print it: a control character is escaped as by Rust's `escape_default`, any other is unchanged
unfoldable pub plain : ℕ → List ℕ
plain c = if is_control c then escape_default c else c ∷ []

-- the text with each control character escaped
abbrev pub one_line : List ℕ → List ℕ
one_line text = encode_utf8_all (flat_map plain (chars text))

-- the text consists of `count` lines: each ends with a newline and has no other newline
pub record IsLines (count : ℕ) (text : List ℕ) : Type 0 where
  pub lines : List (List ℕ)
  pub number : length lines ≡ count
  pub single : All HasNoNewline lines
  pub text_is : text ≡ flat_map (λ (line : List ℕ). line ++ 10 ∷ []) lines
