-- The outline of a TOML text: the parts of its tables, in order.
use Rattle.std.specs.Prelude.{ℕ, zero, suc, ◌+◌, ◌-◌, ◌^◌, ◌==◌, min, Bool, true, false, ◌||◌, if◌then◌else◌, List, [], ◌∷◌, ◌++◌, Option, None, Some}
use Rattle.std.specs.Option.{option_to_list}
use Rattle.plan_text.specs.declared.token.Kind.{Kind}
use Rattle.plan_text.specs.declared.token.Kind.TheVariants.{Word, Quoted, Mark, LineEnd}
use Rattle.plan_text.specs.declared.token.Token.{Token}
use Rattle.plan_text.specs.declared.outline.Range.{Range}
use Rattle.plan_text.specs.declared.outline.Header.{Header}
use Rattle.plan_text.specs.declared.outline.Part.{Part}
use Rattle.plan_text.specs.declared.outline.Part.TheVariants as part
use Rattle.plan_text.specs.declared.outline.LineState.{LineState}
use Rattle.plan_text.specs.declared.outline.LineState.TheVariants as line
use Rattle.plan_text.specs.Tokens.{tokens_of}

abbrev pub range_of : Token → Range
range_of token = record { start = token.start; end = token.end }

-- a header that begins at this offset, without a name yet
abbrev pub header_at : ℕ → Header
header_at start = record { start = start; name = record { start = start; end = start }; in_list = false }

abbrev pub key_at : Kind → Token → Option Part
key_at Word token = Some (part.Key (range_of token))
key_at Quoted token = Some (part.Key (range_of token))
key_at _ token = None

abbrev pub ended_header : Kind → Header → Option Part
ended_header LineEnd header = Some (part.Header header)
ended_header (Mark mark) header = if mark == 91 then None else Some (part.Header header)
ended_header _ header = None

abbrev pub value_at : ℕ → Bool → ℕ → Option Part
value_at zero true start = Some (part.Value start)
value_at (suc zero) true start = Some (part.Element start)
value_at _ _ start = None

abbrev pub value_part : Kind → ℕ → Bool → ℕ → Option Part
value_part LineEnd depth is_next start = None
value_part _ depth is_next start = value_at depth is_next start

-- the part that begins at this token, or the header that ends before it; None if there is none
unfoldable pub part_at : LineState → Token → Option Part
part_at line.Begin token = key_at token.kind token
part_at (line.Head header) token = ended_header token.kind header
part_at (line.Value depth is_next) token = value_part token.kind depth is_next token.start
part_at _ token = None

abbrev pub begin_kind : Kind → ℕ → LineState
begin_kind LineEnd start = line.Begin
begin_kind (Mark mark) start = if mark == 91 then line.Head (header_at start) else line.Rest
begin_kind _ start = line.Key

-- a token at the start of a line. An opening bracket begins a header, and a word or a string is a key.
abbrev pub after_begin : Token → LineState
after_begin token = begin_kind token.kind token.start

abbrev pub header_kind : Kind → Header → Token → LineState
header_kind LineEnd header token = line.Begin
header_kind (Mark mark) header token = if mark == 91 then line.Head (record header { in_list = true }) else line.Rest
header_kind _ header token = line.Head (record header { name = range_of token })

-- a token in a header. A second opening bracket makes it the header of an entry of a list.
abbrev pub after_header : Header → Token → LineState
after_header header token = header_kind token.kind header token

abbrev pub key_kind : Kind → LineState
key_kind LineEnd = line.Begin
key_kind (Mark mark) = if mark == 61 then line.Value 0 true else line.Rest
key_kind _ = line.Rest

-- a token after a key. Only `=` leads to a value.
abbrev pub after_key : Token → LineState
after_key token = key_kind token.kind

abbrev pub value_mark : ℕ → ℕ → LineState
value_mark mark depth =
    if (mark == 91) || (mark == 123) then line.Value (min (depth + 1) (2 ^ 64 - 1)) true else
    if (mark == 93) || (mark == 125) then line.Value (depth - 1) false else
    line.Value depth (mark == 44)

abbrev pub value_kind : Kind → ℕ → Bool → LineState
value_kind LineEnd depth is_next = if depth == 0 then line.Begin else line.Value depth is_next
value_kind (Mark mark) depth is_next = value_mark mark depth
value_kind _ depth is_next = line.Value depth false

-- a token of a value, inside `depth` open brackets. An element follows an opening bracket or a comma.
abbrev pub after_value : ℕ → Bool → Token → LineState
after_value depth is_next token = value_kind token.kind depth is_next

abbrev pub rest_kind : Kind → LineState
rest_kind LineEnd = line.Begin
rest_kind _ = line.Rest

-- the part of a line that the parser is in after this token
unfoldable pub line_after : LineState → Token → LineState
line_after line.Begin token = after_begin token
line_after (line.Head header) token = after_header header token
line_after line.Key token = after_key token
line_after (line.Value depth is_next) token = after_value depth is_next token
line_after line.Rest token = rest_kind token.kind

-- the parts of the rest of a text, which has these tokens
abbrev pub parts_from : LineState → List Token → List Part
parts_from line [] = []
parts_from line (token ∷ tokens) = option_to_list (part_at line token) ++ parts_from (line_after line token) tokens

-- the parts of a text with these tokens
unfoldable pub parts_of : List Token → List Part
parts_of tokens = parts_from line.Begin tokens

-- the parts of a text
unfoldable pub outline_of : List ℕ → List Part
outline_of text = parts_of (tokens_of text)
