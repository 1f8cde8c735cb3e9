-- The tokens of a TOML text. The text is read byte by byte.
use Rattle.std.specs.Prelude.{ℕ, ◌+◌, ◌-◌, ◌==◌, min, false, not, ◌&&◌, if◌then◌else◌, List, [], ◌∷◌, ◌++◌, codes, nat_eq, None, Some}
use Rattle.std.specs.Option.{option_to_list}
use Rattle.std.specs.List.{list_any}
use Rattle.plan_text.specs.declared.token.Kind.{Kind}
use Rattle.plan_text.specs.declared.token.Kind.TheVariants as kind
use Rattle.plan_text.specs.declared.token.Token.{Token}
use Rattle.plan_text.specs.declared.tokens.ByteClass.{ByteClass}
use Rattle.plan_text.specs.declared.tokens.ByteClass.TheVariants.{Blank, LineEnd, Hash, Quote, Mark, Word}
use Rattle.plan_text.specs.declared.tokens.OpenToken.{OpenToken}
use Rattle.plan_text.specs.declared.tokens.OpenToken.TheVariants as state
use Rattle.plan_text.specs.declared.tokens.OpenString.{OpenString}
use Rattle.plan_text.specs.declared.tokens.ByteStep.{ByteStep}

-- the class of a byte that is not part of a string or a comment
abbrev pub class_of : ℕ → ByteClass
class_of byte =
    if list_any (nat_eq byte) (32 ∷ 9 ∷ 13 ∷ []) then Blank else
    if byte == 10 then LineEnd else
    if byte == 35 then Hash else
    if list_any (nat_eq byte) (34 ∷ 39 ∷ []) then Quote else
    if list_any (nat_eq byte) (codes "[]{}=,.") then Mark else
    Word

-- a string whose opening quote is at `start`
abbrev pub string_at : ℕ → ℕ → OpenString
string_at start quote = record { start = start; quote = quote; escaped = false; quotes = 0 }

-- the string after one more byte
abbrev pub string_after : OpenString → ℕ → OpenString
string_after string byte = record {
  start = string.start;
  quote = string.quote;
  escaped = (byte == 92) && (string.quote == 34) && not string.escaped;
  quotes = if (byte == string.quote) && not string.escaped then min (string.quotes + 1) 255 else 0;
}

abbrev pub token : Kind → ℕ → ℕ → Token
token kind start end = record { kind = kind; start = start; end = end }

-- a byte that ends no token
abbrev pub continued : OpenToken → ByteStep
continued state = record { before = None; ended = None; state = state }

-- the last byte of a token
abbrev pub ended : Kind → ℕ → ℕ → ByteStep
ended kind start end = record { before = None; ended = Some (token kind start end); state = state.Nothing }

abbrev pub begin_class : ByteClass → ℕ → ℕ → ByteStep
begin_class Blank offset byte = continued state.Nothing
begin_class LineEnd offset byte = ended kind.LineEnd offset offset
begin_class Hash offset byte = continued state.Comment
begin_class Quote offset byte = continued (state.Line (string_at offset byte))
begin_class Mark offset byte = ended (kind.Mark byte) offset (offset + 1)
begin_class Word offset byte = continued (state.Word offset)

-- a byte that does not continue an earlier token or comment. It can begin a new one.
abbrev pub begin : ℕ → ℕ → ByteStep
begin offset byte = begin_class (class_of byte) offset byte

-- a byte before which a token ends. It can begin a new one.
abbrev pub end : Kind → ℕ → ℕ → ℕ → ByteStep
end kind start offset byte = record (begin offset byte) { before = Some (token kind start offset) }

abbrev pub word_class : ByteClass → ℕ → ℕ → ℕ → ByteStep
word_class Word start offset byte = continued (state.Word start)
word_class _ start offset byte = end kind.Word start offset byte

-- a byte after a word. The word ends before white space, a quote, `#` or a mark.
abbrev pub word_step : ℕ → ℕ → ℕ → ByteStep
word_step start offset byte = word_class (class_of byte) start offset byte

-- a byte after the opening quote of a string. The string ends after its closing quote, or before the end of the line. If the
-- second and the third byte are quotes as well, the string is a multi-line string.
abbrev pub line_step : OpenString → ℕ → ℕ → ByteStep
line_step string offset byte =
    if string.quotes == 1
    then (if (byte == string.quote) && (offset - string.start == 2)
    then continued (state.Lines (string_at string.start string.quote))
    else end kind.Quoted string.start offset byte)
    else if byte == 10
    then end kind.Quoted string.start offset byte
    else continued (state.Line (string_after string byte))

-- a byte after the opening quotes of a multi-line string. The string ends with three quotes.
abbrev pub lines_step : OpenString → ℕ → ℕ → ByteStep
lines_step string offset byte =
    let after = string_after string byte in
    if after.quotes == 3 then ended kind.Quoted after.start (offset + 1) else continued (state.Lines after)

-- the tokens that end at the byte at this offset, and the token or comment that the next byte may continue
unfoldable pub step : OpenToken → ℕ → ℕ → ByteStep
step state.Nothing offset byte = begin offset byte
step state.Comment offset byte = if byte == 10 then begin offset byte else continued state.Comment
step (state.Word start) offset byte = word_step start offset byte
step (state.Line string) offset byte = line_step string offset byte
step (state.Lines string) offset byte = lines_step string offset byte

abbrev pub ended_tokens : ByteStep → List Token
ended_tokens step = option_to_list step.before ++ option_to_list step.ended

-- the tokens that end in the rest of a text, which begins at this offset. The end of the text ends its last line.
abbrev pub tokens_from : OpenToken → ℕ → List ℕ → List Token
tokens_from open_token offset [] = ended_tokens (step open_token offset 10)
tokens_from open_token offset (byte ∷ rest) =
    ended_tokens (step open_token offset byte) ++ tokens_from (step open_token offset byte).state (offset + 1) rest

-- the tokens of a text
unfoldable pub tokens_of : List ℕ → List Token
tokens_of text = tokens_from state.Nothing 0 text
