-- For each of several conditions, the first line of a recording that meets it.
use Rattle.std.specs.Prelude.{◌≡◌, ℕ, Bool, true, false, if◌then◌else◌, List, Option, Some, None, is_none, string_bytes}
use Rattle.std.specs.HashMap.{HashMap, get}
use Rattle.recordings.specs.RecordingLine.{RecordedLine}
use Rattle.conformance.specs.declared.first_lines.FoundLine.{FoundLine}
use Rattle.conformance.specs.declared.line_query.LineQuery.{LineQuery}
use Rattle.conformance.specs.contracts.line_query.LineQueryPartialEq.TheImpl as query_eq
use Rattle.conformance.specs.LineQuery.{IsFirstLine, label_in, pool_in}

-- The two keys of the table are the same condition.
abbrev pub is_same_query : LineQuery → LineQuery → Bool
is_same_query = (query_eq.ghosts).eq

-- `found` represents this line in the program: it has the number, the label and the pool of the line.
pub record IsSeenAs (number : ℕ) (line : RecordedLine) (found : FoundLine) : Type 0 where
  pub number_is : found.number ≡ number
  pub label_is : string_bytes found.label ≡ label_in line
  pub pool_is : string_bytes found.pool ≡ pool_in line

-- The first line that meets the condition, or `None` if there is none.
pub data IsFound (lines : List RecordedLine) (query : LineQuery) : Option FoundLine → Type 0 where
  nowhere : IsFirstLine lines query None → IsFound lines query None
  somewhere : (number : ℕ) (line : RecordedLine) (found : FoundLine) → IsFirstLine lines query (Some (number, line)) → IsSeenAs number line found → IsFound lines query (Some found)

abbrev pub is_without_line : Option (Option FoundLine) → Bool
is_without_line None = false
is_without_line (Some found) = is_none found

module _ {S : Type 0} where
  -- For each condition in the table, the table has the first of these lines that meets the condition, or `None` if no line
  -- does.
  abbrev pub AreFirst : List RecordedLine → HashMap LineQuery (Option FoundLine) S → Type 0
  AreFirst lines table = (query : LineQuery) (found : Option FoundLine) → get is_same_query table query ≡ Some found → IsFound lines query found

  abbrev pub is_sought : HashMap LineQuery (Option FoundLine) S → LineQuery → Bool
  is_sought table query = is_without_line (get is_same_query table query)

  -- The effect of a line that meets the condition. If the table has the condition without a line, the line is stored for it.
  -- Otherwise nothing changes.
  pub data NotesMatch (query : LineQuery) (number : ℕ) (line : RecordedLine) (old new : HashMap LineQuery (Option FoundLine) S) : Type 0 where
    noted : is_sought old query ≡ true → (found : FoundLine) → IsSeenAs number line found
        → ((one : LineQuery) → get is_same_query new one ≡ (if is_same_query query one then Some (Some found) else get is_same_query old one)) → NotesMatch query number line old new
    passed : is_sought old query ≡ false → new ≡ old → NotesMatch query number line old new

-- Both options are `None`, or both are lines with the same number, label and pool.
pub data IsCopy : Option FoundLine → Option FoundLine → Type 0 where
  neither : IsCopy None None
  both : (found copy : FoundLine) → copy.number ≡ found.number → string_bytes copy.label ≡ string_bytes found.label → string_bytes copy.pool ≡ string_bytes found.pool → IsCopy (Some found) (Some copy)
