-- An answer: its bytes and its status.
use Rattle.std.specs.Prelude.{ℕ, Bool, if◌then◌else◌, List, [], ◌∷◌, ◌++◌, codes}
use Rattle.std.specs.Fmt.{decimal}
use Rattle.support.specs.Name.{head}
use Rattle.support.specs.declared.number.TheConstants.{NO_SEPARATOR, BAD_EVENT, INPUT_TOO_LONG}
use Rattle.sizing_cli.specs.declared.status.Status.{Status}
use Rattle.sizing_cli.specs.declared.status.Status.TheVariants.{Done, Refused, BadText, Undecided}

pub record Answer : Type 0 where
  pub text : List ℕ
  pub status : Status

-- the program's exit status
abbrev pub code : Status → ℕ
code Done = 0
code Refused = 1
code BadText = 2
code Undecided = 4

-- The status of an answer in two parts. If the first part has the status Done, it is the status of the second part. Otherwise
-- it is the status of the first part.
abbrev pub then_status : Status → Status → Status
then_status status Done = status
then_status status Refused = Refused
then_status status BadText = BadText
then_status status Undecided = Undecided

-- the status of an answer that is yes or no
abbrev pub yes_or_no : Bool → Status
yes_or_no answer = if answer then Done else Refused

-- the answer with the text of `front` and then the text of `rest`; `then_status` combines their statuses
abbrev pub followed_by : Answer → Answer → Answer
followed_by front rest = record { text = front.text ++ rest.text; status = then_status front.status rest.status }

-- the answer with one line that reports a fault of the input
abbrev pub fault : List ℕ → Answer
fault line = record { text = line ++ 10 ∷ []; status = BadText }

abbrev pub no_separator : Answer
no_separator = fault (head NO_SEPARATOR)

abbrev pub input_too_long : Answer
input_too_long = fault (head INPUT_TOO_LONG)

-- the answer if line `line`, counted from 1, is not a valid event line
abbrev pub bad_event : ℕ → Answer
bad_event line = fault (head BAD_EVENT ++ (codes " at line " ++ decimal line))
