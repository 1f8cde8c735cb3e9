-- The grammar of an action: `work N`, `submit CLASS`, `submit CLASS as SLOT` and `get SLOT`.
use Rattle.std.specs.Prelude.{◌≡◌, ℕ, Bool, true, ◌++◌, decimal, ◌==◌, ◌&&◌, not, nat_lt, if◌then◌else◌, List, length, codes, Option, None, Some, option_and_then, slice_index}
use Rattle.std.specs.List.{list_all, position_or_len, before_first, after_first}
use Rattle.std.specs.Str.{bytes_eq}
use Rattle.std.specs.Str.Parse.{digits_value}
use Rattle.job_bodies.specs.declared.limits.TheConstants.{MAX_WORK}
use Rattle.job_bodies.specs.WellFormed.{is_valid_name, is_within}
use Rattle.plan_text.specs.declared.parsed_action.ParsedAction as read
use Rattle.plan_text.specs.declared.parsed_action.ParsedAction.TheVariants.{Work, Submit, SubmitAs, Get}

-- a parsed action, in which classes and slots are names
pub data ParsedAction : Type 0 where
  work : ℕ → ParsedAction
  submit : List ℕ → ParsedAction
  submit_as : List ℕ → List ℕ → ParsedAction
  get : List ℕ → ParsedAction

-- a `ParsedAction` of the code as a value of the specifications
abbrev pub parsed_action_view : read.ParsedAction → ParsedAction
parsed_action_view (Work units) = work units
parsed_action_view (Submit class) = submit class.now
parsed_action_view (SubmitAs class slot) = submit_as class.now slot.now
parsed_action_view (Get slot) = get slot.now

infixl 10 ◌>>?◌
abbrev pub ◌>>?◌ : {A B : Type 0} → Option A → (A → Option B) → Option B
o >>? f = option_and_then f o

-- the parts of the text before and after its first space; None if it has no space
abbrev pub split_space : List ℕ → Option (List ℕ × List ℕ)
split_space text =
    if nat_lt (position_or_len (λ b. b == 32) text) (length text)
    then Some (before_first (λ b. b == 32) text, after_first (λ b. b == 32) text) else None

-- the text if it is a valid name; otherwise None
abbrev pub name_of : List ℕ → Option (List ℕ)
name_of text = if is_valid_name text then Some text else None

-- whether the byte is a digit
abbrev pub is_digit : ℕ → Bool
is_digit b = is_within 48 57 b

abbrev pub are_digits : List ℕ → Bool
are_digits bytes = list_all is_digit bytes

-- whether the text is one or more digits without a leading zero
abbrev pub is_positive_decimal : List ℕ → Bool
is_positive_decimal digits = not (length digits == 0) && not (slice_index digits 0 == 48) && are_digits digits

-- the number of units for the text after the verb `work`: a decimal number from 1 to MAX_WORK; None for any other text
unfoldable pub parse_units : List ℕ → Option ℕ
parse_units text = if is_positive_decimal text && is_within 1 MAX_WORK (digits_value 10 text) then Some (digits_value 10 text) else None

-- the action `submit CLASS as SLOT`, given CLASS and the text after it; None if this text is not `as SLOT`, or if one of the
-- names is not valid
unfoldable pub parse_submit_as : List ℕ → List ℕ → Option ParsedAction
parse_submit_as class text =
    split_space text >>? λ words.
    if bytes_eq words.0 (codes "as") then (name_of class >>? λ class. name_of words.1 >>? λ slot. Some (submit_as class slot)) else None

-- the submit for the text after the verb, such as `query` or `query as q`; the second argument is this text split at its first
-- space
abbrev pub submit_parts : List ℕ → Option (List ℕ × List ℕ) → Option ParsedAction
submit_parts text None = name_of text >>? λ class. Some (submit class)
submit_parts text (Some words) = parse_submit_as words.0 words.1

unfoldable pub parse_submit : List ℕ → Option ParsedAction
parse_submit text = submit_parts text (split_space text)

-- the action for a verb, such as `submit`, and the text after it; None if there is no such action
unfoldable pub parse_action_of_verb : List ℕ → List ℕ → Option ParsedAction
parse_action_of_verb verb text =
    if bytes_eq verb (codes "work") then (parse_units text >>? λ units. Some (work units))
    else if bytes_eq verb (codes "submit") then parse_submit text
    else if bytes_eq verb (codes "get") then (name_of text >>? λ slot. Some (get slot))
    else None

-- the action with this text; None if the text has none of the four forms, or if a name or a number in it is not valid
unfoldable pub parse_action : List ℕ → Option ParsedAction
parse_action text = split_space text >>? λ words. parse_action_of_verb words.0 words.1

-- the spelling of a parsed action, such as `submit query as q`
abbrev pub spelling : ParsedAction → List ℕ
spelling (work units) = codes "work " ++ decimal units
spelling (submit class) = codes "submit " ++ class
spelling (submit_as class slot) = codes "submit " ++ class ++ (codes " as " ++ slot)
spelling (get slot) = codes "get " ++ slot

-- whether the parsed action is valid: its number of units is within the limits, or its names are valid
abbrev pub is_valid_parsed_action : ParsedAction → Bool
is_valid_parsed_action (work units) = is_within 1 MAX_WORK units
is_valid_parsed_action (submit class) = is_valid_name class
is_valid_parsed_action (submit_as class slot) = is_valid_name class && is_valid_name slot
is_valid_parsed_action (get slot) = is_valid_name slot

abbrev pub IsValidParsedAction : ParsedAction → Type 0
IsValidParsedAction parsed_action = is_valid_parsed_action parsed_action ≡ true
