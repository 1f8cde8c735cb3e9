-- The parsing of a plan's bytes as a TOML document, with checks of their number, their encoding and the top-level keys.
use Rattle.std.specs.Prelude.{ℕ, Bool, true, ◌&&◌, nat_le, List, [], ◌∷◌, length, codes, Option, None, Some, option_map, Result, Ok}
use Rattle.std.specs.List.{list_any}
use Rattle.std.specs.Str.{bytes_eq, is_utf8}
use Rattle.toml.specs.Data.{Data, as_array, Items, no_items, item, Members, no_members, member, get_member}
use Rattle.toml.specs.Parse.{parse_document}
use Rattle.support.specs.Reading.{◌>>=◌, ensure, ok_or}
use Rattle.job_bodies.specs.declared.fault.PlanFault.{PlanFault}
use Rattle.support.specs.declared.number.TheConstants.{NOT_TOML, TOO_MANY, UNKNOWN_KEY, WRONG_TYPE}
use Rattle.job_bodies.specs.Checks.{at_text}
use Rattle.job_bodies.specs.declared.limits.TheConstants.{MAX_PLAN_BYTES}

-- whether every key of the table is one of `keys`
abbrev pub has_only : List (List ℕ) → Members → Bool
has_only keys no_members = true
has_only keys (member key value rest) = list_any (λ known. bytes_eq known key) keys && has_only keys rest

-- the elements of an array
abbrev pub elements : Items → List Data
elements no_items = []
elements (item value rest) = value ∷ elements rest

-- the elements of the value; None if it is not an array
abbrev pub as_list : Data → Option (List Data)
as_list value = option_map elements (as_array value)

-- the bytes as a text; a fault if they are not UTF-8
abbrev pub text_of : List ℕ → Result (List ℕ) PlanFault
text_of bytes = ensure (is_utf8 bytes) (at_text NOT_TOML) >>= λ _. Ok bytes

-- the TOML table of the text; a fault if it is not TOML
abbrev pub table_of : List ℕ → Result Members PlanFault
table_of text = ok_or (parse_document text) (at_text NOT_TOML)

-- the TOML table of the bytes, or their first fault: too many bytes, not UTF-8, not TOML, or a top-level key that is none of
-- `pool`, `class` and `client`
unfoldable pub document_of : List ℕ → Result Members PlanFault
document_of bytes =
    ensure (nat_le (length bytes) MAX_PLAN_BYTES) (at_text TOO_MANY) >>= λ _.
    text_of bytes >>= λ text.
    table_of text >>= λ document.
    ensure (has_only (codes "pool" ∷ codes "class" ∷ codes "client" ∷ []) document) (at_text UNKNOWN_KEY) >>= λ _.
    Ok document

-- the elements of a top-level array, or no elements if it is absent; a fault if the value is not an array
abbrev pub list_of : Option Data → Result (List Data) PlanFault
list_of None = Ok []
list_of (Some value) = ok_or (as_list value) (at_text WRONG_TYPE)

-- the elements of the top-level array at this key; a fault if the value is not an array, or has more than `most` elements
unfoldable pub list_at : List ℕ → ℕ → Members → Result (List Data) PlanFault
list_at key most document =
    list_of (get_member key document) >>= λ values.
    ensure (nat_le (length values) most) (at_text TOO_MANY) >>= λ _.
    Ok values
