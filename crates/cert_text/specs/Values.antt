-- The JSON values in certificates: unsigned integers, lists of a known length, and objects with known keys. The fault of any
-- other value is `wrong_shape`.
use Rattle.std.specs.Prelude.{ℕ, suc, ◌==◌, List, [], ◌∷◌, length, option_map, option_and_then, Option, Result, Ok}
use Rattle.serde_json.specs.Data.{Data, Items, no_items, item, Members, no_members, member}
use Rattle.serde_json.specs.Find.{get, as_number, as_u64, as_array, as_object}
use Rattle.support.specs.declared.number.TheConstants.{WRONG_SHAPE}
use Rattle.support.specs.Reading.{◌>>=◌, ensure, ok_or}
use Rattle.cert_text.specs.declared.fault.CertFault.{CertFault}

abbrev pub fault : ℕ → CertFault
fault number = record { number = number }

-- the fault of a value with the wrong shape
abbrev pub wrong_shape : CertFault
wrong_shape = fault WRONG_SHAPE

-- the value as an unsigned 64-bit integer; any other value is a fault
abbrev pub number_of : Data → Result ℕ CertFault
number_of value = ok_or (option_and_then as_u64 (as_number value)) wrong_shape

-- the elements of a JSON list, in order
abbrev pub elements : Items → List Data
elements no_items = []
elements (item value rest) = value ∷ elements rest

-- the elements of the value; None if it is not a list
abbrev pub as_list : Data → Option (List Data)
as_list value = option_map elements (as_array value)

-- the elements of the value; a fault if it is not a list of `count` elements
unfoldable pub elements_of : ℕ → Data → Result (List Data) CertFault
elements_of count value =
    ok_or (as_list value) wrong_shape >>= λ values.
    ensure (length values == count) wrong_shape >>= λ _.
    Ok values

-- the number of members of an object
abbrev pub count_members : Members → ℕ
count_members no_members = 0
count_members (member key value rest) = suc (count_members rest)

-- Ok if the value is an object with `count` keys, and otherwise a fault
unfoldable pub check_keys : ℕ → Data → Result (Unit {0}) CertFault
check_keys count value =
    ok_or (as_object value) wrong_shape >>= λ members.
    ensure (count_members members == count) wrong_shape

-- the value at this key of an object; a fault if there is no such value
abbrev pub value_at : List ℕ → Data → Result Data CertFault
value_at key value = ok_or (get key value) wrong_shape
