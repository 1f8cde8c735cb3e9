-- The table of one entry, with values of the expected types.
use Rattle.std.specs.Prelude.{ℕ, ◌+◌, ℤ, pos, negsuc, Bool, false, nat_le, List, length, codes, Option, None, Some, Result, Ok, Err}
use Rattle.std.specs.Str.{bytes_eq}
use Rattle.toml.specs.Data.{Data, Members, get_member, as_str, as_integer, as_bool, as_table}
use Rattle.toml.specs.View.{table_view}
use Rattle.support.specs.Reading.{◌>>=◌, ensure, ok_or, read_each}
use Rattle.job_bodies.specs.declared.fault.PlanFault.{PlanFault}
use Rattle.job_bodies.specs.declared.fault.Part.{Part}
use Rattle.support.specs.declared.number.TheConstants.{TOO_MANY, UNKNOWN_KEY, MISSING_KEY, WRONG_TYPE}
use Rattle.job_bodies.specs.declared.limits.TheConstants.{MAX_ACTIONS, MAX_SIZE}
use Rattle.job_bodies.specs.Checks.{at_entry, at_action}
use Rattle.plan_text.specs.declared.entry.Entry as read
use Rattle.plan_text.specs.Document.{has_only, as_list}

-- the table of one entry; the entry is at `index` in the list for `part`
pub record Entry : Type 0 where
  pub table : Members
  pub part : Part
  pub index : ℕ

-- an `Entry` of the code as a value of the specifications, with its table as TOML members
abbrev pub entry_view : read.Entry → Entry
entry_view entry = record { table = table_view entry.table.now; part = entry.part; index = entry.index }

-- the fault of this entry with this number
abbrev pub fault_at : Entry → ℕ → PlanFault
fault_at entry number = at_entry entry.part entry.index number

-- an integer as a count; a negative integer becomes a count that is out of range for every key of a plan
abbrev pub count_of : ℤ → ℕ
count_of (pos n) = n
count_of (negsuc n) = MAX_SIZE + 1

-- the entry whose table is `value`; a fault if `value` is not a table, or if the table has a key that is not one of `keys`
unfoldable pub entry_of : Part → ℕ → List (List ℕ) → Data → Result Entry PlanFault
entry_of part index keys value =
    ok_or (as_table value) (at_entry part index WRONG_TYPE) >>= λ table.
    ensure (has_only keys table) (at_entry part index UNKNOWN_KEY) >>= λ _.
    Ok (record { table = table; part = part; index = index })

-- the value at this key; a fault if the key is absent
abbrev pub value_at : Entry → List ℕ → Result Data PlanFault
value_at entry key = ok_or (get_member key entry.table) (fault_at entry MISSING_KEY)

-- the string at this key; a fault if the key is absent or the value has another type
unfoldable pub text_at : Entry → List ℕ → Result (List ℕ) PlanFault
text_at entry key = value_at entry key >>= λ value. ok_or (as_str value) (fault_at entry WRONG_TYPE)

-- the integer at this key, as a count; a fault if the key is absent or the value has another type
unfoldable pub number_at : Entry → List ℕ → Result ℕ PlanFault
number_at entry key =
    value_at entry key >>= λ value.
    ok_or (as_integer value) (fault_at entry WRONG_TYPE) >>= λ number.
    Ok (count_of number)

-- the size that a value states: an integer as a count, or None for the string `unbounded`; a fault for any other value. The
-- arguments are the value as an integer and the value as a string. Each of them is None if the value has another type.
abbrev pub size_of : Entry → Option ℤ → Option (List ℕ) → Result (Option ℕ) PlanFault
size_of entry (Some number) text = Ok (Some (count_of number))
size_of entry None (Some text) = ensure (bytes_eq text (codes "unbounded")) (fault_at entry WRONG_TYPE) >>= λ _. Ok None
size_of entry None None = Err (fault_at entry WRONG_TYPE)

-- the size at this key: an integer as a count, or None for the string `unbounded`; a fault if the key is absent or has another
-- value
unfoldable pub size_at : Entry → List ℕ → Result (Option ℕ) PlanFault
size_at entry key = value_at entry key >>= λ value. size_of entry (as_integer value) (as_str value)

-- the boolean value, or false if there is no value; a fault if the value has another type
abbrev pub flag_of : Entry → Option Data → Result Bool PlanFault
flag_of entry None = Ok false
flag_of entry (Some value) = ok_or (as_bool value) (fault_at entry WRONG_TYPE)

-- the boolean at this key, or false if the key is absent; a fault if the value has another type
unfoldable pub flag_at : Entry → List ℕ → Result Bool PlanFault
flag_at entry key = flag_of entry (get_member key entry.table)

-- the text of an action of an entry; a fault if the value is not a string
abbrev pub action_text : Part → ℕ → ℕ → Data → Result (List ℕ) PlanFault
action_text part index action value = ok_or (as_str value) (at_action part index action WRONG_TYPE)

-- the strings in the array at this key; a fault if the key is absent, its value is not an array, the array is longer than a
-- body may be, or an element is not a string
unfoldable pub texts_at : Entry → List ℕ → Result (List (List ℕ)) PlanFault
texts_at entry key =
    value_at entry key >>= λ value.
    ok_or (as_list value) (fault_at entry WRONG_TYPE) >>= λ values.
    ensure (nat_le (length values) MAX_ACTIONS) (fault_at entry TOO_MANY) >>= λ _.
    read_each (action_text entry.part entry.index) 0 values
