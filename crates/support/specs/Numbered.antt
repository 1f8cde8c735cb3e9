-- The specification value of an id map.
use Rattle.std.specs.Prelude.{◌≡◌, ℕ, ◌+◌, ◌%◌, ◌==◌, true, List, Option, Some, None, length, nat_eq, if◌then◌else◌, refl}
use Rattle.std.specs.Coded.{Coded, code_by, coded×, coded_ℕ, coded_list, coded_option}
use Rattle.std.specs.Map.{lookup}
use Rattle.support.specs.declared.entry.Entry.{Entry}
use Rattle.support.specs.declared.places.TheConstants.{TABLE_LEN}
use Rattle.support.specs.Entry.{has_number, value_or, entry_at, taken}

-- an id map: a table of slots, and an overflow map. Each number has one slot. The overflow map has the numbers whose slot was
-- occupied by another number at their insertion.
pub record Numbered (V : Type 0) : Type 0 where
  pub slots : List (Option (Entry V))
  pub overflow : List (ℕ × V)

abbrev pub entry_code : {V : Type 0} → Coded V → Coded (Entry V)
entry_code {V} code = code_by (ℕ × V) (coded× coded_ℕ code) (λ e. (e.number, e.value)) (λ p. record { number = p.0; value = p.1 }) (λ _. refl)

abbrev pub numbered_code : {V : Type 0} → Coded V → Coded (Numbered V)
numbered_code {V} code =
    code_by (List (Option (Entry V)) × List (ℕ × V)) (coded× (coded_list (coded_option (entry_code code))) (coded_list (coded× coded_ℕ code)))
    (λ t. (t.slots, t.overflow)) (λ p. record { slots = p.0; overflow = p.1 }) (λ _. refl)

-- the index of the slot for this number
abbrev pub place_of : ℕ → ℕ
place_of number = number % TABLE_LEN

module _ {V : Type 0} where
  -- the value of number n; None if n has no value
  unfoldable pub value_at : Numbered V → ℕ → Option V
  value_at table n = value_or n (entry_at table.slots (place_of n)) (lookup (nat_eq n) table.overflow)

  -- the number of entries: those in slots, and those in the overflow map
  unfoldable pub count_of : Numbered V → ℕ
  count_of table = taken table.slots + length table.overflow

  -- each entry of the table is in the slot for its number
  abbrev pub AreInPlace : List (Option (Entry V)) → Type 0
  AreInPlace slots = (p n : ℕ) → has_number n (entry_at slots p) ≡ true → place_of n ≡ p

  -- the slots and the overflow map form a valid id map: each entry of the table is in the slot for its number, and no number is
  -- both in its slot and in the overflow map
  pub record IsTable (slots : List (Option (Entry V))) (overflow : List (ℕ × V)) : Type 0 where
    pub in_place : AreInPlace slots
    pub once : (n : ℕ) → has_number n (entry_at slots (place_of n)) ≡ true → lookup (nat_eq n) overflow ≡ None

  -- `new` is the id map `old` after w was written through the reference that `get_mut` returned for number n
  pub record IsWritten (old : Numbered V) (n : ℕ) (w : V) (new : Numbered V) : Type 0 where
    pub values : (q : ℕ) → value_at new q ≡ (if n == q then Some w else value_at old q)
    pub count : count_of new ≡ count_of old
