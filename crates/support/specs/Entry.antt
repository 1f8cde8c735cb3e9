-- A slot of an id map, which is free or has an entry: a number and its value.
use Rattle.std.specs.Prelude.{◌≡◌, ℕ, ◌==◌, Bool, true, false, List, Option, Some, None, is_some, count_by, slice_index_or, if◌then◌else◌}
use Rattle.support.specs.declared.entry.Entry.{Entry}

module _ {V : Type 0} where
  -- whether the slot has an entry for this number
  abbrev pub has_number : ℕ → Option (Entry V) → Bool
  has_number n None = false
  has_number n (Some entry) = entry.number == n

  -- whether the slot is free or has an entry for this number
  abbrev pub is_free_for : ℕ → Option (Entry V) → Bool
  is_free_for n None = true
  is_free_for n (Some entry) = entry.number == n

  -- the value in the slot; None if the slot is free
  abbrev pub value_in : Option (Entry V) → Option V
  value_in None = None
  value_in (Some entry) = Some entry.value

  -- the slot with its value replaced by w; a free slot stays free
  abbrev pub with_value_in : Option (Entry V) → V → Option (Entry V)
  with_value_in None w = None
  with_value_in (Some entry) w = Some (record entry { value = w })

  -- the value in the slot if it has an entry for this number, and otherwise `other`
  abbrev pub value_or : ℕ → Option (Entry V) → Option V → Option V
  value_or n None other = other
  value_or n (Some entry) other = if entry.number == n then Some entry.value else other

  -- the entry in slot p; None if the slot is free or there is no slot p
  abbrev pub entry_at : List (Option (Entry V)) → ℕ → Option (Entry V)
  entry_at slots p = slice_index_or slots p None

  -- the number of occupied slots
  abbrev pub taken : List (Option (Entry V)) → ℕ
  taken slots = count_by is_some slots

  -- all slots are free
  pub record AreFree (slots : List (Option (Entry V))) : Type 0 where
    pub each : (p : ℕ) → entry_at slots p ≡ None
    pub none : taken slots ≡ 0

  -- two tables of slots have the same entries at the same indices; their lengths can differ, because a slot past the end of a
  -- table counts as free
  pub record HasSameEntries (old new : List (Option (Entry V))) : Type 0 where
    pub each : (p : ℕ) → entry_at new p ≡ entry_at old p
    pub count : taken new ≡ taken old
