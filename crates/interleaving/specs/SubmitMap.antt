-- The abstract view of the map from submit calls to job numbers.
use Rattle.std.specs.Prelude.{ℕ, ◌==◌, ◌&&◌, ◌%◌, Bool, true, List, Option, Some, None, slice_index_or, if◌then◌else◌}
use Rattle.std.specs.Map.{lookup}
use Rattle.interleaving.specs.declared.submit_map.TheConstants.{TABLE_LEN}

-- the map from submit calls to job numbers. `table` has the entries of the table, or None for a free entry. `others` has the
-- calls whose place in the table another call occupies. `room` is the number of further calls for which memory is reserved in
-- `others`.
pub record SubmitMapView : Type 0 where
  pub table : List (Option ((ℕ × ℕ) × ℕ))
  pub others : List ((ℕ × ℕ) × ℕ)
  pub room : ℕ

abbrev pub same_pair : ℕ × ℕ → ℕ × ℕ → Bool
same_pair x y = x.0 == y.0 && x.1 == y.1

abbrev pub place_of : ℕ × ℕ → ℕ
place_of call = call.0 % TABLE_LEN

-- the entry at index p of the table, or None if it is free
abbrev pub entry_at : List (Option ((ℕ × ℕ) × ℕ)) → ℕ → Option ((ℕ × ℕ) × ℕ)
entry_at table p = slice_index_or table p None

-- the entry is free or belongs to the call
abbrev pub is_for : ℕ × ℕ → Option ((ℕ × ℕ) × ℕ) → Bool
is_for call None = true
is_for call (Some entry) = same_pair entry.0 call

-- the job number in the entry if the entry belongs to the call, and otherwise `other`
abbrev pub number_or : ℕ × ℕ → Option ((ℕ × ℕ) × ℕ) → Option ℕ → Option ℕ
number_or call None other = other
number_or call (Some entry) other = if same_pair entry.0 call then Some entry.1 else other

-- the number of the job that the call created, or None if the map does not contain the call
abbrev pub number_at : SubmitMapView → ℕ × ℕ → Option ℕ
number_at list call = number_or call (entry_at list.table (place_of call)) (lookup (same_pair call) list.others)
