-- The abstract view of the sequence of job data, and its representation by a map and a ring.
use Rattle.std.specs.Prelude.{◌≡◌, ℕ, zero, suc, ◌+◌, ◌*◌, ◌<◌, ◌^◌, List, [], ◌∷◌, ◌++◌, length, Option, Some, None, IsSome, nat_eq}
use Rattle.std.specs.HashMap.{HashMap, get}
use Rattle.interleaving.specs.declared.job_table.JobEntry.{JobEntry}

-- the sequence of job data. For each job number, `items` has the stored data, or None if the job is not live. `span` is the
-- number of entries in the ring, gaps included. `room` is the number of further jobs for which memory is reserved.
pub record Row : Type 0 where
  pub items : List (Option JobEntry)
  pub span : ℕ
  pub room : ℕ

-- the maximum length of the ring, gaps included, for this number of live jobs
abbrev pub longest : ℕ → ℕ
longest live = 2 * live + 34

-- the entries at the numbers below n
abbrev pub items_below : (ℕ → Option JobEntry) → ℕ → List (Option JobEntry)
items_below at zero = []
items_below at (suc n) = items_below at n ++ at n ∷ []

-- the sequence: the entries at numbers below `base` are in the map, all others are in the ring
abbrev pub row_items : {S : Type 0} → HashMap ℕ JobEntry S → ℕ → List (Option JobEntry) → List (Option JobEntry)
row_items older base recent = items_below (get nat_eq older) base ++ recent

-- the ring does not begin with a gap
abbrev pub HasNoGapAtFront : List (Option JobEntry) → Type 0
HasNoGapAtFront [] = Unit
HasNoGapAtFront (first ∷ rest) = IsSome first

-- the map has only numbers below `base`, the ring does not begin with a gap, and every number fits in 64 bits
pub record IsRow {S : Type 0} (older : HashMap ℕ JobEntry S) (base : ℕ) (recent : List (Option JobEntry)) : Type 0 where
  pub are_lower : (n : ℕ) (place : JobEntry) → get nat_eq older n ≡ Some place → n < base
  pub front : HasNoGapAtFront recent
  pub fits : base + length recent < 2 ^ 64

-- a list of n gaps
abbrev pub gaps : ℕ → List (Option JobEntry)
gaps zero = []
gaps (suc n) = None ∷ gaps n
