-- Numbers in ascending order, without duplicates.
use Rattle.std.specs.Prelude.{ℕ, nat_lt, Bool, true, ◌&&◌, List, [], ◌∷◌}

-- the first number is greater than `last`, and each other number is greater than the one before it
abbrev pub rise_above : ℕ → List ℕ → Bool
rise_above last [] = true
rise_above last (n ∷ rest) = nat_lt last n && rise_above n rest

-- each number is greater than the one before it
abbrev pub are_rising : List ℕ → Bool
are_rising [] = true
are_rising (n ∷ rest) = rise_above n rest
