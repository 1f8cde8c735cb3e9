-- The places (indices) of a list at which a test passes.
use Rattle.std.specs.Prelude.{ℕ, ◌+◌, Bool, true, false, List, [], ◌∷◌, Some, None, Option}

-- the list ns, with n prepended if the condition is true
abbrev pub cons_if : Bool → ℕ → List ℕ → List ℕ
cons_if true n ns = n ∷ ns
cons_if false n ns = ns

-- the places at which the test passes; the place of the first element is n
abbrev pub places_from : {X : Type 0} → (X → Bool) → ℕ → List X → List ℕ
places_from test n [] = []
places_from test n (x ∷ xs) = cons_if (test x) n (places_from test (n + 1) xs)

-- the places at which the test passes, in ascending order
abbrev pub places_where : {X : Type 0} → (X → Bool) → List X → List ℕ
places_where test xs = places_from test 0 xs

-- the last number of the list; None if the list is empty
abbrev pub last_of : List ℕ → Option ℕ
last_of [] = None
last_of (n ∷ []) = Some n
last_of (n ∷ m ∷ ns) = last_of (m ∷ ns)
