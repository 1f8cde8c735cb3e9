-- The writes to the files of a store, in order.
use Rattle.std.specs.Prelude.{◌≡◌, ℕ, Bool, List, [], ◌∷◌, ◌++◌, Option, Some, None, IfSome}
use Rattle.clap.specs.Words.{Text}

-- one write: the file's name, the bytes, and whether all of them were written
pub record FileWrite : Type 0 where
  pub name : Text
  pub bytes : List ℕ
  pub is_done : Bool

-- if the writes before a call are known, the writes after it are the same writes followed by these
abbrev pub AppendsWrites : Option (List FileWrite) → Option (List FileWrite) → List FileWrite → Type 0
AppendsWrites old new writes = IfSome old (λ before. new ≡ Some (before ++ writes))

-- the write of the text to the named file; there is no write if there is no text or no name
abbrev pub file_writes : Option (List ℕ) → Option Text → Bool → List FileWrite
file_writes None named is_done = []
file_writes (Some text) None is_done = []
file_writes (Some text) (Some name) is_done = record { name = name; bytes = text; is_done = is_done } ∷ []

-- the call made at most one write, which was to the named file
abbrev pub WritesAtMostOnce : Option (List FileWrite) → Option (List FileWrite) → Option Text → Bool → Type 0
WritesAtMostOnce old new named is_done = (text : Option (List ℕ)) × AppendsWrites old new (file_writes text named is_done)
