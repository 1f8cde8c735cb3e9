-- The names of the classes and client kinds of a learned plan. Each name belongs to the family of a label in the lines.
use Rattle.std.specs.Prelude.{◌≡◌, ◌≤◌, ◌<◌, ℕ, List, ◌++◌, length, slice_get, codes, decimal, Some}
use Rattle.std.specs.List.{Contains}
use Rattle.job_bodies.specs.declared.limits.TheConstants.{MAX_CLASSES, MAX_NAME_BYTES}
use Rattle.job_bodies.specs.Plan.{Pool, Class, Client}
use Rattle.conformance.specs.Family.{IsOfFamily}
use Rattle.recordings.specs.declared.recording_line.RecordedActor.{RecordedActor}
use Rattle.recordings.specs.RecordingLine.{RecordedLine, RoundBegins, Submits}
use Rattle.learning.specs.Pools.{recorded_pools}

-- ---- labels
-- A round of this label began.
abbrev pub HasBegun : List RecordedLine → List ℕ → Type 0
HasBegun lines label = (round : ℕ) × Contains lines (RoundBegins round label)

-- A job of this label was submitted to the pool of this name.
abbrev pub WasSubmitted : List RecordedLine → List ℕ → List ℕ → Type 0
WasSubmitted lines label pool = (actor : RecordedActor) × (job : ℕ) × Contains lines (Submits actor job label pool)

-- For some number n up to `MAX_CLASSES`, the name LABEL_n is too long for a plan.
abbrev pub IsLong : List ℕ → Type 0
IsLong label = (n : ℕ) × (n ≤ MAX_CLASSES) × (MAX_NAME_BYTES < length (label ++ codes "_" ++ decimal n))

-- ---- names
-- The name of the class belongs to the family of some label, and a job of that label was submitted to the class's pool.
pub record IsNamedClass (lines : List RecordedLine) (class : Class) : Type 0 where
  pub pool : Pool
  pub is_pool : slice_get (recorded_pools lines) class.pool ≡ Some pool
  pub label : List ℕ
  pub submitted : WasSubmitted lines label pool.name
  pub named : IsOfFamily label class.name

-- The name of the client kind belongs to the family of some label, and a round of that label began.
pub record IsNamedClient (lines : List RecordedLine) (client : Client) : Type 0 where
  pub label : List ℕ
  pub begun : HasBegun lines label
  pub named : IsOfFamily label client.name
