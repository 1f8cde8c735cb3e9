-- The index of the submits in a path.
use Rattle.std.specs.Prelude.{◌≡◌, ◌≢◌, ℕ, ◌+◌, ◌<◌, false, true, List, [], ◌∷◌, length, get_or}
use Rattle.std.specs.List.{list_any}
use Rattle.recordings.specs.declared.step.RecordedStep.{RecordedStep}
use Rattle.recordings.specs.declared.step.RecordedStep.TheVariants.{Submits, Gets}
use Rattle.recordings.specs.declared.submit_index.SubmitEntry.{SubmitEntry}
use Rattle.recordings.specs.declared.submit_index.SubmitIndex.{SubmitIndex}
use Rattle.recordings.specs.ActorPath.{gets}

-- the entry of a submit whose job the path does not get
abbrev pub unclaimed : ℕ → ℕ → SubmitEntry
unclaimed job place = record { job = job; place = place; got = false }

-- the entries of the submits in a part of a path; the part begins at index n
abbrev pub entries_from : ℕ → List RecordedStep → List SubmitEntry
entries_from n [] = []
entries_from n (Submits job ∷ path) = record { job = job; place = n; got = list_any (gets n) path } ∷ entries_from (n + 1) path
entries_from n (Gets place ∷ path) = entries_from (n + 1) path

unfoldable pub entries_of : List RecordedStep → List SubmitEntry
entries_of path = entries_from 0 path

abbrev pub entry_at : List SubmitEntry → ℕ → SubmitEntry
entry_at entries at = get_or entries at (unclaimed 0 0)

abbrev pub job_at : List SubmitEntry → ℕ → ℕ
job_at entries at = let entry = entry_at entries at in entry.job

-- the entry at this index is the last one for the job
pub record IsLastOf (entries : List SubmitEntry) (job at : ℕ) : Type 0 where
  pub within : at < length entries
  pub is : job_at entries at ≡ job
  pub last : (k : ℕ) → at < k → k < length entries → job_at entries k ≢ job

-- no entry is for the job
abbrev pub IsAbsent : List SubmitEntry → ℕ → Type 0
IsAbsent entries job = (k : ℕ) → k < length entries → job_at entries k ≢ job

-- the job numbers ascend
abbrev pub IsAscending : List SubmitEntry → Type 0
IsAscending entries = (i j : ℕ) → i < j → j < length entries → job_at entries i < job_at entries j

-- the job number is above that of the last entry, if there is one
abbrev pub IsAboveLast : List SubmitEntry → ℕ → Type 0
IsAboveLast entries job = (i : ℕ) → i + 1 ≡ length entries → job_at entries i < job

-- `ascending` is true only if the job numbers ascend
abbrev pub IsOrdered : SubmitIndex → Type 0
IsOrdered index = index.ascending ≡ true → IsAscending index.entries.items
