-- The changes to the path of one actor.
use Rattle.std.specs.Prelude.{ℕ, ◌==◌, ◌+◌, ◌-◌, Bool, true, false, if◌then◌else◌, List, [], ◌∷◌, ◌++◌, length, take, drop, slice_get, Option, Some, None}
use Rattle.std.specs.List.{list_any}
use Rattle.recordings.specs.declared.step.RecordedStep.{RecordedStep}
use Rattle.recordings.specs.declared.step.RecordedStep.TheVariants.{Submits, Gets}

-- the action is a submit of this job
abbrev pub submits : ℕ → RecordedStep → Bool
submits job (Submits one) = one == job
submits job (Gets place) = false

-- the action gets the job that was submitted at index `place` of the same path
abbrev pub gets : ℕ → RecordedStep → Bool
gets place (Gets got) = got == place
gets place (Submits job) = false

-- ---- the index of a submit
-- the index of the last submit of a job in a path; `here` says whether the first action of the path is such a submit, and the
-- option is the index of the last one in the rest of the path
abbrev pub place_on : Bool → Option ℕ → Option ℕ
place_on here (Some place) = Some (place + 1)
place_on true None = Some 0
place_on false None = None

-- the index of the last submit of the job in the path
abbrev pub submit_place : ℕ → List RecordedStep → Option ℕ
submit_place job [] = None
submit_place job (step ∷ path) = place_on (submits job step) (submit_place job path)

-- ---- a get
-- a later action of the path gets the job that was submitted at this index
abbrev pub is_got : ℕ → List RecordedStep → Bool
is_got place path = list_any (gets place) (drop (place + 1) path)

-- the path with a get of the job that was submitted at this index; unchanged if there is no index or the path has this get
abbrev pub with_get_at : Option ℕ → List RecordedStep → List RecordedStep
with_get_at None path = path
with_get_at (Some place) path = if is_got place path then path else path ++ Gets place ∷ []

abbrev pub with_get : ℕ → List RecordedStep → List RecordedStep
with_get job path = with_get_at (submit_place job path) path

-- ---- a refusal
abbrev pub is_submit_there : ℕ → Option RecordedStep → Bool
is_submit_there job None = false
is_submit_there job (Some step) = submits job step

-- the last action of the path is a submit of the job
unfoldable pub ends_with_submit : ℕ → List RecordedStep → Bool
ends_with_submit job path = is_submit_there job (slice_get path (length path - 1))

-- the path without its last action if that is a submit of the job; otherwise the whole path
abbrev pub without_submit : ℕ → List RecordedStep → List RecordedStep
without_submit job path = if ends_with_submit job path then take (length path - 1) path else path
