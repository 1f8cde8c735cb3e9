-- Lemmas about the labels of the lines, and the classes and client kinds that are made from them.
use Rattle.std.proofs.Common.{◌≡◌, ◌<◌, ◌==◌, ◌&&◌, ℕ, List, [], ◌∷◌, length, true, false, string_bytes, arith, Some, get_or, slice_get, Result, Ok, Err, IfErr, OnOk, sym, subst, inl, inr}
use Rattle.std.specs.Result.{IsErrAnd}
use Rattle.std.specs.List.{All, Contains, position}
use Rattle.std.specs.Str.{bytes_eq}
use Rattle.std.proofs.lemmas.List.Quantifiers.{position-Some}
use Rattle.std.proofs.lemmas.Option.{slice_get-get_or}
use Rattle.std.proofs.lemmas.Slice.Eq.{bytes_eq-Decides}
use Rattle.job_bodies.specs.Plan.{Pool, no_pool}
use Rattle.recordings.specs.declared.recording_line.RecordedActor.{RecordedActor}
use Rattle.recordings.specs.RecordingLine.{RecordedLine, Submits}
use Rattle.learning.specs.declared.entries.Entry.{Entry}
use Rattle.learning.specs.declared.learn_error.LearnError.{LearnError}
use Rattle.learning.specs.declared.learn_error.LearnError.TheVariants as learn_error
use Rattle.learning.specs.declared.inference_limit.InferenceLimit.{InferenceLimit}
use Rattle.learning.specs.declared.inference_limit.InferenceLimit.TheVariants.{Pools, Classes, Kinds, Names, Rounds, Paths, Text}
use Rattle.learning.specs.declared.draft.PlanDraft.{PlanDraft}
use Rattle.learning.specs.InferenceLimit.{HasActors, IsLabel, IsReason}
use Rattle.learning.specs.LearningState.{AreFirstPools, IsDraftOf, IsEntryOf, IsGiven, IsNameError, IsLearnError}

-- ---- a label of the lines
given_label : (lines : List RecordedLine) (beyond : InferenceLimit) (label : List ℕ) (pool : ℕ) → IsGiven lines beyond label pool → IsLabel lines label
given_label lines Pools label pool given = absurd given
given_label lines Classes label pool given = inr (given.pool.name, given.submitted)
given_label lines Kinds label pool given = inl given
given_label lines Names label pool given = absurd given
given_label lines Rounds label pool given = absurd given
given_label lines Paths label pool given = absurd given
given_label lines Text label pool given = absurd given

pub no_name : (lines : List RecordedLine) (beyond : InferenceLimit) (label : List ℕ) (pool : ℕ) (one : LearnError) → IsGiven lines beyond label pool → IsNameError label one → IsLearnError lines one
no_name lines beyond label pool (learn_error.Memory error) given none = none
no_name lines beyond label pool (learn_error.InferenceLimit why) given none = subst (IsReason lines) (sym none.0) (label, given_label lines beyond label pool given, none.1)

-- If there is an entry, the lines have a job or a round.
pub entered_actors : (lines : List RecordedLine) (beyond : InferenceLimit) (entries : List Entry) → All (IsEntryOf lines beyond) entries → 0 < length entries → HasActors lines
entered_actors lines beyond [] each some = absurd (omega (arith, some))
entered_actors lines beyond (entry ∷ entries) each some = (string_bytes entry.label, given_label lines beyond (string_bytes entry.label) entry.pool (each 0 entry (omega arith)).given)

some_actors : (lines : List RecordedLine) (classes kinds : List Entry) → All (IsEntryOf lines Classes) classes → All (IsEntryOf lines Kinds) kinds → (length classes == 0 && length kinds == 0) ≡ false → HasActors lines
some_actors lines [] [] classes kinds some = absurd (grind (arith, some))
some_actors lines [] (kind ∷ rest) classes kinds some = entered_actors lines Kinds (kind ∷ rest) kinds (omega arith)
some_actors lines (class ∷ rest) others classes kinds some = entered_actors lines Classes (class ∷ rest) classes (omega arith)

pub draft_actors : (lines : List RecordedLine) (draft : PlanDraft) → IsDraftOf lines draft → (length draft.classes.entries.items == 0 && length draft.kinds.entries.items == 0) ≡ false → HasActors lines
draft_actors lines draft of some = some_actors lines draft.classes.entries.items draft.kinds.entries.items of.classes.each of.kinds.each some

-- ---- an error of a call is an error of its caller
pub still_stops : {A : Type 0} (lines : List RecordedLine) (one : LearnError) (result : Result A LearnError) → IsErrAnd result (λ other. other ≡ one) → IsLearnError lines one → IfErr result (IsLearnError lines)
still_stops lines one (Ok value) is stops = absurd is
still_stops lines one (Err other) is stops = subst (IsLearnError lines) (sym is) stops

pub on_ok : {A E P Q : Type 0} (result : Result A E) → (P → Q) → OnOk result P → OnOk result Q
on_ok (Ok value) more p = more p
on_ok (Err error) more p = p

-- ---- the label of a job
pub job_given : (lines : List RecordedLine) (pools : List Pool) (actor : RecordedActor) (job : ℕ) (class pool : List ℕ) (number : ℕ) → Contains lines (Submits actor job class pool) → AreFirstPools lines pools
    → position (λ one. bytes_eq one.name pool) pools ≡ Some number → IsGiven lines Classes class number
job_given lines pools actor job class pool number there first found_at =
    let is = position-Some (λ (one : Pool). bytes_eq one.name pool) pools number no_pool found_at in
    let same : bytes_eq (get_or pools number no_pool).name pool ≡ true = is.1 in
    let found = get_or pools number no_pool in
    let at : slice_get pools number ≡ Some found = slice_get-get_or pools number no_pool is.0 in
    let named : found.name ≡ pool = (bytes_eq-Decides found.name pool).0 same in
    record { pool = found; is_pool = first number found at; submitted = (actor, job, subst (λ name. Contains lines (Submits actor job class name)) (sym named) there) }
