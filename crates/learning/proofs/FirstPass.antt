-- Lemmas about the names in the lines after one more line, and about the errors of the first pass.
use Rattle.std.proofs.Common.{◌≡◌, ◌≤◌, ◌+◌, length, if◌then◌else◌, List, [], ◌∷◌, ◌++◌, ◌∙◌, Option, Result, Ok, Err, IfErr, ap, sym, subst, arith}
use Rattle.std.specs.Result.{IsErrAnd}
use Rattle.std.proofs.lemmas.List.Sums.{sum_by_push}
use Rattle.job_bodies.specs.declared.limits.TheConstants.{MAX_POOLS}
use Rattle.job_bodies.specs.Plan.{Pool}
use Rattle.recordings.specs.RecordingLine.{RecordedLine}
use Rattle.recordings.specs.LineParts.{is_begin, is_submit}
use Rattle.recordings.specs.Before.{begins, submits}
use Rattle.learning.specs.Unfinished.{is_round_end, is_job_start, is_job_end, is_failed_get, round_ends, job_starts, job_ends, failed_gets}
use Rattle.learning.specs.declared.recorded_names.RecordedNames.{RecordedNames}
use Rattle.learning.specs.declared.learn_error.LearnError.{LearnError}
use Rattle.learning.specs.Pools.{pool_of_line, recorded_pools, with_first_of}
use Rattle.learning.specs.LearningState.{AreNamesOf}
use Rattle.learning.specs.FirstPass.{IsLearnErrorAt}
use Rattle.learning.proofs.Firsts.{pools_more}

begins_more : (before : List RecordedLine) (line : RecordedLine) → begins (before ++ line ∷ []) ≡ begins before + (if is_begin line then 1 else 0)
unfolding begins
begins_more before line = sum_by_push (λ x. if is_begin x then 1 else 0) before line

submits_more : (before : List RecordedLine) (line : RecordedLine) → submits (before ++ line ∷ []) ≡ submits before + (if is_submit line then 1 else 0)
unfolding submits
submits_more before line = sum_by_push (λ x. if is_submit x then 1 else 0) before line

round_ends_more : (before : List RecordedLine) (line : RecordedLine) → round_ends (before ++ line ∷ []) ≡ round_ends before + (if is_round_end line then 1 else 0)
unfolding round_ends
round_ends_more before line = sum_by_push (λ x. if is_round_end x then 1 else 0) before line

job_starts_more : (before : List RecordedLine) (line : RecordedLine) → job_starts (before ++ line ∷ []) ≡ job_starts before + (if is_job_start line then 1 else 0)
unfolding job_starts
job_starts_more before line = sum_by_push (λ x. if is_job_start x then 1 else 0) before line

job_ends_more : (before : List RecordedLine) (line : RecordedLine) → job_ends (before ++ line ∷ []) ≡ job_ends before + (if is_job_end line then 1 else 0)
unfolding job_ends
job_ends_more before line = sum_by_push (λ x. if is_job_end x then 1 else 0) before line

failed_gets_more : (before : List RecordedLine) (line : RecordedLine) → failed_gets (before ++ line ∷ []) ≡ failed_gets before + (if is_failed_get line then 1 else 0)
unfolding failed_gets
failed_gets_more before line = sum_by_push (λ x. if is_failed_get x then 1 else 0) before line

few_none : (pools : List Pool) → pools ≡ [] → length pools ≤ MAX_POOLS
few_none pools none = omega (arith, ap (λ (ps : List Pool). length ps) none)

pub none_named : (names : RecordedNames) → names.pools.items ≡ [] → names.rounds ≡ 0 → names.jobs ≡ 0 → names.ended_rounds ≡ 0 → names.started_jobs ≡ 0 → names.ended_jobs ≡ 0 → names.failed_gets ≡ 0 → AreNamesOf names []
unfolding recorded_pools begins submits round_ends job_starts job_ends failed_gets
none_named names pools rounds jobs ended_rounds started_jobs ended_jobs failed_gets =
    record { pools = pools; few_pools = few_none names.pools.items pools; rounds = rounds; jobs = jobs; ended_rounds = ended_rounds; started_jobs = started_jobs; ended_jobs = ended_jobs; failed_gets = failed_gets }

pub named_after : (old new : RecordedNames) (before : List RecordedLine) (line : RecordedLine) → AreNamesOf old before → new.pools.items ≡ with_first_of (pool_of_line line) old.pools.items → (length old.pools.items ≤ MAX_POOLS → length new.pools.items ≤ MAX_POOLS)
    → new.rounds ≡ old.rounds + (if is_begin line then 1 else 0) → new.jobs ≡ old.jobs + (if is_submit line then 1 else 0) → new.ended_rounds ≡ old.ended_rounds + (if is_round_end line then 1 else 0)
    → new.started_jobs ≡ old.started_jobs + (if is_job_start line then 1 else 0) → new.ended_jobs ≡ old.ended_jobs + (if is_job_end line then 1 else 0) → new.failed_gets ≡ old.failed_gets + (if is_failed_get line then 1 else 0) → AreNamesOf new (before ++ line ∷ [])
named_after old new before line names pools few rounds jobs ended_rounds started_jobs ended_jobs failed_gets = record {
  pools = pools ∙ ap (with_first_of (pool_of_line line)) names.pools ∙ sym (pools_more before line);
  few_pools = few names.few_pools;
  rounds = grind (arith, rounds, names.rounds, begins_more before line);
  jobs = grind (arith, jobs, names.jobs, submits_more before line);
  ended_rounds = grind (arith, ended_rounds, names.ended_rounds, round_ends_more before line);
  started_jobs = grind (arith, started_jobs, names.started_jobs, job_starts_more before line);
  ended_jobs = grind (arith, ended_jobs, names.ended_jobs, job_ends_more before line);
  failed_gets = grind (arith, failed_gets, names.failed_gets, failed_gets_more before line);
}

-- A change of the draft does not affect the pools and the counts.
pub same_names : (old new : RecordedNames) (lines : List RecordedLine) → new ≡ record old { draft = new.draft } → AreNamesOf old lines → AreNamesOf new lines
same_names old new lines same named =
    subst (λ (names : RecordedNames). AreNamesOf names lines) (sym same)
    (record { pools = named.pools; few_pools = named.few_pools; rounds = named.rounds; jobs = named.jobs; ended_rounds = named.ended_rounds; started_jobs = named.started_jobs; ended_jobs = named.ended_jobs; failed_gets = named.failed_gets })

-- An error of a call is an error of its caller.
pub still_stops_at : {A : Type 0} (all : List (Option RecordedLine)) (one : LearnError) (result : Result A LearnError) → IsErrAnd result (λ other. other ≡ one) → IsLearnErrorAt all one → IfErr result (IsLearnErrorAt all)
still_stops_at all one (Ok value) is stops = absurd is
still_stops_at all one (Err other) is stops = subst (IsLearnErrorAt all) (sym is) stops
