-- The state of the rule check is correct after one more line, whether or not the line breaks a rule.
use Rattle.std.proofs.Common.{◌≡◌, ℕ, ◌+◌, ◌||◌, false, refl, if◌then◌else◌, List, [], ◌∷◌, ◌++◌, is_some, None, sym, ap, ◌∙◌, arith}
use Rattle.recordings.specs.declared.recording_line.RecordedActor.{RecordedActor}
use Rattle.recordings.specs.declared.recording_line.RecordedActor.TheVariants.{Job, Round}
use Rattle.recordings.specs.RecordingLine.{RecordedLine}
use Rattle.recordings.specs.declared.trace_validator.TraceValidator.{TraceValidator}
use Rattle.recordings.specs.LineParts.{is_end, is_submit, is_begin, declares}
use Rattle.recordings.specs.Before as said
use Rattle.recordings.specs.Before.{has_begun, is_closed, has_pool, submits, begins, is_begun, is_ended, has_started, is_done, is_cancelled, just_submitted}
use Rattle.recordings.specs.Pools.{has_name}
use Rattle.recordings.specs.Rules.{first_broken_rule}
use Rattle.recordings.specs.StoredState.{round_at, last_submit_of_round, job_at, last_submit_in}
use Rattle.recordings.specs.StateChanges.{AppliesLine, IsSame}
use Rattle.recordings.specs.StateOfLines.{Represents, is_at, last_submit_of}
use Rattle.recordings.proofs.Appended.{begun_more, closed_more, pool_more, submits_more, begins_more}
use Rattle.recordings.proofs.Keeping.{keeps_all}
use Rattle.recordings.proofs.JobsAfter.{started_after, done_after, settled_after, unsubmitted_after}
use Rattle.recordings.proofs.RoundsAfter.{not_begun_after, not_ended_after, going_after}
use Rattle.recordings.proofs.LastSubmitsAfter.{last_submit_after}

nothing_last_submit : (lines : TraceValidator) → ((r : ℕ) → round_at lines.rounds r ≡ None) → ((j : ℕ) → job_at lines.jobs j ≡ None) → (actor : RecordedActor) (j : ℕ) → is_at j (last_submit_of lines actor) ≡ false
nothing_last_submit lines rounds jobs (Job i) j = ap (λ there. is_at j (last_submit_in there)) (jobs i)
nothing_last_submit lines rounds jobs (Round r) j = ap (λ there. is_at j (last_submit_of_round there)) (rounds r)

pub stands_none : (lines : TraceValidator) → lines.begun ≡ false → lines.closed ≡ false → ((pool : List ℕ) → has_name lines.pools pool ≡ false) → lines.rounds.begun ≡ 0 → ((r : ℕ) → round_at lines.rounds r ≡ None)
    → lines.jobs.submitted ≡ 0 → ((j : ℕ) → job_at lines.jobs j ≡ None) → Represents lines []
unfolding has_begun is_closed has_pool submits begins is_begun is_ended has_started is_done is_cancelled just_submitted
stands_none lines begun closed pools rounds_begun rounds submitted jobs = record {
  begun = begun;
  closed = closed;
  pools = pools;
  submitted = submitted;
  rounds_begun = rounds_begun;
  going = λ r. ap is_some (rounds r);
  not_begun = λ r past. refl;
  not_ended = λ r past. refl;
  started = λ j. grind (arith, submitted);
  done = λ j. grind (arith, submitted);
  settled = λ j. grind (arith, submitted);
  last_submit = nothing_last_submit lines rounds jobs;
  unsubmitted = λ j past. jobs j;
}

pub stands_after : (old new : TraceValidator) (before : List RecordedLine) (line : RecordedLine) → Represents old before → first_broken_rule before line ≡ None → AppliesLine old line new → Represents new (before ++ line ∷ [])
stands_after old new before line s unbroken f =
    let k = keeps_all before line unbroken in
    record {
      begun = f.begun ∙ sym (begun_more before line);
      closed = f.closed ∙ ap (λ b. b || is_end line) s.closed ∙ sym (closed_more before line);
      pools = λ pool. f.pools pool ∙ ap (λ b. b || declares pool line) (s.pools pool) ∙ sym (pool_more before line pool);
      submitted = f.submitted ∙ ap (λ n. n + (if is_submit line then 1 else 0)) s.submitted ∙ sym (submits_more before line);
      rounds_begun = f.rounds_begun ∙ ap (λ n. n + (if is_begin line then 1 else 0)) s.rounds_begun ∙ sym (begins_more before line);
      going = going_after old new before line s k f;
      not_begun = not_begun_after old new before line s k f;
      not_ended = not_ended_after old new before line s k f;
      started = started_after old new before line s k f;
      done = done_after old new before line s k f;
      settled = settled_after old new before line s k f;
      last_submit = last_submit_after old new before line s k f;
      unsubmitted = unsubmitted_after old new before line s k f;
    }

last_submit_same : (old new : TraceValidator) (before : List RecordedLine) → Represents old before → IsSame old new → (actor : RecordedActor) (j : ℕ) → is_at j (last_submit_of new actor) ≡ said.just_submitted before actor j
last_submit_same old new before s same (Job i) j = ap (λ there. is_at j (last_submit_in there)) (same.jobs i) ∙ s.last_submit (Job i) j
last_submit_same old new before s same (Round r) j = ap (λ there. is_at j (last_submit_of_round there)) (same.rounds r) ∙ s.last_submit (Round r) j

pub stands_same : (old new : TraceValidator) (before : List RecordedLine) → Represents old before → IsSame old new → Represents new before
stands_same old new before s same = record {
  begun = same.begun ∙ s.begun;
  closed = same.closed ∙ s.closed;
  pools = λ pool. same.pools pool ∙ s.pools pool;
  submitted = same.submitted ∙ s.submitted;
  rounds_begun = same.rounds_begun ∙ s.rounds_begun;
  going = λ r. ap is_some (same.rounds r) ∙ s.going r;
  not_begun = λ r past. grind (arith, past, s.not_begun r, same.rounds_begun);
  not_ended = λ r past. grind (arith, past, s.not_ended r, same.rounds_begun);
  started = λ j. grind (arith, s.started j, same.jobs j, same.submitted);
  done = λ j. grind (arith, s.done j, same.jobs j, same.submitted);
  settled = λ j. grind (arith, s.settled j, same.jobs j, same.submitted);
  last_submit = last_submit_same old new before s same;
  unsubmitted = λ j past. grind (arith, past, s.unsubmitted j, same.jobs j, same.submitted);
}
