-- The properties of a list of lines to which one line is appended.
use Rattle.std.proofs.Common.{◌≡◌, ℕ, ◌+◌, ◌&&◌, ◌||◌, not, Bool, true, if◌then◌else◌, List, [], ◌∷◌, ◌++◌, Some, refl, arith}
use Rattle.std.specs.List.{list_any, filter}
use Rattle.std.proofs.lemmas.List.Sums.{sum_by_push}
use Rattle.recordings.specs.declared.recording_line.RecordedActor.{RecordedActor}
use Rattle.recordings.specs.RecordingLine.{RecordedLine}
use Rattle.recordings.specs.LineParts.{is_end, is_submit, is_begin, declares, begins_round, ends_round, starts_job, finishes_job, cancels_job, is_of, submits_job, refuses_job}
use Rattle.recordings.specs.Before.{has_begun, is_closed, has_pool, submits, begins, is_begun, is_ended, has_started, is_done, is_cancelled, last_of, just_submitted}

any_more : (p : RecordedLine → Bool) (before : List RecordedLine) (line : RecordedLine) → list_any p (before ++ line ∷ []) ≡ (list_any p before || p line)
any_more p [] line = grind arith
any_more p (first ∷ before) line = grind (arith, any_more p before line)

pub begun_more : (before : List RecordedLine) (line : RecordedLine) → has_begun (before ++ line ∷ []) ≡ true
unfolding has_begun
begun_more [] line = refl
begun_more (first ∷ before) line = refl

pub closed_more : (before : List RecordedLine) (line : RecordedLine) → is_closed (before ++ line ∷ []) ≡ (is_closed before || is_end line)
unfolding is_closed
closed_more before line = any_more is_end before line

pub pool_more : (before : List RecordedLine) (line : RecordedLine) (pool : List ℕ) → has_pool (before ++ line ∷ []) pool ≡ (has_pool before pool || declares pool line)
unfolding has_pool
pool_more before line pool = any_more (declares pool) before line

pub submits_more : (before : List RecordedLine) (line : RecordedLine) → submits (before ++ line ∷ []) ≡ submits before + (if is_submit line then 1 else 0)
unfolding submits
submits_more before line = sum_by_push (λ x. if is_submit x then 1 else 0) before line

pub begins_more : (before : List RecordedLine) (line : RecordedLine) → begins (before ++ line ∷ []) ≡ begins before + (if is_begin line then 1 else 0)
unfolding begins
begins_more before line = sum_by_push (λ x. if is_begin x then 1 else 0) before line

pub is_begun_more : (before : List RecordedLine) (line : RecordedLine) (r : ℕ) → is_begun (before ++ line ∷ []) r ≡ (is_begun before r || begins_round r line)
unfolding is_begun
is_begun_more before line r = any_more (begins_round r) before line

pub is_ended_more : (before : List RecordedLine) (line : RecordedLine) (r : ℕ) → is_ended (before ++ line ∷ []) r ≡ (is_ended before r || ends_round r line)
unfolding is_ended
is_ended_more before line r = any_more (ends_round r) before line

pub started_more : (before : List RecordedLine) (line : RecordedLine) (j : ℕ) → has_started (before ++ line ∷ []) j ≡ (has_started before j || starts_job j line)
unfolding has_started
started_more before line j = any_more (starts_job j) before line

pub done_more : (before : List RecordedLine) (line : RecordedLine) (j : ℕ) → is_done (before ++ line ∷ []) j ≡ (is_done before j || finishes_job j line)
unfolding is_done
done_more before line j = any_more (finishes_job j) before line

pub cancelled_more : (before : List RecordedLine) (line : RecordedLine) (j : ℕ) → is_cancelled (before ++ line ∷ []) j ≡ (is_cancelled before j || cancels_job j line)
unfolding is_cancelled
cancelled_more before line j = any_more (cancels_job j) before line

-- ---- the last line of an actor
last_more : (lines : List RecordedLine) (line : RecordedLine) → last_of (lines ++ line ∷ []) ≡ Some line
last_more [] line = refl
last_more (first ∷ []) line = refl
last_more (first ∷ second ∷ lines) line = last_more (second ∷ lines) line

filter_more : (p : RecordedLine → Bool) (before : List RecordedLine) (line : RecordedLine) → filter p (before ++ line ∷ []) ≡ (if p line then filter p before ++ line ∷ [] else filter p before)
filter_more p [] line = refl
filter_more p (first ∷ before) line = grind (arith, filter_more p before line)

last_passing : (p : RecordedLine → Bool) (before : List RecordedLine) (line : RecordedLine) → last_of (filter p (before ++ line ∷ [])) ≡ (if p line then Some line else last_of (filter p before))
last_passing p before line = grind (arith, filter_more p before line, last_more (filter p before) line)

pub submitted_more : (before : List RecordedLine) (line : RecordedLine) (actor : RecordedActor) (j : ℕ) →
    just_submitted (before ++ line ∷ []) actor j ≡ (if is_of actor line && not (refuses_job j line) then submits_job j line else just_submitted before actor j)
unfolding just_submitted
submitted_more before line actor j = grind (arith, last_passing (λ l. is_of actor l && not (refuses_job j l)) before line)
