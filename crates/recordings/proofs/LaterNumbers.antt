-- No line names a job or a round with the next number or a later number.
use Rattle.std.proofs.Common.{◌≡◌, ℕ, ◌+◌, ◌≤◌, ◌==◌, ◌||◌, Bool, true, false, if◌then◌else◌, List, Option, Some, None, refl, arith}
use Rattle.std.specs.List.{list_any}
use Rattle.recordings.specs.declared.recording_line.RecordedActor.{RecordedActor}
use Rattle.recordings.specs.declared.recording_line.RecordedActor.TheVariants.{Job, Round}
use Rattle.recordings.specs.RecordingLine.{RecordedLine, RoundBegins, RoundEnds, Submits, Refused, JobEnds, JobThrew, Got}
use Rattle.recordings.specs.LineParts.{actor_of, job_of, is_submit, is_begin, begins_round, ends_round, finishes_job, is_actor, is_of, submits_job, refuses_job}
use Rattle.recordings.specs.Before.{submits, begins, is_begun, is_ended, is_done}
use Rattle.recordings.specs.Rules.{has_next_number, is_known_actor, is_known_job, is_going}
use Rattle.recordings.proofs.Appended.{submits_more, begins_more}
use Rattle.recordings.proofs.Keeping.{Keeps}
use Rattle.recordings.specs.LineSteps.{submits_by, gets_by, is_refused, has_submitted, has_got}
use Rattle.recordings.specs.PathsOfLines.{KeepsRules}
use Rattle.recordings.proofs.Tests.{and_first, and_second, neither, none_more, none_weaker}
use Rattle.recordings.proofs.ByLast.{by_kept}

-- ---- jobs
abbrev is_job : ℕ → Option ℕ → Bool
is_job j None = false
is_job j (Some job) = job == j

-- the line names the job, as its actor or in another role
abbrev pub names_job : ℕ → RecordedLine → Bool
names_job j line = is_job j (job_of line) || is_actor (Job j) (actor_of line) || submits_job j line

job_past : (before : List RecordedLine) (named : Option ℕ) (j : ℕ) → is_known_job before named ≡ true → submits before ≤ j → is_job j named ≡ false
job_past before None j known past = refl
job_past before (Some job) j known past = grind (arith, known, past)

pub actor_past : (before : List RecordedLine) (named : Option RecordedActor) (j : ℕ) → is_known_actor before named ≡ true → submits before ≤ j → is_actor (Job j) named ≡ false
actor_past before None j known past = refl
actor_past before (Some (Job job)) j known past = grind (arith, known, past)
actor_past before (Some (Round round)) j known past = refl

submit_past : (before : List RecordedLine) (line : RecordedLine) (j : ℕ) → has_next_number before line ≡ true → submits before + (if is_submit line then 1 else 0) ≤ j → submits_job j line ≡ false
submit_past before (Submits actor job class pool) j next past = grind (arith, next, past)
submit_past before line j next past = refl

names_past : (before : List RecordedLine) (line : RecordedLine) → Keeps before line → (j : ℕ) → submits before + (if is_submit line then 1 else 0) ≤ j → names_job j line ≡ false
names_past before line k j past =
    let among : submits before ≤ j = omega arith in
    let next = and_first _ _ (and_first _ _ k.numbers) in
    let known = and_second _ _ (and_first _ _ k.numbers) in
    neither _ _ (neither _ _ (job_past before (job_of line) j (and_second _ _ k.numbers) among) (actor_past before (actor_of line) j known among)) (submit_past before line j next past)

pub fresh_job : (lines : List RecordedLine) → KeepsRules lines → (j : ℕ) → submits lines ≤ j → list_any (names_job j) lines ≡ false
fresh_job =
    by_kept (λ lines. (j : ℕ) → submits lines ≤ j → list_any (names_job j) lines ≡ false) (λ j past. refl)
    (λ before line kept k h j past.
    let all : submits before + (if is_submit line then 1 else 0) ≤ j = rw (← submits_more before line) past in
    none_more (names_job j) before line (h j (omega arith)) (names_past before line k j all))

-- the number of a job that a line submits is the next number or a later number, in terms of the lines before it
pub next_job : (before : List RecordedLine) (line : RecordedLine) (j : ℕ) → Keeps before line → submits_job j line ≡ true → submits before ≤ j
next_job before (Submits actor job class pool) j k same = grind (arith, k.numbers, same)
next_job before line j k same = grind (arith, same)

pub next_number : (before : List RecordedLine) (line : RecordedLine) → Keeps before line → has_next_number before line ≡ true
next_number before line k = and_first _ _ (and_first _ _ k.numbers)

pub known_actor : (before : List RecordedLine) (line : RecordedLine) → Keeps before line → is_known_actor before (actor_of line) ≡ true
known_actor before line k = and_second _ _ (and_first _ _ k.numbers)

refusal_names : (j : ℕ) (line : RecordedLine) → refuses_job j line ≡ true → names_job j line ≡ true
refusal_names j (Refused actor job) h = grind (arith, h)
refusal_names j line h = grind (arith, h)

finish_names : (j : ℕ) (line : RecordedLine) → finishes_job j line ≡ true → names_job j line ≡ true
finish_names j (JobEnds job) h = grind (arith, h)
finish_names j (JobThrew job) h = grind (arith, h)
finish_names j line h = grind (arith, h)

submit_names : (j : ℕ) (line : RecordedLine) → submits_job j line ≡ true → names_job j line ≡ true
submit_names j (Submits actor job class pool) h = grind (arith, h)
submit_names j line h = grind (arith, h)

submitter_names : (actor : RecordedActor) (j : ℕ) (line : RecordedLine) → submits_by actor j line ≡ true → names_job j line ≡ true
submitter_names actor j (Submits submitter job class pool) h = grind (arith, h)
submitter_names actor j line h = grind (arith, h)

getter_names : (actor : RecordedActor) (j : ℕ) (line : RecordedLine) → gets_by actor j line ≡ true → names_job j line ≡ true
getter_names actor j (Got getter job) h = grind (arith, h)
getter_names actor j line h = grind (arith, h)

own_names : (j : ℕ) (line : RecordedLine) → is_of (Job j) line ≡ true → names_job j line ≡ true
own_names j line h = grind (arith, h)

pub refused_fresh : (lines : List RecordedLine) → KeepsRules lines → (j : ℕ) → submits lines ≤ j → is_refused lines j ≡ false
unfolding is_refused
refused_fresh lines kept j past = none_weaker (refuses_job j) (names_job j) (refusal_names j) lines (fresh_job lines kept j past)

pub done_fresh : (lines : List RecordedLine) → KeepsRules lines → (j : ℕ) → submits lines ≤ j → is_done lines j ≡ false
unfolding is_done
done_fresh lines kept j past = none_weaker (finishes_job j) (names_job j) (finish_names j) lines (fresh_job lines kept j past)

pub submitted_fresh : (lines : List RecordedLine) → KeepsRules lines → (actor : RecordedActor) (j : ℕ) → submits lines ≤ j → has_submitted lines actor j ≡ false
unfolding has_submitted
submitted_fresh lines kept actor j past = none_weaker (submits_by actor j) (names_job j) (submitter_names actor j) lines (fresh_job lines kept j past)

pub got_fresh : (lines : List RecordedLine) → KeepsRules lines → (actor : RecordedActor) (j : ℕ) → submits lines ≤ j → has_got lines actor j ≡ false
unfolding has_got
got_fresh lines kept actor j past = none_weaker (gets_by actor j) (names_job j) (getter_names actor j) lines (fresh_job lines kept j past)

pub own_fresh : (lines : List RecordedLine) → KeepsRules lines → (j : ℕ) → submits lines ≤ j → list_any (is_of (Job j)) lines ≡ false
own_fresh lines kept j past = none_weaker (is_of (Job j)) (names_job j) (own_names j) lines (fresh_job lines kept j past)

-- ---- rounds
-- the line belongs to the round, or begins the round
abbrev names_round : ℕ → RecordedLine → Bool
names_round r line = is_actor (Round r) (actor_of line) || begins_round r line

begin_names : (r : ℕ) (line : RecordedLine) → begins_round r line ≡ true → names_round r line ≡ true
begin_names r (RoundBegins round kind) h = h
begin_names r line h = grind (arith, h)

end_names : (r : ℕ) (line : RecordedLine) → ends_round r line ≡ true → names_round r line ≡ true
end_names r (RoundEnds round) h = grind (arith, h)
end_names r line h = grind (arith, h)

round_names : (r : ℕ) (line : RecordedLine) → is_of (Round r) line ≡ true → names_round r line ≡ true
round_names r line h = grind (arith, h)

unbegun : (before : List RecordedLine) (r : ℕ) → list_any (names_round r) before ≡ false → is_begun before r ≡ false
unfolding is_begun
unbegun before r none = none_weaker (begins_round r) (names_round r) (begin_names r) before none

going_past : (before : List RecordedLine) (named : Option RecordedActor) (r : ℕ) → is_going before named ≡ true → is_begun before r ≡ false → is_actor (Round r) named ≡ false
going_past before None r going none = refl
going_past before (Some (Job job)) r going none = refl
going_past before (Some (Round round)) r going none = grind (arith, going, none)

pub next_round : (before : List RecordedLine) (round r : ℕ) (kind : List ℕ) → Keeps before (RoundBegins round kind) → (round == r) ≡ true → begins before ≤ r
next_round before round r kind k same = grind (arith, k.numbers, same)

begin_past : (before : List RecordedLine) (line : RecordedLine) (r : ℕ) → has_next_number before line ≡ true → begins before + (if is_begin line then 1 else 0) ≤ r → begins_round r line ≡ false
begin_past before (RoundBegins round kind) r next past = grind (arith, next, past)
begin_past before line r next past = refl

fresh_round : (lines : List RecordedLine) → KeepsRules lines → (r : ℕ) → begins lines ≤ r → list_any (names_round r) lines ≡ false
fresh_round =
    by_kept (λ lines. (r : ℕ) → begins lines ≤ r → list_any (names_round r) lines ≡ false) (λ r past. refl)
    (λ before line kept k h r past.
    let all : begins before + (if is_begin line then 1 else 0) ≤ r = rw (← begins_more before line) past in
    let none = h r (omega arith) in
    none_more (names_round r) before line none
    (neither _ _ (going_past before (actor_of line) r k.rounds (unbegun before r none)) (begin_past before line r (and_first _ _ (and_first _ _ k.numbers)) all)))

pub ended_fresh : (lines : List RecordedLine) → KeepsRules lines → (r : ℕ) → begins lines ≤ r → is_ended lines r ≡ false
unfolding is_ended
ended_fresh lines kept r past = none_weaker (ends_round r) (names_round r) (end_names r) lines (fresh_round lines kept r past)

pub round_fresh : (lines : List RecordedLine) → KeepsRules lines → (r : ℕ) → begins lines ≤ r → list_any (is_of (Round r)) lines ≡ false
round_fresh lines kept r past = none_weaker (is_of (Round r)) (names_round r) (round_names r) lines (fresh_round lines kept r past)
