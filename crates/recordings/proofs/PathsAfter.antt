-- The stored paths are correct after one more line, and after a line that failed for lack of memory.
use Rattle.std.proofs.Common.{◌≡◌, ℕ, ◌==◌, ◌&&◌, ◌||◌, not, Bool, true, false, if◌then◌else◌, List, [], ◌∷◌, ◌++◌, Some, None, refl, ap, sym, ◌∙◌, arith}
use Rattle.std.specs.Option.{option_map}
use Rattle.std.specs.List.{list_any}
use Rattle.recordings.specs.declared.recording_line.RecordedActor.{RecordedActor}
use Rattle.recordings.specs.declared.recording_line.RecordedActor.TheVariants.{Job, Round}
use Rattle.recordings.specs.RecordingLine.{RecordedLine, RoundBegins, RoundEnds, Submits, Refused, JobEnds, JobThrew, Got}
use Rattle.recordings.specs.LineParts.{begins_round, ends_round, finishes_job, submits_job, is_same_actor, is_of, refuses_job}
use Rattle.recordings.specs.Before.{is_begun, is_ended, is_done}
use Rattle.recordings.proofs.Appended.{is_begun_more, is_ended_more, done_more}
use Rattle.recordings.proofs.Keeping.{Keeps}
use Rattle.recordings.specs.declared.step.RecordedStep.{RecordedStep}
use Rattle.recordings.specs.declared.step.RecordedStep.TheVariants as step
use Rattle.recordings.specs.declared.paths.Paths.{Paths}
use Rattle.recordings.specs.ActorPath.{with_get, without_submit}
use Rattle.recordings.specs.LineSteps.{is_submitted, step_by_line}
use Rattle.recordings.specs.Path.{path_of}
use Rattle.recordings.specs.StoredPaths.{path_at, path_in}
use Rattle.recordings.specs.PathChanges.{Change, Changes, change_of, no_change, at_actor, with_step}
use Rattle.recordings.specs.PathsOfLines.{KeepsRules, is_live, live_path_of, IsPathsOf}
use Rattle.recordings.proofs.ByLast.{keeps_before, keeps_last}
use Rattle.recordings.proofs.LaterNumbers.{actor_past, next_job, next_round, known_actor, done_fresh, own_fresh, ended_fresh, round_fresh}
use Rattle.recordings.proofs.StepsByLine.{submitted_more, by_lines_none, other_more}
use Rattle.recordings.proofs.SubmitIndices.{same_self}
use Rattle.recordings.proofs.PathAfter.{path_none, path_same, path_submit, path_get, path_refused}

-- ---- the live actors
and_not : (a b c d : Bool) → a ≡ c → b ≡ d → (a && not b) ≡ (c && not d)
and_not a b c d h g = ap (λ x. x && not b) h ∙ ap (λ x. c && not x) g

job_live : (before : List RecordedLine) (line : RecordedLine) (j : ℕ) → is_live (before ++ line ∷ []) (Job j) ≡ ((is_submitted before j || submits_job j line) && not (is_done before j || finishes_job j line))
job_live before line j =
    and_not (is_submitted (before ++ line ∷ []) j) (is_done (before ++ line ∷ []) j) (is_submitted before j || submits_job j line) (is_done before j || finishes_job j line) (submitted_more before line j) (done_more before line j)

round_live : (before : List RecordedLine) (line : RecordedLine) (r : ℕ) → is_live (before ++ line ∷ []) (Round r) ≡ ((is_begun before r || begins_round r line) && not (is_ended before r || ends_round r line))
round_live before line r =
    and_not (is_begun (before ++ line ∷ []) r) (is_ended (before ++ line ∷ []) r) (is_begun before r || begins_round r line) (is_ended before r || ends_round r line) (is_begun_more before line r) (is_ended_more before line r)

-- the line adds the actor
abbrev comes : RecordedActor → RecordedLine → Bool
comes (Job j) line = submits_job j line
comes (Round r) line = begins_round r line

abbrev goes : RecordedActor → RecordedLine → Bool
goes (Job j) line = finishes_job j line
goes (Round r) line = ends_round r line

still : (a b c d : Bool) → c ≡ false → d ≡ false → ((a || c) && not (b || d)) ≡ (a && not b)
still a b c d h g = grind (arith, h, g)

still_live : (before : List RecordedLine) (line : RecordedLine) (actor : RecordedActor) → comes actor line ≡ false → goes actor line ≡ false → is_live (before ++ line ∷ []) actor ≡ is_live before actor
still_live before line (Job j) h g = job_live before line j ∙ still (is_submitted before j) (is_done before j) (submits_job j line) (finishes_job j line) h g
still_live before line (Round r) h g = round_live before line r ∙ still (is_begun before r) (is_ended before r) (begins_round r line) (ends_round r line) h g

gone : (a b c d : Bool) → d ≡ true → ((a || c) && not (b || d)) ≡ false
gone a b c d g = grind (arith, g)

gone_live : (before : List RecordedLine) (line : RecordedLine) (actor : RecordedActor) → goes actor line ≡ true → is_live (before ++ line ∷ []) actor ≡ false
gone_live before line (Job j) g = job_live before line j ∙ gone (is_submitted before j) (is_done before j) (submits_job j line) (finishes_job j line) g
gone_live before line (Round r) g = round_live before line r ∙ gone (is_begun before r) (is_ended before r) (begins_round r line) (ends_round r line) g

come : (a b c d : Bool) → b ≡ false → c ≡ true → d ≡ false → ((a || c) && not (b || d)) ≡ true
come a b c d f h g = grind (arith, f, h, g)

-- ---- the path of a live actor
shown : (live live_then : Bool) (path path_then : List RecordedStep) → live_then ≡ live → path_then ≡ path → (if live_then then Some path_then else None) ≡ (if live then Some path else None)
shown live live_then path path_then h g = ap (λ (b : Bool). if b then Some path_then else None) h ∙ ap (λ p. if live then Some p else None) g

-- the path of a live actor after a line that changes only the path of one actor
done_if : (same live live_then : Bool) (change_path : List RecordedStep → List RecordedStep) (path path_then : List RecordedStep) → live_then ≡ live → path_then ≡ (if same then change_path path else path)
    → (if same then option_map change_path (if live then Some path else None) else (if live then Some path else None)) ≡ (if live_then then Some path_then else None)
done_if true true live_then change_path path path_then h g = sym (shown true live_then (change_path path) path_then h g)
done_if true false live_then change_path path path_then h g = sym (shown false live_then (change_path path) path_then h g)
done_if false live live_then change_path path path_then h g = sym (shown live live_then path path_then h g)

-- the path is unchanged if the line neither adds nor ends the actor and has no action of the actor
stays : (before : List RecordedLine) (line : RecordedLine) (actor : RecordedActor) → comes actor line ≡ false → goes actor line ≡ false → ((j : ℕ) → refuses_job j line ≡ false) → step_by_line actor before line ≡ None
    → live_path_of before actor ≡ live_path_of (before ++ line ∷ []) actor
stays before line actor h g unrefusing nothing =
    sym (shown (is_live before actor) (is_live (before ++ line ∷ []) actor) (path_of before actor) (path_of (before ++ line ∷ []) actor) (still_live before line actor h g) (path_same before line actor unrefusing nothing))

-- no path is live after the line that ends the actor
leaves : (before : List RecordedLine) (line : RecordedLine) (actor : RecordedActor) → goes actor line ≡ true → None ≡ live_path_of (before ++ line ∷ []) actor
leaves before line actor g = sym (ap (λ (b : Bool). if b then Some (path_of (before ++ line ∷ []) actor) else None) (gone_live before line actor g))

-- the path is empty after the line that adds the actor
enters : (before : List RecordedLine) (line : RecordedLine) (actor : RecordedActor) → is_live (before ++ line ∷ []) actor ≡ true → is_of actor line ≡ false → list_any (is_of actor) before ≡ false → Some [] ≡ live_path_of (before ++ line ∷ []) actor
enters before line actor h other none =
    sym (shown true (is_live (before ++ line ∷ []) actor) [] (path_of (before ++ line ∷ []) actor) h (path_none actor (before ++ line ∷ []) (other_more before line actor other ∙ by_lines_none actor before none)))

round_begins : (before : List RecordedLine) (round r : ℕ) (kind : List ℕ) → KeepsRules before → Keeps before (RoundBegins round kind) → (same : Bool) → (round == r) ≡ same
    → (if same then Some [] else live_path_of before (Round r)) ≡ live_path_of (before ++ RoundBegins round kind ∷ []) (Round r)
round_begins before round r kind kept k true same =
    let past = next_round before round r kind k same in
    let line = RoundBegins round kind in
    enters before line (Round r) (round_live before line r ∙ come (is_begun before r) (is_ended before r) (begins_round r line) (ends_round r line) (ended_fresh before kept r past) same refl) refl (round_fresh before kept r past)
round_begins before round r kind kept k false same = stays before (RoundBegins round kind) (Round r) same refl (λ j. refl) refl

round_ends : (before : List RecordedLine) (round r : ℕ) (same : Bool) → (round == r) ≡ same → (if same then None else live_path_of before (Round r)) ≡ live_path_of (before ++ RoundEnds round ∷ []) (Round r)
round_ends before round r true same = leaves before (RoundEnds round) (Round r) same
round_ends before round r false same = stays before (RoundEnds round) (Round r) refl same (λ j. refl) refl

job_ends : (before : List RecordedLine) (job j : ℕ) (same : Bool) → (job == j) ≡ same → (if same then None else live_path_of before (Job j)) ≡ live_path_of (before ++ JobEnds job ∷ []) (Job j)
job_ends before job j true same = leaves before (JobEnds job) (Job j) same
job_ends before job j false same = stays before (JobEnds job) (Job j) refl same (λ i. refl) refl

job_throws : (before : List RecordedLine) (job j : ℕ) (same : Bool) → (job == j) ≡ same → (if same then None else live_path_of before (Job j)) ≡ live_path_of (before ++ JobThrew job ∷ []) (Job j)
job_throws before job j true same = leaves before (JobThrew job) (Job j) same
job_throws before job j false same = stays before (JobThrew job) (Job j) refl same (λ i. refl) refl

-- the path after a submit, by the actor or by another actor
submitted : (before : List RecordedLine) (submitter actor : RecordedActor) (job : ℕ) (class pool : List ℕ) → KeepsRules before → Keeps before (Submits submitter job class pool) → comes actor (Submits submitter job class pool) ≡ false
    → goes actor (Submits submitter job class pool) ≡ false
    → at_actor submitter (with_step (step.Submits job)) actor (live_path_of before actor) ≡ live_path_of (before ++ Submits submitter job class pool ∷ []) actor
submitted before submitter actor job class pool kept k h g =
    let line = Submits submitter job class pool in
    done_if (is_same_actor submitter actor) (is_live before actor) (is_live (before ++ line ∷ []) actor) (with_step (step.Submits job)) (path_of before actor) (path_of (before ++ line ∷ []) actor) (still_live before line actor h g)
    (path_submit before submitter actor job class pool kept (next_job before line job k (same_self job)))

job_submitted : (before : List RecordedLine) (submitter : RecordedActor) (job j : ℕ) (class pool : List ℕ) → KeepsRules before → Keeps before (Submits submitter job class pool) → (same : Bool) → (job == j) ≡ same
    → (if same then Some [] else at_actor submitter (with_step (step.Submits job)) (Job j) (live_path_of before (Job j))) ≡ live_path_of (before ++ Submits submitter job class pool ∷ []) (Job j)
job_submitted before submitter job j class pool kept k true same =
    let line = Submits submitter job class pool in
    let past = next_job before line j k same in
    enters before line (Job j) (job_live before line j ∙ come (is_submitted before j) (is_done before j) (submits_job j line) (finishes_job j line) (done_fresh before kept j past) same refl)
    (actor_past before (Some submitter) j (known_actor before line k) past) (own_fresh before kept j past)
job_submitted before submitter job j class pool kept k false same = submitted before submitter (Job j) job class pool kept k same refl

refused : (before : List RecordedLine) (who actor : RecordedActor) (job : ℕ) → KeepsRules (before ++ Refused who job ∷ []) → comes actor (Refused who job) ≡ false → goes actor (Refused who job) ≡ false
    → at_actor who (without_submit job) actor (live_path_of before actor) ≡ live_path_of (before ++ Refused who job ∷ []) actor
refused before who actor job kept h g =
    done_if (is_same_actor who actor) (is_live before actor) (is_live (before ++ Refused who job ∷ []) actor) (without_submit job) (path_of before actor) (path_of (before ++ Refused who job ∷ []) actor)
    (still_live before (Refused who job) actor h g) (path_refused before who actor job kept)

at_got : (before : List RecordedLine) (getter actor : RecordedActor) (job : ℕ) → KeepsRules before → comes actor (Got getter job) ≡ false → goes actor (Got getter job) ≡ false
    → at_actor getter (with_get job) actor (live_path_of before actor) ≡ live_path_of (before ++ Got getter job ∷ []) actor
at_got before getter actor job kept h g =
    done_if (is_same_actor getter actor) (is_live before actor) (is_live (before ++ Got getter job ∷ []) actor) (with_get job) (path_of before actor) (path_of (before ++ Got getter job ∷ []) actor)
    (still_live before (Got getter job) actor h g) (path_get before getter actor job kept)

-- ---- the path of an actor after any line
path_after : (before : List RecordedLine) (line : RecordedLine) (actor : RecordedActor) → KeepsRules (before ++ line ∷ []) → KeepsRules before → Keeps before line → change_of line actor (live_path_of before actor) ≡ live_path_of (before ++ line ∷ []) actor
path_after before (RoundBegins round kind) (Round r) all kept k = round_begins before round r kind kept k (round == r) refl
path_after before (RoundEnds round) (Round r) all kept k = round_ends before round r (round == r) refl
path_after before (Submits submitter job class pool) (Job j) all kept k = job_submitted before submitter job j class pool kept k (job == j) refl
path_after before (Submits submitter job class pool) (Round r) all kept k = submitted before submitter (Round r) job class pool kept k refl refl
path_after before (Refused who job) (Job j) all kept k = refused before who (Job j) job all refl refl
path_after before (Refused who job) (Round r) all kept k = refused before who (Round r) job all refl refl
path_after before (JobEnds job) (Job j) all kept k = job_ends before job j (job == j) refl
path_after before (JobThrew job) (Job j) all kept k = job_throws before job j (job == j) refl
path_after before (Got getter job) (Job j) all kept k = at_got before getter (Job j) job kept refl refl
path_after before (Got getter job) (Round r) all kept k = at_got before getter (Round r) job kept refl refl
path_after before line (Job j) all kept k = stays before line (Job j) refl refl (λ i. refl) refl
path_after before line (Round r) all kept k = stays before line (Round r) refl refl (λ i. refl) refl

-- ---- all paths
at_each : (old new : Paths) (change : Change) → Changes old change new → (actor : RecordedActor) → path_at new actor ≡ change actor (path_at old actor)
at_each old new change c (Job j) = c.jobs j
at_each old new change c (Round r) = c.rounds r

pub paths_after : (old new : Paths) (before : List RecordedLine) (line : RecordedLine) → KeepsRules (before ++ line ∷ []) → IsPathsOf old before → Changes old (change_of line) new → IsPathsOf new (before ++ line ∷ [])
paths_after old new before line kept stand changed = record {
  kept = λ actor.
      at_each old new (change_of line) changed actor
      ∙ (ap (change_of line actor) (stand.kept actor) ∙ path_after before line actor kept (keeps_before before line kept) (keeps_last before line kept));
}

pub paths_same : (old new : Paths) (before : List RecordedLine) → IsPathsOf old before → Changes old no_change new → IsPathsOf new before
paths_same old new before stand same = record { kept = λ actor. at_each old new no_change same actor ∙ stand.kept actor }

none_live : (actor : RecordedActor) → is_live [] actor ≡ false
unfolding is_submitted is_begun is_done is_ended
none_live (Job j) = refl
none_live (Round r) = refl

none_at : (paths : Paths) → ((r : ℕ) → path_in paths.rounds r ≡ None) → ((j : ℕ) → path_in paths.jobs j ≡ None) → (actor : RecordedActor) → path_at paths actor ≡ None
none_at paths rounds jobs (Job j) = jobs j
none_at paths rounds jobs (Round r) = rounds r

pub paths_none : (paths : Paths) → ((r : ℕ) → path_in paths.rounds r ≡ None) → ((j : ℕ) → path_in paths.jobs j ≡ None) → IsPathsOf paths []
paths_none paths rounds jobs = record { kept = λ actor. none_at paths rounds jobs actor ∙ sym (ap (λ (b : Bool). if b then Some (path_of [] actor) else None) (none_live actor)) }
