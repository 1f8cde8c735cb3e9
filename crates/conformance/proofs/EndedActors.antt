-- An ended actor has no further lines, so its path does not change.
use Rattle.std.proofs.Common.{◌≡◌, ◌||◌, Bool, true, false, if◌then◌else◌, List, [], ◌∷◌, ◌++◌, Option, Some, None, refl, ap, ◌∙◌, arith}
use Rattle.recordings.specs.declared.recording_line.RecordedActor.{RecordedActor}
use Rattle.recordings.specs.declared.recording_line.RecordedActor.TheVariants.{Job, Round}
use Rattle.recordings.specs.RecordingLine.{RecordedLine, Refused}
use Rattle.recordings.specs.LineParts.{actor_of, is_actor, is_of, finishes_job, ends_round}
use Rattle.recordings.specs.Before.{is_ended, is_done}
use Rattle.recordings.specs.Rules.{is_going, is_running}
use Rattle.recordings.proofs.Appended.{is_ended_more, done_more}
use Rattle.recordings.specs.ActorPath.{without_submit}
use Rattle.recordings.specs.Path.{path_of}
use Rattle.recordings.specs.PathsOfLines.{KeepsRules}
use Rattle.recordings.proofs.Tests.{and_second}
use Rattle.recordings.proofs.ByLast.{keeps_last}
use Rattle.recordings.proofs.PathAfter.{path_other, path_refused}
use Rattle.conformance.specs.PathState.{has_ended}
use Rattle.conformance.proofs.LaterLines.{onward}

-- ---- an ended actor remains ended
or_left : (a b : Bool) → a ≡ true → (a || b) ≡ true
or_left a b h = ap (λ x. x || b) h

pub through_more : (before : List RecordedLine) (line : RecordedLine) (actor : RecordedActor) → has_ended before actor ≡ true → has_ended (before ++ line ∷ []) actor ≡ true
through_more before line (Job job) h = done_more before line job ∙ or_left (is_done before job) (finishes_job job line) h
through_more before line (Round round) h = is_ended_more before line round ∙ or_left (is_ended before round) (ends_round round line) h

-- ---- no later line is its own
another : (before : List RecordedLine) (named : Option RecordedActor) (actor : RecordedActor) → is_going before named ≡ true → is_running before named ≡ true → has_ended before actor ≡ true → is_actor actor named ≡ false
another before None actor going running h = refl
another before (Some (Job one)) (Job job) going running h = grind (arith, running, h)
another before (Some (Job one)) (Round round) going running h = refl
another before (Some (Round one)) (Job job) going running h = refl
another before (Some (Round one)) (Round round) going running h = grind (arith, going, h)

pub another_line : (before : List RecordedLine) (line : RecordedLine) (actor : RecordedActor) → KeepsRules (before ++ line ∷ []) → has_ended before actor ≡ true → is_of actor line ≡ false
another_line before line actor kept h =
    let k = keeps_last before line kept in
    another before (actor_of line) actor k.rounds (and_second _ _ k.jobs) h

-- ---- the path
pub path_by_another : (before : List RecordedLine) (line : RecordedLine) (actor : RecordedActor) → KeepsRules (before ++ line ∷ []) → is_of actor line ≡ false → path_of (before ++ line ∷ []) actor ≡ path_of before actor
path_by_another before (Refused who job) actor kept other =
    path_refused before who actor job kept ∙ ap (λ (b : Bool). if b then without_submit job (path_of before actor) else path_of before actor) other
path_by_another before line actor kept other = path_other before line actor (λ job. refl) other

pub record SettledClassesStay (before later : List RecordedLine) (actor : RecordedActor) : Type 0 where
  pub through : has_ended later actor ≡ true
  pub path : path_of later actor ≡ path_of before actor

pub stays : (before more : List RecordedLine) (actor : RecordedActor) → KeepsRules (before ++ more) → has_ended before actor ≡ true → SettledClassesStay before (before ++ more) actor
stays before more actor kept h =
    onward (λ lines. SettledClassesStay before lines actor)
    (λ lines line k s. record { through = through_more lines line actor s.through; path = path_by_another lines line actor k (another_line lines line actor k s.through) ∙ s.path })
    before more kept (record { through = h; path = refl })
