-- The tables are empty before the first line, and no actor in the table is settled.
use Rattle.std.proofs.Common.{◌≡◌, ◌⊎◌, ℕ, true, false, List, [], Some, None, refl, subst, inl, inr}
use Rattle.std.specs.List.{list_any}
use Rattle.recordings.specs.declared.recording_line.RecordedActor.{RecordedActor}
use Rattle.recordings.specs.declared.recording_line.RecordedActor.TheVariants.{Job, Round}
use Rattle.recordings.specs.RecordingLine.{RecordedLine}
use Rattle.recordings.specs.Before.{is_begun, is_ended, is_done}
use Rattle.recordings.specs.declared.step.RecordedStep.{RecordedStep}
use Rattle.recordings.specs.ActorPath.{submits}
use Rattle.recordings.specs.LineSteps.{is_submitted}
use Rattle.recordings.specs.Path.{path_of}
use Rattle.recordings.specs.PathsOfLines.{is_live}
use Rattle.job_bodies.specs.Plan.{Plan}
use Rattle.conformance.specs.declared.actor_table.ActorTable.{ActorTable}
use Rattle.conformance.specs.declared.actor_table.EndedPath.{EndedPath}
use Rattle.conformance.specs.declared.job_classes.ClassTable.{ClassTable}
use Rattle.conformance.specs.PathState.{has_ended}
use Rattle.conformance.specs.Classes.{IsSettled, settled}
use Rattle.conformance.specs.ActorTables.{in_table, classes_in}
use Rattle.conformance.specs.Represents.{IsEndedPathOf, IsBlocked, AreTablesOf}
use Rattle.conformance.proofs.Words.{by_option, apart, none_some, two_of}

-- ---- no lines
pub none_through : (one : RecordedActor) → has_ended [] one ≡ false
unfolding is_done is_ended
none_through (Job job) = refl
none_through (Round round) = refl

none_live : (one : RecordedActor) → is_live [] one ≡ false
unfolding is_submitted is_begun
none_live (Job job) = refl
none_live (Round round) = refl

pub kept_none : (plan : Plan) (actors : ActorTable) (known : ClassTable) → ((one : RecordedActor) → in_table actors one ≡ None) → ((job : ℕ) → classes_in known job ≡ None) → AreTablesOf plan [] actors known None
kept_none plan actors known empty unknown = record {
  named = λ one kept h. two_of (in_table actors one) kept h (empty one);
  going = λ one kept h. two_of (in_table actors one) kept h (empty one);
  ended_path = λ one kept ended_path h. two_of (in_table actors one) kept h (empty one);
  blocked = λ one kept ended_path h. two_of (in_table actors one) kept h (empty one);
  live = λ one h. apart (is_live [] one) h (none_live one);
  settled = λ one h. apart (has_ended [] one) h (none_through one);
  classes = record {
    settled = λ job one h. two_of (classes_in known job) one h (unknown job);
    classes = λ job one h. two_of (classes_in known job) one h (unknown job);
    decided = λ job one h. two_of (classes_in known job) one h (unknown job);
  };
  below = λ one job h. none_some (in_table actors one) (empty one) h;
  submitter = λ one job kept h. two_of (in_table actors (Job job)) kept h (empty (Job job));
}

-- ---- actors in the table
waiting_blocked : (actors : ActorTable) (ended_path : EndedPath) (one : RecordedActor) → IsBlocked actors ended_path ⊎ (None ≡ Some one) → IsBlocked actors ended_path
waiting_blocked actors ended_path one (inl b) = b
waiting_blocked actors ended_path one (inr is) = absurd (cc)

pub blocked_below : (lines : List RecordedLine) (known : ClassTable) (actors : ActorTable) (one : RecordedActor) (ended_path : EndedPath) → IsEndedPathOf lines known one ended_path → (b : IsBlocked actors ended_path) → list_any (submits b.job) (path_of lines one) ≡ true
blocked_below lines known actors one ended_path w b =
    subst (λ (path : List RecordedStep). list_any (submits b.job) path ≡ true) w.path b.next

pub settled_gone : (plan : Plan) (lines : List RecordedLine) (actors : ActorTable) (known : ClassTable) → AreTablesOf plan lines actors known None → (one : RecordedActor) → IsSettled lines one → in_table actors one ≡ None
settled_gone plan lines actors known k _ (settled one through below) =
    by_option (in_table actors one)
    (λ kept there. by_option kept.ended_path
    (λ ended_path is.
    let b = waiting_blocked actors ended_path one (k.blocked one kept ended_path there is) in
    none_some (in_table actors (Job b.job))
    (settled_gone plan lines actors known k (Job b.job) (below b.job (blocked_below lines known actors one ended_path (k.ended_path one kept ended_path there is) b)))
    b.kept)
    (λ none. apart (has_ended lines one) through (k.going one kept there none)))
    (λ none. none)
