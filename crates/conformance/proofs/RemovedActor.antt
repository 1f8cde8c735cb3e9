-- The tables, after a settled actor is removed.
use Rattle.std.proofs.Common.{◌≡◌, ◌⊎◌, ℕ, zero, suc, Bool, true, false, if◌then◌else◌, List, [], ◌∷◌, take, Some, None, refl, ap, sym, subst, ◌∙◌, inl, inr, arith}
use Rattle.std.specs.List.{list_any}
use Rattle.recordings.specs.declared.recording_line.RecordedActor.{RecordedActor}
use Rattle.recordings.specs.declared.recording_line.RecordedActor.TheVariants.{Job, Round}
use Rattle.recordings.specs.RecordingLine.{RecordedLine}
use Rattle.recordings.specs.LineParts.{is_same_actor}
use Rattle.recordings.specs.declared.step.RecordedStep.{RecordedStep}
use Rattle.recordings.specs.ActorPath.{submits}
use Rattle.recordings.specs.Path.{path_of}
use Rattle.recordings.specs.PathsOfLines.{KeepsRules, is_live}
use Rattle.recordings.proofs.Refusals.{same_actor}
use Rattle.job_bodies.specs.Plan.{Plan}
use Rattle.conformance.specs.declared.actor_table.ActorTable.{ActorTable}
use Rattle.conformance.specs.declared.actor_table.EndedPath.{EndedPath}
use Rattle.conformance.specs.declared.job_classes.ClassTable.{ClassTable}
use Rattle.conformance.specs.declared.job_classes.JobClasses.{JobClasses}
use Rattle.conformance.specs.PathState.{has_ended}
use Rattle.conformance.specs.Classes.{IsSettled, settled}
use Rattle.conformance.specs.ClassifiedActor.{CanBe, IsAmbiguous}
use Rattle.conformance.specs.ActorTables.{in_table, classes_in, ReplacesClasses}
use Rattle.conformance.specs.Represents.{IsEndedPathOf, IsBlocked, AreTablesOf}
use Rattle.conformance.specs.ClassificationResults.{submitter_of, IsReady}
use Rattle.conformance.proofs.Words.{by_bool, apart, some_at, or_either, or_left, or_right, if_false}
use Rattle.conformance.proofs.AppliedLine.{same_as_self}
use Rattle.conformance.proofs.EmptyTables.{blocked_below}
use Rattle.conformance.proofs.OtherActors.{Out, path_submitted, still, stays_there, known_still, its_submitter, below_then, classes_then, decided_then}

-- The facts about the step.
pub record RemovedJobs (plan : Plan) (lines : List RecordedLine) (old new : ActorTable) (known then_known : ClassTable) (actor : RecordedActor) (members : List ℕ) (is_decided : Bool) : Type 0 where
  pub keeps : KeepsRules lines
  pub kept : AreTablesOf plan lines old known (Some actor)
  pub ready : IsReady old known actor
  pub goes : (one : RecordedActor) → in_table new one ≡ (if is_same_actor actor one then None else in_table old one)
  pub puts : ReplacesClasses known ready.ended_path.path.items actor ready.kept.submitter members is_decided then_known
  pub can_be : is_decided ≡ true → CanBe plan lines actor members
  pub decided : (IsAmbiguous plan lines actor → ⊥) → is_decided ≡ true

nothing_front : {X : Type 0} (p : X → Bool) (n : ℕ) → list_any p (take n []) ≡ false
nothing_front p zero = refl
nothing_front p (suc n) = refl

any_front : {X : Type 0} (p : X → Bool) (n : ℕ) (xs : List X) → list_any p (take n xs) ≡ true → list_any p xs ≡ true
any_front p n [] h = apart (list_any p (take n [])) h (nothing_front p n)
any_front p zero (x ∷ xs) h = absurd (cc)
any_front p (suc n) (x ∷ xs) h = or_either (p x) (list_any p (take n xs)) h (λ here. or_left _ _ here) (λ rest. or_right _ _ (any_front p n xs rest))

module _ (plan : Plan) (lines : List RecordedLine) (old new : ActorTable) (known then_known : ClassTable) (actor : RecordedActor) (members : List ℕ) (is_decided : Bool) (s : RemovedJobs plan lines old new known then_known actor members is_decided) where
  its_waiting : IsEndedPathOf lines known actor s.ready.ended_path
  its_waiting = s.kept.ended_path actor s.ready.kept s.ready.ended_path s.ready.there s.ready.waits

  -- ---- the actor is settled
  its_jobs : (job : ℕ) → list_any (submits job) (path_of lines actor) ≡ true → IsSettled lines (Job job)
  its_jobs job h =
      some_at (classes_in known job) (s.ready.settled job (subst (λ (path : List RecordedStep). list_any (submits job) path ≡ true) (sym its_waiting.path) h))
      (λ one is. s.kept.classes.settled job one is)

  pub it_is_settled : IsSettled lines actor
  it_is_settled = settled actor its_waiting.through its_jobs

  -- ---- the other actors
  out : Out lines old new known then_known actor s.ready.kept s.ready.ended_path.path.items members is_decided
  out = record {
    keeps = s.keeps;
    there = s.ready.there;
    path_is = its_waiting.path;
    below = s.kept.below;
    submitter = s.kept.submitter;
    goes = s.goes;
    puts = s.puts;
  }

  front_still : (one : RecordedActor) (ended_path : EndedPath) → is_same_actor actor one ≡ false → IsEndedPathOf lines known one ended_path → IsEndedPathOf lines then_known one ended_path
  front_still one ended_path other w = record {
    through = w.through;
    path = w.path;
    within = w.within;
    front = λ job h.
        let all = subst (λ (path : List RecordedStep). list_any (submits job) path ≡ true) w.path (any_front (submits job) ended_path.known ended_path.path.items h) in
        known_still out one job other (path_submitted lines one job all).0 (w.front job h);
  }

  blocked_by : (one : RecordedActor) (ended_path : EndedPath) → is_same_actor actor one ≡ false → IsEndedPathOf lines known one ended_path → IsBlocked old ended_path → IsBlocked new ended_path ⊎ (submitter_of actor s.ready.kept.submitter ≡ Some one)
  blocked_by one ended_path other w b = by_bool (is_same_actor actor (Job b.job))
      (λ same.
      let is = same_actor actor (Job b.job) same in
      let split = path_submitted lines one b.job (blocked_below lines known old one ended_path w b) in
      let by = its_submitter out one b.job is split.0 split.1 in
      inr (ap (λ (a : RecordedActor). submitter_of a s.ready.kept.submitter) is ∙ by))
      (λ else_one. inl (record { job = b.job; next = b.next; kept = stays_there old new actor s.goes (Job b.job) else_one b.kept }))

  blocked_or : (one : RecordedActor) (ended_path : EndedPath) → is_same_actor actor one ≡ false → IsEndedPathOf lines known one ended_path → IsBlocked old ended_path ⊎ (Some actor ≡ Some one) → IsBlocked new ended_path ⊎ (submitter_of actor s.ready.kept.submitter ≡ Some one)
  blocked_or one ended_path other w (inl b) = blocked_by one ended_path other w b
  blocked_or one ended_path other w (inr is) = let same : actor ≡ one = cc in apart (is_same_actor actor one) (subst (λ (a : RecordedActor). is_same_actor actor a ≡ true) same (same_as_self actor)) other

  -- ---- the classes
  settled_then : (job : ℕ) (one : JobClasses) → (classes_in known job ≡ Some one) ⊎ ((actor ≡ Job job) × (one.classes.items ≡ members) × (one.is_decided ≡ is_decided)) → IsSettled lines (Job job)
  settled_then job one (inl h) = s.kept.classes.settled job one h
  settled_then job one (inr own) = subst (λ (a : RecordedActor). IsSettled lines a) own.0 it_is_settled

  not_live : (one : RecordedActor) → is_live lines one ≡ true → has_ended lines one ≡ false
  not_live (Job job) h = grind (arith, h)
  not_live (Round round) h = grind (arith, h)

  pub kept_taken : AreTablesOf plan lines new then_known (submitter_of actor s.ready.kept.submitter)
  kept_taken = record {
    named = λ one kept h. s.kept.named one kept (still old new actor s.goes one kept h).1;
    going = λ one kept h. s.kept.going one kept (still old new actor s.goes one kept h).1;
    ended_path = λ one kept ended_path h is. let was = still old new actor s.goes one kept h in front_still one ended_path was.0 (s.kept.ended_path one kept ended_path was.1 is);
    blocked = λ one kept ended_path h is. let was = still old new actor s.goes one kept h in blocked_or one ended_path was.0 (s.kept.ended_path one kept ended_path was.1 is) (s.kept.blocked one kept ended_path was.1 is);
    live = λ one h. by_bool (is_same_actor actor one)
        (λ same. apart (has_ended lines one) (subst (λ (a : RecordedActor). has_ended lines a ≡ true) (same_actor actor one same) its_waiting.through) (not_live one h))
        (λ other. stays_there old new actor s.goes one other (s.kept.live one h));
    settled = λ one through gone. by_bool (is_same_actor actor one)
        (λ same. subst (λ (a : RecordedActor). IsSettled lines a) (same_actor actor one same) it_is_settled)
        (λ other. s.kept.settled one through (sym (s.goes one ∙ if_false (is_same_actor actor one) None (in_table old one) other) ∙ gone));
    classes = record {
      settled = λ job one h. settled_then job one (s.puts.known job one h);
      classes = classes_then plan lines known then_known s.ready.ended_path.path.items actor s.ready.kept.submitter members is_decided s.puts s.kept.classes.classes s.can_be;
      decided = decided_then plan lines known then_known s.ready.ended_path.path.items actor s.ready.kept.submitter members is_decided s.puts s.kept.classes.decided s.decided;
    };
    below = below_then out;
    submitter = λ one job kept h. s.kept.submitter one job kept (still old new actor s.goes (Job job) kept h).1;
  }
