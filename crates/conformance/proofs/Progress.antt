-- The progress of an actor that has ended.
use Rattle.std.proofs.Common.{◌≡◌, ◌≤◌, ◌<◌, ◌⊎◌, ℕ, zero, suc, not, nat_le, Bool, true, false, List, [], ◌∷◌, length, slice_get, is_some, Option, Some, None, refl, ap, sym, subst, ◌∙◌, inl, inr, arith}
use Rattle.std.specs.Option.{option_and_then}
use Rattle.std.proofs.lemmas.List.{take_all}
use Rattle.recordings.specs.LineSteps.{is_refused, has_submitted}
use Rattle.recordings.proofs.SubmitIndices.{same_self}
use Rattle.recordings.proofs.Tests.{and_first, and_second}
use Rattle.conformance.proofs.LaterJobs.{path_submits}
use Rattle.std.specs.List.{list_any}
use Rattle.recordings.specs.declared.recording_line.RecordedActor.{RecordedActor}
use Rattle.recordings.specs.declared.recording_line.RecordedActor.TheVariants.{Job, Round}
use Rattle.recordings.specs.RecordingLine.{RecordedLine}
use Rattle.recordings.specs.declared.step.RecordedStep.{RecordedStep}
use Rattle.recordings.specs.declared.step.RecordedStep.TheVariants as recorded
use Rattle.recordings.specs.ActorPath.{submits}
use Rattle.recordings.specs.Path.{path_of}
use Rattle.job_bodies.specs.Plan.{Plan}
use Rattle.conformance.specs.declared.actor_table.ActorTable.{ActorTable}
use Rattle.conformance.specs.declared.actor_table.UnsettledActor.{UnsettledActor}
use Rattle.conformance.specs.declared.actor_table.EndedPath.{EndedPath}
use Rattle.conformance.specs.declared.job_classes.ClassTable.{ClassTable}
use Rattle.conformance.specs.ActorTables.{in_table, classes_in, AreSettledBefore, IsUnsettledAt, is_unsettled, is_settled_step, is_job}
use Rattle.conformance.specs.Represents.{IsBlocked, AreTablesOf}
use Rattle.conformance.specs.ClassificationResults.{ended_path_of, submitter_of, IsProgressOf, IsReady}
use Rattle.conformance.proofs.Words.{apart, two_of, one_of, none_some, some_of, some_at, any_at}

pub progress_of : (actors : ActorTable) (table : ClassTable) (actor : RecordedActor) (ended_path : EndedPath) (known len : ℕ) (path : List RecordedStep) → path ≡ ended_path.path.items → ended_path_of actors actor ≡ Some ended_path
    → (ended_path.known ≤ length path → known ≤ length path) → (AreSettledBefore table path ended_path.known → AreSettledBefore table path known) → IsUnsettledAt table path known → len ≡ length path → IsProgressOf actors table actor known (nat_le len known)
progress_of actors table actor ended_path known len path same is within front there whole = record {
  ended_path = ended_path;
  is = is;
  within = subst (λ (p : List RecordedStep). ended_path.known ≤ length p → known ≤ length p) same within;
  front = subst (λ (p : List RecordedStep). AreSettledBefore table p ended_path.known → AreSettledBefore table p known) same front;
  there = subst (λ (p : List RecordedStep). IsUnsettledAt table p known) same there;
  ready = λ h. subst (λ (p : List RecordedStep). length p ≤ known) same (grind (arith, h, whole));
  blocked = λ h. subst (λ (p : List RecordedStep). known < length p) same (grind (arith, h, whole));
}

-- ---- an actor that is ready
pub settled_jobs : (actors : ActorTable) (table : ClassTable) (actor : RecordedActor) → (r : IsReady actors table actor) → (kept : UnsettledActor) (ended_path : EndedPath) → in_table actors actor ≡ Some kept → kept.ended_path ≡ Some ended_path → (job : ℕ) → list_any (submits job) ended_path.path.items ≡ true → is_some (classes_in table job) ≡ true
settled_jobs actors table actor r kept ended_path there waits =
    let same : r.kept ≡ kept = one_of (in_table actors actor) r.kept kept r.there there in
    let is : r.ended_path ≡ ended_path = one_of kept.ended_path r.ended_path ended_path (subst (λ (k : UnsettledActor). k.ended_path ≡ Some r.ended_path) same r.waits) waits in
    subst (λ (w : EndedPath). (job : ℕ) → list_any (submits job) w.path.items ≡ true → is_some (classes_in table job) ≡ true) is r.settled

two_of_some : {P : Type 0} (next : Option RecordedActor) → next ≡ None → is_some next ≡ true → P
two_of_some next is h = none_some next is h

pub fewer_of : (actor : RecordedActor) (submitter next : Option RecordedActor) → next ≡ submitter_of actor submitter → is_some next ≡ true → is_job actor ≡ 1
fewer_of (Job job) submitter next is h = refl
fewer_of (Round round) submitter next is h = two_of_some next is h

-- ---- an actor that is blocked
blocked_or_its : (actors : ActorTable) (ended_path : EndedPath) (one actor : RecordedActor) (kept : UnsettledActor) → in_table actors one ≡ Some kept → kept.ended_path ≡ Some ended_path
    → ((kept : UnsettledActor) (ended_path : EndedPath) → in_table actors actor ≡ Some kept → kept.ended_path ≡ Some ended_path → IsBlocked actors ended_path)
    → IsBlocked actors ended_path ⊎ (Some actor ≡ Some one) → IsBlocked actors ended_path ⊎ (None ≡ Some one)
blocked_or_its actors ended_path one actor kept h is its (inl b) = inl b
blocked_or_its actors ended_path one actor kept h is its (inr e) = let same : actor ≡ one = cc in inl (its kept ended_path (ap (in_table actors) same ∙ h) is)

there_below : {X : Type 0} (xs : List X) (i : ℕ) → i < length xs → is_some (slice_get xs i) ≡ true
there_below [] i h = absurd (omega arith)
there_below (x ∷ xs) zero h = refl
there_below (x ∷ xs) (suc i) h = there_below xs i (omega arith)

not_true : (b : Bool) → not b ≡ true → b ≡ false
not_true b h = grind (arith, h)

with_blocked : (plan : Plan) (lines : List RecordedLine) (actors : ActorTable) (known : ClassTable) (actor : RecordedActor) → AreTablesOf plan lines actors known (Some actor)
    → ((kept : UnsettledActor) (ended_path : EndedPath) → in_table actors actor ≡ Some kept → kept.ended_path ≡ Some ended_path → IsBlocked actors ended_path) → AreTablesOf plan lines actors known None
with_blocked plan lines actors known actor k its = record {
  named = k.named;
  going = k.going;
  ended_path = k.ended_path;
  blocked = λ one kept ended_path h is. blocked_or_its actors ended_path one actor kept h is its (k.blocked one kept ended_path h is);
  live = k.live;
  settled = k.settled;
  classes = k.classes;
  below = k.below;
  submitter = k.submitter;
}

pub waits_as : (actors : ActorTable) (actor : RecordedActor) (kept : UnsettledActor) (ended_path : EndedPath) → in_table actors actor ≡ Some kept → kept.ended_path ≡ Some ended_path → ended_path_of actors actor ≡ Some ended_path
waits_as actors actor kept ended_path h is = ap (option_and_then (λ (k : UnsettledActor). k.ended_path)) h ∙ is

pub kept_unready : (plan : Plan) (lines : List RecordedLine) (actors : ActorTable) (known : ClassTable) (actor : RecordedActor) → AreTablesOf plan lines actors known (Some actor) → ended_path_of actors actor ≡ None → AreTablesOf plan lines actors known None
kept_unready plan lines actors known actor k none = with_blocked plan lines actors known actor k (λ kept ended_path h is. two_of (ended_path_of actors actor) ended_path (waits_as actors actor kept ended_path h is) none)

unsettled_job : (table : ClassTable) (step : Option RecordedStep) (one : RecordedStep) → step ≡ Some one → is_unsettled table step ≡ true → not (is_settled_step table one) ≡ true
unsettled_job table step one is h = subst (λ (d : Option RecordedStep). is_unsettled table d ≡ true) is h

-- The job of a submit that is not settled.
job_there : (table : ClassTable) (path : List RecordedStep) (place : ℕ) (step : RecordedStep) → slice_get path place ≡ Some step → not (is_settled_step table step) ≡ true → (job : ℕ) × (list_any (submits job) path ≡ true) × (is_some (classes_in table job) ≡ false)
job_there table path place (recorded.Submits job) is h = (job, any_at (submits job) path place (recorded.Submits job) is (same_self job), not_true (is_some (classes_in table job)) h)
job_there table path place (recorded.Gets got) is h = absurd (cc)

kept_job : (actors : ActorTable) (table : ClassTable) (job : ℕ) → is_some (classes_in table job) ≡ false → (is_some (in_table actors (Job job)) ≡ true) ⊎ (is_some (classes_in table job) ≡ true) → is_some (in_table actors (Job job)) ≡ true
kept_job actors table job none (inl h) = h
kept_job actors table job none (inr h) = apart (is_some (classes_in table job)) h none

pub kept_blocked : (plan : Plan) (lines : List RecordedLine) (actors : ActorTable) (table : ClassTable) (actor : RecordedActor) (reached : ℕ) → AreTablesOf plan lines actors table (Some actor) → IsProgressOf actors table actor reached false → AreTablesOf plan lines actors table None
kept_blocked plan lines actors table actor reached k p = with_blocked plan lines actors table actor k
    (λ kept ended_path h is.
    let same : p.ended_path ≡ ended_path = one_of (ended_path_of actors actor) p.ended_path ended_path p.is (waits_as actors actor kept ended_path h is) in
    let w = k.ended_path actor kept ended_path h is in
    let low : reached < length ended_path.path.items = subst (λ (one : EndedPath). reached < length one.path.items) same (p.blocked refl) in
    let open_there : is_unsettled table (slice_get ended_path.path.items reached) ≡ true = subst (λ (one : EndedPath). is_unsettled table (slice_get one.path.items reached) ≡ true) same p.there in
    some_at (slice_get ended_path.path.items reached) (there_below ended_path.path.items reached low)
    (λ step at.
    let j = job_there table ended_path.path.items reached step at (unsettled_job table (slice_get ended_path.path.items reached) step at open_there) in
    let all : list_any (submits j.0) (path_of lines actor) ≡ true = subst (λ (path : List RecordedStep). list_any (submits j.0) path ≡ true) w.path j.1 in
    let split = sym (path_submits lines actor j.0) ∙ all in
    record {
      job = j.0;
      next = j.1;
      kept = kept_job actors table j.0 j.2 (k.below actor j.0 (some_of (in_table actors actor) kept h) (and_first (has_submitted lines actor j.0) (not (is_refused lines j.0)) split) (not_true (is_refused lines j.0) (and_second (has_submitted lines actor j.0) (not (is_refused lines j.0)) split)));
    }))

-- ---- an actor that is ready
waiting_there : (actors : ActorTable) (actor : RecordedActor) (ended_path : EndedPath) → (there : Option UnsettledActor) → in_table actors actor ≡ there → option_and_then (λ (k : UnsettledActor). k.ended_path) there ≡ Some ended_path → (kept : UnsettledActor) × (in_table actors actor ≡ Some kept) × (kept.ended_path ≡ Some ended_path)
waiting_there actors actor ended_path (Some kept) h is = (kept, h, is)
waiting_there actors actor ended_path None h is = absurd (cc)

pub ready_of : (plan : Plan) (lines : List RecordedLine) (actors : ActorTable) (table : ClassTable) (actor : RecordedActor) (reached : ℕ) → AreTablesOf plan lines actors table (Some actor) → IsProgressOf actors table actor reached true → IsReady actors table actor
ready_of plan lines actors table actor reached k p =
    let t = waiting_there actors actor p.ended_path (in_table actors actor) refl p.is in
    let w = k.ended_path actor t.0 p.ended_path t.1 t.2 in
    record {
      kept = t.0;
      ended_path = p.ended_path;
      there = t.1;
      waits = t.2;
      settled = λ job h. p.front w.front job (subst (λ (path : List RecordedStep). list_any (submits job) path ≡ true) (sym (take_all reached p.ended_path.path.items (p.ready refl))) h);
    }
