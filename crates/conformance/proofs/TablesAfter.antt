-- The tables are correct after one more line.
use Rattle.std.proofs.Common.{◌≡◌, ◌⊎◌, ℕ, ◌||◌, true, false, List, [], ◌∷◌, ◌++◌, is_some, Some, None, refl, ap, sym, subst, ◌∙◌, inl, inr, arith}
use Rattle.std.specs.Prelude.{string_bytes}
use Rattle.recordings.specs.declared.recording_line.RecordedActor.{RecordedActor}
use Rattle.recordings.specs.declared.recording_line.RecordedActor.TheVariants.{Job, Round}
use Rattle.recordings.specs.RecordingLine.{RecordedLine, Submits}
use Rattle.recordings.specs.LineParts.{is_actor, refuses_job}
use Rattle.recordings.specs.Before.{begins}
use Rattle.recordings.specs.declared.step.RecordedStep.{RecordedStep}
use Rattle.recordings.specs.LineSteps.{submits_by, is_refused, has_submitted}
use Rattle.recordings.specs.Path.{path_of}
use Rattle.recordings.specs.PathsOfLines.{KeepsRules}
use Rattle.recordings.proofs.Tests.{or_first, or_second}
use Rattle.recordings.proofs.ByLast.{keeps_before, keeps_last}
use Rattle.recordings.proofs.LaterNumbers.{submitted_fresh}
use Rattle.recordings.proofs.StepsByLine.{refused_more, has_submitted_more}
use Rattle.job_bodies.specs.Plan.{Plan}
use Rattle.conformance.specs.declared.actor_table.ActorTable.{ActorTable}
use Rattle.conformance.specs.declared.actor_table.UnsettledActor.{UnsettledActor}
use Rattle.conformance.specs.declared.actor_table.EndedPath.{EndedPath}
use Rattle.conformance.specs.declared.job_classes.ClassTable.{ClassTable}
use Rattle.conformance.specs.PathState.{has_ended}
use Rattle.conformance.specs.Classes.{IsSettled}
use Rattle.conformance.specs.ActorTables.{in_table, classes_in, AreKnown, AreSettledBefore}
use Rattle.recordings.specs.LastLine.{ended_by}
use Rattle.conformance.specs.Changes.{begun_by}
use Rattle.conformance.specs.Represents.{IsNamed, IsEndedPathOf, IsBlocked, AreTablesOf}
use Rattle.conformance.proofs.Ambiguous.{ambiguous_stays}
use Rattle.conformance.proofs.Words.{by_bool, by_option, apart, some_of, none_some, two_of, one_of, is_none_of, or_right, or_either}
use Rattle.conformance.proofs.ActorLabels.{label_more, label_new, label_fresh, kind_more, kind_new, kind_fresh}
use Rattle.conformance.proofs.EndedActors.{stays}
use Rattle.conformance.proofs.SettledClassesStay.{settled_stays, classes_stay}
use Rattle.conformance.proofs.AppliedLine.{WasKept, IsNamedIn, AppliedLine}
use Rattle.conformance.proofs.LineActors.{job_refused, begun_unended, ended_is, path_at_end, through_after, job_past, round_past, begun_going, begun_submits_none, live_before, ended_live}

-- ---- labels
named_new : (before : List RecordedLine) (line : RecordedLine) (one : RecordedActor) (kept : UnsettledActor) → KeepsRules (before ++ line ∷ []) → is_actor one (begun_by line) ≡ true → IsNamedIn line one kept → IsNamed (before ++ line ∷ []) one kept
named_new before line (Job job) kept keeps begun named = label_new before line job (label_fresh before (keeps_before before line keeps) job (job_past before line job (keeps_last before line keeps) begun)) ∙ named
named_new before line (Round round) kept keeps begun named = (kind_new before line round (kind_fresh before (keeps_before before line keeps) round (round_past before line round (keeps_last before line keeps) begun)) ∙ named.0, named.1)

named_still : (before : List RecordedLine) (line : RecordedLine) (one : RecordedActor) (kept earlier : UnsettledActor) → kept.label ≡ earlier.label → kept.pool ≡ earlier.pool → IsNamed before one earlier → IsNamed (before ++ line ∷ []) one kept
named_still before line (Job job) kept earlier label pool named =
    label_more before line job (string_bytes earlier.label, string_bytes earlier.pool) named
    ∙ (ap (λ name. Some (string_bytes name, string_bytes earlier.pool)) (sym label) ∙ ap (λ name. Some (string_bytes kept.label, string_bytes name)) (sym pool))
named_still before line (Round round) kept earlier label pool named = (kind_more before line round (string_bytes earlier.label) named.0 ∙ ap (λ name. Some (string_bytes name)) (sym label), ap (λ name. string_bytes name) pool ∙ named.1)

-- ---- the facts about one step
record Step (plan : Plan) (before : List RecordedLine) (line : RecordedLine) (waits : EndedPath) (old new : ActorTable) (known : ClassTable) : Type 0 where
  pub keeps : KeepsRules (before ++ line ∷ [])
  pub kept : AreTablesOf plan before old known None
  pub follows : AppliedLine line waits old new
  pub ends : (one : RecordedActor) → is_actor one (ended_by line) ≡ true → waits.path.items ≡ path_of before one
  pub begins : waits.known ≡ 0

by_back : (plan : Plan) (before : List RecordedLine) (line : RecordedLine) (waits : EndedPath) (old new : ActorTable) (known : ClassTable) → Step plan before line waits old new known → (one : RecordedActor) (kept : UnsettledActor) → in_table new one ≡ Some kept → {P : Type 0} → (is_actor one (begun_by line) ≡ true → P) → (WasKept line waits old one kept → P) → P
by_back plan before line waits old new known s one kept h new_actor was = by_bool (is_actor one (begun_by line)) new_actor (λ other. was (s.follows.back one kept h other))

not_through : (before : List RecordedLine) (line : RecordedLine) (one : RecordedActor) → has_ended before one ≡ false → is_actor one (ended_by line) ≡ false → has_ended (before ++ line ∷ []) one ≡ false
not_through before line one h g = through_after before line one ∙ (ap (λ b. b || is_actor one (ended_by line)) h ∙ g)

going_after : (plan : Plan) (before : List RecordedLine) (line : RecordedLine) (waits : EndedPath) (old new : ActorTable) (known : ClassTable) → Step plan before line waits old new known → (one : RecordedActor) (kept : UnsettledActor) → in_table new one ≡ Some kept → kept.ended_path ≡ None → has_ended (before ++ line ∷ []) one ≡ false
going_after plan before line waits old new known s one kept h none =
    by_back plan before line waits old new known s one kept h
    (λ begun. not_through before line one (begun_going before line one s.keeps begun) (begun_unended one line begun))
    (λ was. by_bool (is_actor one (ended_by line)) (λ ends. two_of kept.ended_path waits (was.ended ends) none)
    (λ goes. not_through before line one (s.kept.going one was.earlier was.there (sym (was.going goes) ∙ none)) goes))

-- ---- waiting actors
nothing_before : (known : ClassTable) (path : List RecordedStep) (place : ℕ) → place ≡ 0 → AreSettledBefore known path place
nothing_before known path place is = λ job h. absurd (grind (arith, is, h))

waits_now : (before : List RecordedLine) (line : RecordedLine) (known : ClassTable) (waits : EndedPath) (one : RecordedActor) → waits.path.items ≡ path_of before one → waits.known ≡ 0 → is_actor one (ended_by line) ≡ true → IsEndedPathOf (before ++ line ∷ []) known one waits
waits_now before line known waits one path begins ends = record {
  through = through_after before line one ∙ or_right _ _ ends;
  path = path ∙ sym (path_at_end before line one ends);
  within = omega (arith, begins);
  front = nothing_before known waits.path.items waits.known begins;
}

waits_still : (before : List RecordedLine) (line : RecordedLine) (known : ClassTable) (ended_path : EndedPath) (one : RecordedActor) → KeepsRules (before ++ line ∷ []) → IsEndedPathOf before known one ended_path → IsEndedPathOf (before ++ line ∷ []) known one ended_path
waits_still before line known ended_path one keeps w =
    let s = stays before (line ∷ []) one keeps w.through in
    record { through = s.through; path = w.path ∙ sym s.path; within = w.within; front = w.front }

waiting_after : (plan : Plan) (before : List RecordedLine) (line : RecordedLine) (waits : EndedPath) (old new : ActorTable) (known : ClassTable) → Step plan before line waits old new known → (one : RecordedActor) (kept : UnsettledActor) (ended_path : EndedPath) → in_table new one ≡ Some kept → kept.ended_path ≡ Some ended_path → IsEndedPathOf (before ++ line ∷ []) known one ended_path
waiting_after plan before line waits old new known s one kept ended_path h is =
    by_back plan before line waits old new known s one kept h
    (λ begun. two_of kept.ended_path ended_path is (s.follows.new_actor one kept h begun).going)
    (λ was. by_bool (is_actor one (ended_by line))
    (λ ends. subst (λ (w : EndedPath). IsEndedPathOf (before ++ line ∷ []) known one w) (one_of kept.ended_path waits ended_path (was.ended ends) is) (waits_now before line known waits one (s.ends one ends) s.begins ends))
    (λ goes. waits_still before line known ended_path one s.keeps (s.kept.ended_path one was.earlier ended_path was.there (sym (was.going goes) ∙ is))))

blocked_still : (plan : Plan) (before : List RecordedLine) (line : RecordedLine) (waits : EndedPath) (old new : ActorTable) (known : ClassTable) → Step plan before line waits old new known → (ended_path : EndedPath) (one : RecordedActor) → IsBlocked old ended_path ⊎ (None ≡ Some one) → IsBlocked new ended_path ⊎ (ended_by line ≡ Some one)
blocked_still plan before line waits old new known s ended_path one (inl b) = inl (record { job = b.job; next = b.next; kept = s.follows.forth (Job b.job) b.kept })
blocked_still plan before line waits old new known s ended_path one (inr is) = absurd (cc)

blocked_after : (plan : Plan) (before : List RecordedLine) (line : RecordedLine) (waits : EndedPath) (old new : ActorTable) (known : ClassTable) → Step plan before line waits old new known → (one : RecordedActor) (kept : UnsettledActor) (ended_path : EndedPath) → in_table new one ≡ Some kept → kept.ended_path ≡ Some ended_path → IsBlocked new ended_path ⊎ (ended_by line ≡ Some one)
blocked_after plan before line waits old new known s one kept ended_path h is =
    by_back plan before line waits old new known s one kept h
    (λ begun. two_of kept.ended_path ended_path is (s.follows.new_actor one kept h begun).going)
    (λ was. by_bool (is_actor one (ended_by line)) (λ ends. inr (ended_is one line ends))
    (λ goes. blocked_still plan before line waits old new known s ended_path one (s.kept.blocked one was.earlier ended_path was.there (sym (was.going goes) ∙ is))))

-- ---- settled actors
settled_after : (plan : Plan) (before : List RecordedLine) (line : RecordedLine) (waits : EndedPath) (old new : ActorTable) (known : ClassTable) → Step plan before line waits old new known → (one : RecordedActor) → has_ended (before ++ line ∷ []) one ≡ true → in_table new one ≡ None → IsSettled (before ++ line ∷ []) one
settled_after plan before line waits old new known s one h gone =
    or_either (has_ended before one) (is_actor one (ended_by line)) (sym (through_after before line one) ∙ h)
    (λ through. settled_stays before (line ∷ []) s.keeps one (s.kept.settled one through
    (by_bool (is_some (in_table old one)) (λ there. none_some (in_table new one) gone (s.follows.forth one there)) (is_none_of (in_table old one)))))
    (λ ends. none_some (in_table new one) gone (s.follows.forth one (s.kept.live one (ended_live before line one s.keeps ends))))

known_after : (plan : Plan) (before : List RecordedLine) (line : RecordedLine) (known : ClassTable) → KeepsRules (before ++ line ∷ []) → AreKnown plan before known → AreKnown plan (before ++ line ∷ []) known
known_after plan before line known keeps k = record {
  settled = λ job one h. settled_stays before (line ∷ []) keeps (Job job) (k.settled job one h);
  classes = λ job one h decided. classes_stay plan before (line ∷ []) keeps job one.classes.items (k.classes job one h decided) (k.settled job one h);
  decided = λ job one h clear. k.decided job one h (λ ambiguous. clear (ambiguous_stays plan before (line ∷ []) keeps (Job job) (k.settled job one h) ambiguous));
}

-- ---- the jobs of the actors in the table
by_begins : (actor : RecordedActor) (j : ℕ) (line : RecordedLine) → submits_by actor j line ≡ true → is_actor (Job j) (begun_by line) ≡ true
by_begins actor j (Submits submitter job class pool) h = grind (arith, h)
by_begins actor j line h = apart false h refl

forth_below : (plan : Plan) (before : List RecordedLine) (line : RecordedLine) (waits : EndedPath) (old new : ActorTable) (known : ClassTable) → Step plan before line waits old new known → (job : ℕ)
    → (is_some (in_table old (Job job)) ≡ true) ⊎ (is_some (classes_in known job) ≡ true) → (is_some (in_table new (Job job)) ≡ true) ⊎ (is_some (classes_in known job) ≡ true)
forth_below plan before line waits old new known s job (inl h) = inl (s.follows.forth (Job job) h)
forth_below plan before line waits old new known s job (inr h) = inr h

below_of_one : (plan : Plan) (before : List RecordedLine) (line : RecordedLine) (waits : EndedPath) (old new : ActorTable) (known : ClassTable) → Step plan before line waits old new known → (one : RecordedActor) (job : ℕ) (kept : UnsettledActor) → in_table new one ≡ Some kept → has_submitted before one job ≡ true → is_refused before job ≡ false
    → (is_some (in_table new (Job job)) ≡ true) ⊎ (is_some (classes_in known job) ≡ true)
below_of_one plan before line waits old new known s one job kept h submitted unrefused =
    by_back plan before line waits old new known s one kept h
    (λ begun. apart (has_submitted before one job) submitted (begun_submits_none before line one job s.keeps begun))
    (λ was. forth_below plan before line waits old new known s job (s.kept.below one job (some_of (in_table old one) was.earlier was.there) submitted unrefused))

below_after : (plan : Plan) (before : List RecordedLine) (line : RecordedLine) (waits : EndedPath) (old new : ActorTable) (known : ClassTable) → Step plan before line waits old new known → (one : RecordedActor) (job : ℕ) → is_some (in_table new one) ≡ true → has_submitted (before ++ line ∷ []) one job ≡ true → is_refused (before ++ line ∷ []) job ≡ false
    → (is_some (in_table new (Job job)) ≡ true) ⊎ (is_some (classes_in known job) ≡ true)
below_after plan before line waits old new known s one job h submitted unrefused =
    or_either (has_submitted before one job) (submits_by one job line) (sym (has_submitted_more before line one job) ∙ submitted)
    (λ earlier. by_option (in_table new one)
    (λ kept is. below_of_one plan before line waits old new known s one job kept is earlier (or_first (is_refused before job) (refuses_job job line) (sym (refused_more before line job) ∙ unrefused)))
    (λ none. none_some (in_table new one) none h))
    (λ now. inl (s.follows.there (Job job) (by_begins one job line now)))

submitter_after : (plan : Plan) (before : List RecordedLine) (line : RecordedLine) (waits : EndedPath) (old new : ActorTable) (known : ClassTable) → Step plan before line waits old new known → (one : RecordedActor) (job : ℕ) (kept : UnsettledActor) → in_table new (Job job) ≡ Some kept → has_submitted (before ++ line ∷ []) one job ≡ true → is_refused (before ++ line ∷ []) job ≡ false → kept.submitter ≡ Some one
submitter_after plan before line waits old new known s one job kept h submitted unrefused =
    let split = sym (has_submitted_more before line one job) ∙ submitted in
    let spared = sym (refused_more before line job) ∙ unrefused in
    by_bool (is_actor (Job job) (begun_by line))
    (λ begun. (s.follows.new_actor (Job job) kept h begun).submitter one job
    (or_either (has_submitted before one job) (submits_by one job line) split
    (λ earlier. apart (has_submitted before one job) earlier (submitted_fresh before (keeps_before before line s.keeps) one job (job_past before line job (keeps_last before line s.keeps) begun)))
    (λ now. now)))
    (λ other.
    let was = s.follows.back (Job job) kept h other in
    was.submitter (sym (job_refused job line) ∙ or_second (is_refused before job) (refuses_job job line) spared)
    ∙ s.kept.submitter one job was.earlier was.there
    (or_either (has_submitted before one job) (submits_by one job line) split (λ earlier. earlier) (λ now. apart (is_actor (Job job) (begun_by line)) (by_begins one job line now) other))
    (or_first (is_refused before job) (refuses_job job line) spared))

-- ---- the whole table
pub kept_after : (plan : Plan) (before : List RecordedLine) (line : RecordedLine) (waits : EndedPath) (old new : ActorTable) (known : ClassTable) → KeepsRules (before ++ line ∷ []) → AreTablesOf plan before old known None → AppliedLine line waits old new
    → ((one : RecordedActor) → is_actor one (ended_by line) ≡ true → waits.path.items ≡ path_of before one) → waits.known ≡ 0
    → AreTablesOf plan (before ++ line ∷ []) new known (ended_by line)
kept_after plan before line waits old new known keeps kept follows ends begins =
    let s : Step plan before line waits old new known = record { keeps = keeps; kept = kept; follows = follows; ends = ends; begins = begins } in
    record {
      named = λ one k h. by_back plan before line waits old new known s one k h
          (λ begun. named_new before line one k keeps begun (follows.new_actor one k h begun).named)
          (λ was. named_still before line one k was.earlier was.label was.pool (kept.named one was.earlier was.there));
      going = going_after plan before line waits old new known s;
      ended_path = waiting_after plan before line waits old new known s;
      blocked = blocked_after plan before line waits old new known s;
      live = λ one h. by_bool (is_actor one (begun_by line)) (follows.there one) (λ other. follows.forth one (kept.live one (live_before before line one h other)));
      settled = settled_after plan before line waits old new known s;
      classes = known_after plan before line known keeps kept.classes;
      below = below_after plan before line waits old new known s;
      submitter = submitter_after plan before line waits old new known s;
    }
