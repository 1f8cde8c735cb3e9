-- The tables, after the progress of one actor is updated.
use Rattle.std.proofs.Common.{◌≡◌, ◌≤◌, ◌⊎◌, ℕ, Bool, true, false, if◌then◌else◌, List, length, is_some, Option, Some, None, refl, ap, sym, subst, ◌∙◌, inl, inr}
use Rattle.std.specs.Prelude.{string_bytes}
use Rattle.std.specs.List.{list_any}
use Rattle.std.specs.Option.{option_map}
use Rattle.std.specs.declared.alloc.Global.{Global}
use Rattle.std.specs.declared.vec.Vec.{Vec}
use Rattle.recordings.specs.declared.step.RecordedStep.{RecordedStep}
use Rattle.recordings.specs.declared.recording_line.RecordedActor.{RecordedActor}
use Rattle.recordings.specs.declared.recording_line.RecordedActor.TheVariants.{Job, Round}
use Rattle.recordings.specs.RecordingLine.{RecordedLine}
use Rattle.recordings.specs.LineParts.{is_same_actor}
use Rattle.recordings.specs.ActorPath.{submits}
use Rattle.recordings.proofs.Refusals.{same_actor}
use Rattle.job_bodies.specs.Plan.{Plan}
use Rattle.conformance.specs.declared.actor_table.ActorTable.{ActorTable}
use Rattle.conformance.specs.declared.actor_table.UnsettledActor.{UnsettledActor}
use Rattle.conformance.specs.declared.actor_table.EndedPath.{EndedPath}
use Rattle.conformance.specs.declared.job_classes.ClassTable.{ClassTable}
use Rattle.conformance.specs.declared.classified_actor.ClassifiedActor.{ClassifiedActor}
use Rattle.conformance.specs.ActorTables.{in_table, classes_in, AreSettledBefore, with_known}
use Rattle.conformance.specs.Represents.{IsNamed, IsEndedPathOf, IsBlocked, AreTablesOf}
use Rattle.conformance.specs.Changes.{ChangesEntry}
use Rattle.conformance.specs.ClassificationResults.{ended_path_of, IsProgressOf, AddsResults}
use Rattle.conformance.proofs.Words.{by_bool, one_of, is_none_of, if_true, if_false}
use Rattle.conformance.proofs.Progress.{waits_as}
use Rattle.conformance.proofs.AddsResults.{reports_same}

-- The entry is unchanged, or it is that of the updated actor.
record Earlier (reached : ℕ) (old : ActorTable) (actor one : RecordedActor) (kept : UnsettledActor) : Type 0 where
  pub earlier : UnsettledActor
  pub there : in_table old one ≡ Some earlier
  pub is : (kept ≡ earlier) ⊎ ((actor ≡ one) × (kept ≡ with_known reached earlier))

mapped : (reached : ℕ) (there : Option UnsettledActor) (kept : UnsettledActor) → option_map (with_known reached) there ≡ Some kept → (earlier : UnsettledActor) × (there ≡ Some earlier) × (kept ≡ with_known reached earlier)
mapped reached (Some earlier) kept h = (earlier, refl, cc)
mapped reached None kept h = absurd (cc)

earlier_of : (reached : ℕ) (old new : ActorTable) (actor : RecordedActor) → ChangesEntry old actor (with_known reached) new → (one : RecordedActor) (kept : UnsettledActor) → in_table new one ≡ Some kept → Earlier reached old actor one kept
earlier_of reached old new actor changed one kept h = by_bool (is_same_actor actor one)
    (λ same.
    let m = mapped reached (in_table old one) kept (sym (changed one ∙ if_true (is_same_actor actor one) (option_map (with_known reached) (in_table old one)) (in_table old one) same) ∙ h) in
    record { earlier = m.0; there = m.1; is = inr (same_actor actor one same, m.2) })
    (λ other. record { earlier = kept; there = sym (changed one ∙ if_false (is_same_actor actor one) (option_map (with_known reached) (in_table old one)) (in_table old one) other) ∙ h; is = inl refl })

some_mapped : (b : Bool) (reached : ℕ) (there : Option UnsettledActor) → is_some (if b then option_map (with_known reached) there else there) ≡ is_some there
some_mapped true reached (Some kept) = refl
some_mapped true reached None = refl
some_mapped false reached there = refl

some_same : (reached : ℕ) (old new : ActorTable) (actor : RecordedActor) → ChangesEntry old actor (with_known reached) new → (one : RecordedActor) → is_some (in_table new one) ≡ is_some (in_table old one)
some_same reached old new actor changed one = ap is_some (changed one) ∙ some_mapped (is_same_actor actor one) reached (in_table old one)

-- ---- the fields of an entry
label_same : (reached : ℕ) (kept earlier : UnsettledActor) {P : Type 0} → (kept ≡ earlier) ⊎ (P × (kept ≡ with_known reached earlier)) → kept.label ≡ earlier.label
label_same reached kept earlier (inl is) = ap (λ (k : UnsettledActor). k.label) is
label_same reached kept earlier (inr is) = ap (λ (k : UnsettledActor). k.label) is.1

pool_same : (reached : ℕ) (kept earlier : UnsettledActor) {P : Type 0} → (kept ≡ earlier) ⊎ (P × (kept ≡ with_known reached earlier)) → kept.pool ≡ earlier.pool
pool_same reached kept earlier (inl is) = ap (λ (k : UnsettledActor). k.pool) is
pool_same reached kept earlier (inr is) = ap (λ (k : UnsettledActor). k.pool) is.1

submitter_same : (reached : ℕ) (kept earlier : UnsettledActor) {P : Type 0} → (kept ≡ earlier) ⊎ (P × (kept ≡ with_known reached earlier)) → kept.submitter ≡ earlier.submitter
submitter_same reached kept earlier (inl is) = ap (λ (k : UnsettledActor). k.submitter) is
submitter_same reached kept earlier (inr is) = ap (λ (k : UnsettledActor). k.submitter) is.1

named_same : (lines : List RecordedLine) (one : RecordedActor) (kept earlier : UnsettledActor) → kept.label ≡ earlier.label → kept.pool ≡ earlier.pool → IsNamed lines one earlier → IsNamed lines one kept
named_same lines (Job job) kept earlier label pool named = named ∙ (ap (λ name. Some (string_bytes name, string_bytes earlier.pool)) (sym label) ∙ ap (λ name. Some (string_bytes kept.label, string_bytes name)) (sym pool))
named_same lines (Round round) kept earlier label pool named = (named.0 ∙ ap (λ name. Some (string_bytes name)) (sym label), ap (λ name. string_bytes name) pool ∙ named.1)

abbrev at_known : ℕ → EndedPath → EndedPath
at_known reached ended_path = record ended_path { known = reached }

none_mapped : (reached : ℕ) (there : Option EndedPath) → option_map (at_known reached) there ≡ None → there ≡ None
none_mapped reached None h = refl
none_mapped reached (Some ended_path) h = absurd (cc)

going_same : (reached : ℕ) (kept earlier : UnsettledActor) {P : Type 0} → (kept ≡ earlier) ⊎ (P × (kept ≡ with_known reached earlier)) → kept.ended_path ≡ None → earlier.ended_path ≡ None
going_same reached kept earlier (inl is) h = ap (λ (k : UnsettledActor). k.ended_path) (sym is) ∙ h
going_same reached kept earlier (inr is) h = none_mapped reached earlier.ended_path (ap (λ (k : UnsettledActor). k.ended_path) (sym is.1) ∙ h)

-- The earlier state of a waiting actor.
record Waited (reached : ℕ) (actor one : RecordedActor) (earlier : UnsettledActor) (ended_path : EndedPath) : Type 0 where
  pub then_waiting : EndedPath
  pub waits : earlier.ended_path ≡ Some then_waiting
  pub is : (ended_path ≡ then_waiting) ⊎ ((actor ≡ one) × (ended_path ≡ at_known reached then_waiting))

some_waiting : (reached : ℕ) (there : Option EndedPath) (ended_path : EndedPath) → option_map (at_known reached) there ≡ Some ended_path → (then_waiting : EndedPath) × (there ≡ Some then_waiting) × (ended_path ≡ at_known reached then_waiting)
some_waiting reached (Some one) ended_path h = (one, refl, cc)
some_waiting reached None ended_path h = absurd (cc)

waited : (reached : ℕ) (actor one : RecordedActor) (kept earlier : UnsettledActor) (ended_path : EndedPath) → (kept ≡ earlier) ⊎ ((actor ≡ one) × (kept ≡ with_known reached earlier)) → kept.ended_path ≡ Some ended_path → Waited reached actor one earlier ended_path
waited reached actor one kept earlier ended_path (inl is) h = record { then_waiting = ended_path; waits = ap (λ (k : UnsettledActor). k.ended_path) (sym is) ∙ h; is = inl refl }
waited reached actor one kept earlier ended_path (inr is) h =
    let m = some_waiting reached earlier.ended_path ended_path (ap (λ (k : UnsettledActor). k.ended_path) (sym is.1) ∙ h) in
    record { then_waiting = m.0; waits = m.1; is = inr (is.0, m.2) }

path_same : (reached : ℕ) (ended_path then_waiting : EndedPath) {P : Type 0} → (ended_path ≡ then_waiting) ⊎ (P × (ended_path ≡ at_known reached then_waiting)) → ended_path.path ≡ then_waiting.path
path_same reached ended_path then_waiting (inl is) = ap (λ (w : EndedPath). w.path) is
path_same reached ended_path then_waiting (inr is) = ap (λ (w : EndedPath). w.path) is.1

further : (lines : List RecordedLine) (actors : ActorTable) (table : ClassTable) (actor one : RecordedActor) (reached : ℕ) (b : Bool) (kept : UnsettledActor) (ended_path then_waiting : EndedPath) → IsProgressOf actors table actor reached b → in_table actors one ≡ Some kept → kept.ended_path ≡ Some then_waiting
    → (ended_path ≡ then_waiting) ⊎ ((actor ≡ one) × (ended_path ≡ at_known reached then_waiting)) → IsEndedPathOf lines table one then_waiting → IsEndedPathOf lines table one ended_path
further lines actors table actor one reached b kept ended_path then_waiting p h is (inl same) w = subst (λ (x : EndedPath). IsEndedPathOf lines table one x) (sym same) w
further lines actors table actor one reached b kept ended_path then_waiting p h is (inr same) w =
    let its : p.ended_path ≡ then_waiting = one_of (ended_path_of actors one) p.ended_path then_waiting (subst (λ (a : RecordedActor). ended_path_of actors a ≡ Some p.ended_path) same.0 p.is) (waits_as actors one kept then_waiting h is) in
    let reach : IsEndedPathOf lines table one (at_known reached then_waiting) = record {
      through = w.through;
      path = w.path;
      within = subst (λ (x : EndedPath). x.known ≤ length x.path.items → reached ≤ length x.path.items) its p.within w.within;
      front = subst (λ (x : EndedPath). AreSettledBefore table x.path.items x.known → AreSettledBefore table x.path.items reached) its p.front w.front;
    } in
    subst (λ (x : EndedPath). IsEndedPathOf lines table one x) (sym same.1) reach

blocked_same : (reached : ℕ) (old new : ActorTable) (one : RecordedActor) (ended_path then_waiting : EndedPath) → ((job : ℕ) → is_some (in_table old (Job job)) ≡ true → is_some (in_table new (Job job)) ≡ true) → ended_path.path ≡ then_waiting.path → IsBlocked old then_waiting ⊎ (None ≡ Some one) → IsBlocked new ended_path ⊎ (None ≡ Some one)
blocked_same reached old new one ended_path then_waiting forth same (inl b) = inl (record { job = b.job; next = ap (λ (path : Vec RecordedStep Global). list_any (submits b.job) path.items) same ∙ b.next; kept = forth b.job b.kept })
blocked_same reached old new one ended_path then_waiting forth same (inr is) = inr is

below_same : (old new : ActorTable) (table : ClassTable) (job : ℕ) → (is_some (in_table old (Job job)) ≡ true → is_some (in_table new (Job job)) ≡ true) → (is_some (in_table old (Job job)) ≡ true) ⊎ (is_some (classes_in table job) ≡ true) → (is_some (in_table new (Job job)) ≡ true) ⊎ (is_some (classes_in table job) ≡ true)
below_same old new table job forth (inl h) = inl (forth h)
below_same old new table job forth (inr h) = inr h

pub kept_advanced : (plan : Plan) (lines : List RecordedLine) (old new : ActorTable) (table : ClassTable) (actor : RecordedActor) (reached : ℕ) (b : Bool) → AreTablesOf plan lines old table None → IsProgressOf old table actor reached b → ChangesEntry old actor (with_known reached) new → AreTablesOf plan lines new table None
kept_advanced plan lines old new table actor reached b k p changed =
    let same : (one : RecordedActor) → is_some (in_table new one) ≡ is_some (in_table old one) = some_same reached old new actor changed in
    record {
      named = λ one kept h. let e = earlier_of reached old new actor changed one kept h in named_same lines one kept e.earlier (label_same reached kept e.earlier e.is) (pool_same reached kept e.earlier e.is) (k.named one e.earlier e.there);
      going = λ one kept h none. let e = earlier_of reached old new actor changed one kept h in k.going one e.earlier e.there (going_same reached kept e.earlier e.is none);
      ended_path = λ one kept ended_path h is.
          let e = earlier_of reached old new actor changed one kept h in
          let w = waited reached actor one kept e.earlier ended_path e.is is in
          further lines old table actor one reached b e.earlier ended_path w.then_waiting p e.there w.waits w.is (k.ended_path one e.earlier w.then_waiting e.there w.waits);
      blocked = λ one kept ended_path h is.
          let e = earlier_of reached old new actor changed one kept h in
          let w = waited reached actor one kept e.earlier ended_path e.is is in
          blocked_same reached old new one ended_path w.then_waiting (λ job there. same (Job job) ∙ there) (path_same reached ended_path w.then_waiting w.is) (k.blocked one e.earlier w.then_waiting e.there w.waits);
      live = λ one h. same one ∙ k.live one h;
      settled = λ one through gone. k.settled one through (is_none_of (in_table old one) (sym (same one) ∙ ap is_some gone));
      classes = k.classes;
      below = λ one job h submitted unrefused. below_same old new table job (λ there. same (Job job) ∙ there) (k.below one job (sym (same one) ∙ h) submitted unrefused);
      submitter = λ one job kept h submitted unrefused. let e = earlier_of reached old new actor changed (Job job) kept h in submitter_same reached kept e.earlier e.is ∙ k.submitter one job e.earlier e.there submitted unrefused;
    }

pub reports_advanced : (IsSo : ClassifiedActor → Type 0) (old new : ActorTable) (actor : RecordedActor) (reached : ℕ) → ChangesEntry old actor (with_known reached) new → (reported : List ClassifiedActor) → AddsResults IsSo old new reported reported
reports_advanced IsSo old new actor reached changed reported = reports_same IsSo old new (some_same reached old new actor changed) reported
