-- The effect of a line on the tables.
use Rattle.std.proofs.Common.{◌≡◌, ℕ, ◌==◌, Bool, true, false, if◌then◌else◌, List, [], Option, Some, None, is_some, refl, ap, sym, subst, ◌∙◌}
use Rattle.std.specs.Option.{option_map}
use Rattle.std.specs.Prelude.{string_bytes}
use Rattle.recordings.specs.declared.recording_line.RecordedActor.{RecordedActor}
use Rattle.recordings.specs.declared.recording_line.RecordedActor.TheVariants.{Job, Round}
use Rattle.recordings.specs.RecordingLine.{RecordedLine, RoundBegins, RoundEnds, Submits, Refused, JobEnds, JobThrew}
use Rattle.recordings.specs.LineParts.{is_actor, is_same_actor}
use Rattle.recordings.specs.LineSteps.{submits_by}
use Rattle.recordings.proofs.Tests.{and_first}
use Rattle.recordings.proofs.Refusals.{same_actor}
use Rattle.conformance.specs.declared.actor_table.ActorTable.{ActorTable}
use Rattle.conformance.specs.declared.actor_table.UnsettledActor.{UnsettledActor}
use Rattle.conformance.specs.declared.actor_table.EndedPath.{EndedPath}
use Rattle.conformance.specs.Label.{label_in, kind_in}
use Rattle.conformance.specs.ActorTables.{in_table, InsertsActor, without_submitter, with_ended_path}
use Rattle.recordings.specs.LastLine.{ended_by}
use Rattle.conformance.specs.Changes.{begun_by, refused_by, ChangesEntry, ChangesTable}
use Rattle.conformance.proofs.Words.{by_bool, apart, some_of, if_true, if_false}
use Rattle.recordings.proofs.SubmitIndices.{same_self}

-- The earlier entry of an actor, and the parts that do not change.
pub record WasKept (line : RecordedLine) (ended_path : EndedPath) (old : ActorTable) (one : RecordedActor) (kept : UnsettledActor) : Type 0 where
  pub earlier : UnsettledActor
  pub there : in_table old one ≡ Some earlier
  pub label : kept.label ≡ earlier.label
  pub pool : kept.pool ≡ earlier.pool
  pub submitter : is_actor one (refused_by line) ≡ false → kept.submitter ≡ earlier.submitter
  pub going : is_actor one (ended_by line) ≡ false → kept.ended_path ≡ earlier.ended_path
  pub ended : is_actor one (ended_by line) ≡ true → kept.ended_path ≡ Some ended_path

abbrev pub IsNamedIn : RecordedLine → RecordedActor → UnsettledActor → Type 0
IsNamedIn line (Job job) kept = label_in job line ≡ Some (string_bytes kept.label, string_bytes kept.pool)
IsNamedIn line (Round round) kept = (kind_in round line ≡ Some (string_bytes kept.label)) × (string_bytes kept.pool ≡ [])

-- The actor begins with the line.
pub record IsNewActor (line : RecordedLine) (one : RecordedActor) (kept : UnsettledActor) : Type 0 where
  pub named : IsNamedIn line one kept
  pub going : kept.ended_path ≡ None
  pub submitter : (actor : RecordedActor) (job : ℕ) → submits_by actor job line ≡ true → kept.submitter ≡ Some actor

pub record AppliedLine (line : RecordedLine) (ended_path : EndedPath) (old new : ActorTable) : Type 0 where
  pub back : (one : RecordedActor) (kept : UnsettledActor) → in_table new one ≡ Some kept → is_actor one (begun_by line) ≡ false → WasKept line ended_path old one kept
  pub new_actor : (one : RecordedActor) (kept : UnsettledActor) → in_table new one ≡ Some kept → is_actor one (begun_by line) ≡ true → IsNewActor line one kept
  pub forth : (one : RecordedActor) → is_some (in_table old one) ≡ true → is_some (in_table new one) ≡ true
  pub there : (one : RecordedActor) → is_actor one (begun_by line) ≡ true → is_some (in_table new one) ≡ true

-- ---- no change
follows_same : (line : RecordedLine) (ended_path : EndedPath) (old new : ActorTable) → begun_by line ≡ None → ended_by line ≡ None → ((one : RecordedActor) → in_table new one ≡ in_table old one) → AppliedLine line ended_path old new
follows_same line ended_path old new unbegun unended same = record {
  back = λ one kept h fails. record {
    earlier = kept;
    there = sym (same one) ∙ h;
    label = refl;
    pool = refl;
    submitter = λ g. refl;
    going = λ g. refl;
    ended = λ g. apart (is_actor one (ended_by line)) g (ap (is_actor one) unended);
  };
  new_actor = λ one kept h holds. apart (is_actor one (begun_by line)) holds (ap (is_actor one) unbegun);
  forth = λ one h. ap is_some (same one) ∙ h;
  there = λ one holds. apart (is_actor one (begun_by line)) holds (ap (is_actor one) unbegun);
}

new_actor_as : (line : RecordedLine) (actor one : RecordedActor) (kept new_actor : UnsettledActor) → actor ≡ one → Some new_actor ≡ Some kept → (label pool : List ℕ) (submitter : Option RecordedActor)
    → string_bytes new_actor.label ≡ label → string_bytes new_actor.pool ≡ pool → new_actor.submitter ≡ submitter → new_actor.ended_path ≡ None
    → ((kept : UnsettledActor) → string_bytes kept.label ≡ label → string_bytes kept.pool ≡ pool → IsNamedIn line actor kept)
    → ((one : RecordedActor) (job : ℕ) → submits_by one job line ≡ true → submitter ≡ Some one)
    → IsNewActor line one kept
new_actor_as line actor one kept new_actor same kept_is label pool submitter label_is pool_is submitter_is going named by =
    let here : IsNewActor line actor new_actor = record { named = named new_actor label_is pool_is; going = going; submitter = λ who job g. submitter_is ∙ by who job g } in
    let is : new_actor ≡ kept = cc in
    subst (λ (k : UnsettledActor). IsNewActor line one k) is (subst (λ (a : RecordedActor). IsNewActor line a new_actor) same here)

-- ---- a new actor
follows_begin : (line : RecordedLine) (ended_path : EndedPath) (old new : ActorTable) (actor : RecordedActor) (label pool : List ℕ) (submitter : Option RecordedActor) → begun_by line ≡ Some actor → ended_by line ≡ None → InsertsActor old actor label pool submitter new
    → ((kept : UnsettledActor) → string_bytes kept.label ≡ label → string_bytes kept.pool ≡ pool → IsNamedIn line actor kept)
    → ((one : RecordedActor) (job : ℕ) → submits_by one job line ≡ true → submitter ≡ Some one)
    → AppliedLine line ended_path old new
follows_begin line ended_path old new actor label pool submitter begun unended comes named by = record {
  back = λ one kept h fails.
      let other : is_same_actor actor one ≡ false = sym (ap (is_actor one) begun) ∙ fails in
      record {
        earlier = kept;
        there = sym (comes.later one ∙ if_false (is_same_actor actor one) (Some comes.kept) (in_table old one) other) ∙ h;
        label = refl;
        pool = refl;
        submitter = λ g. refl;
        going = λ g. refl;
        ended = λ g. apart (is_actor one (ended_by line)) g (ap (is_actor one) unended);
      };
  new_actor = λ one kept h holds.
      let same : is_same_actor actor one ≡ true = sym (ap (is_actor one) begun) ∙ holds in
      let kept_is : Some comes.kept ≡ Some kept = sym (comes.later one ∙ if_true (is_same_actor actor one) (Some comes.kept) (in_table old one) same) ∙ h in
      new_actor_as line actor one kept comes.kept (same_actor actor one same) kept_is label pool submitter comes.label_is comes.pool_is comes.submitter_is comes.going named by;
  forth = λ one h.
      by_bool (is_same_actor actor one) (λ holds. some_of (in_table new one) comes.kept (comes.later one ∙ if_true (is_same_actor actor one) (Some comes.kept) (in_table old one) holds))
      (λ fails. ap is_some (comes.later one ∙ if_false (is_same_actor actor one) (Some comes.kept) (in_table old one) fails) ∙ h);
  there = λ one holds.
      let same : is_same_actor actor one ≡ true = sym (ap (is_actor one) begun) ∙ holds in
      some_of (in_table new one) comes.kept (comes.later one ∙ if_true (is_same_actor actor one) (Some comes.kept) (in_table old one) same);
}

changed_from : (line : RecordedLine) (ended_path : EndedPath) (old : ActorTable) (one : RecordedActor) (kept : UnsettledActor) (actor : RecordedActor) (change : UnsettledActor → UnsettledActor) → actor ≡ one → (earlier : UnsettledActor) → in_table old one ≡ Some earlier → change earlier ≡ kept
    → ((kept : UnsettledActor) → (change kept).label ≡ kept.label) → ((kept : UnsettledActor) → (change kept).pool ≡ kept.pool)
    → ((kept : UnsettledActor) → is_actor actor (refused_by line) ≡ false → (change kept).submitter ≡ kept.submitter)
    → ((kept : UnsettledActor) → is_actor actor (ended_by line) ≡ false → (change kept).ended_path ≡ kept.ended_path)
    → ((kept : UnsettledActor) → is_actor actor (ended_by line) ≡ true → (change kept).ended_path ≡ Some ended_path)
    → WasKept line ended_path old one kept
changed_from line ended_path old one kept actor change same earlier there is label pool submitter going ended = record {
  earlier = earlier;
  there = there;
  label = ap (λ (k : UnsettledActor). k.label) (sym is) ∙ label earlier;
  pool = ap (λ (k : UnsettledActor). k.pool) (sym is) ∙ pool earlier;
  submitter = λ g. ap (λ (k : UnsettledActor). k.submitter) (sym is) ∙ submitter earlier (ap (λ (a : RecordedActor). is_actor a (refused_by line)) same ∙ g);
  going = λ g. ap (λ (k : UnsettledActor). k.ended_path) (sym is) ∙ going earlier (ap (λ (a : RecordedActor). is_actor a (ended_by line)) same ∙ g);
  ended = λ g. ap (λ (k : UnsettledActor). k.ended_path) (sym is) ∙ ended earlier (ap (λ (a : RecordedActor). is_actor a (ended_by line)) same ∙ g);
}

mapped : (change : UnsettledActor → UnsettledActor) (old : Option UnsettledActor) (kept : UnsettledActor) → option_map change old ≡ Some kept → (earlier : UnsettledActor) × (old ≡ Some earlier) × (change earlier ≡ kept)
mapped change (Some earlier) kept h = (earlier, refl, cc)
mapped change None kept h = absurd (cc)

changed_one : (line : RecordedLine) (ended_path : EndedPath) (old : ActorTable) (one : RecordedActor) (kept : UnsettledActor) (actor : RecordedActor) (change : UnsettledActor → UnsettledActor) → actor ≡ one → option_map change (in_table old one) ≡ Some kept
    → ((kept : UnsettledActor) → (change kept).label ≡ kept.label) → ((kept : UnsettledActor) → (change kept).pool ≡ kept.pool)
    → ((kept : UnsettledActor) → is_actor actor (refused_by line) ≡ false → (change kept).submitter ≡ kept.submitter)
    → ((kept : UnsettledActor) → is_actor actor (ended_by line) ≡ false → (change kept).ended_path ≡ kept.ended_path)
    → ((kept : UnsettledActor) → is_actor actor (ended_by line) ≡ true → (change kept).ended_path ≡ Some ended_path)
    → WasKept line ended_path old one kept
changed_one line ended_path old one kept actor change same h label pool submitter going ended =
    let m = mapped change (in_table old one) kept h in
    changed_from line ended_path old one kept actor change same m.0 m.1 m.2 label pool submitter going ended

still_some : (b : Bool) (change : UnsettledActor → UnsettledActor) (old : Option UnsettledActor) → is_some old ≡ true → is_some (if b then option_map change old else old) ≡ true
still_some true change (Some kept) h = refl
still_some true change None h = h
still_some false change old h = h

-- ---- a changed actor
follows_change : (line : RecordedLine) (ended_path : EndedPath) (old new : ActorTable) (actor : RecordedActor) (change : UnsettledActor → UnsettledActor) → begun_by line ≡ None → ChangesEntry old actor change new
    → ((kept : UnsettledActor) → (change kept).label ≡ kept.label) → ((kept : UnsettledActor) → (change kept).pool ≡ kept.pool)
    → ((kept : UnsettledActor) → is_actor actor (refused_by line) ≡ false → (change kept).submitter ≡ kept.submitter)
    → ((kept : UnsettledActor) → is_actor actor (ended_by line) ≡ false → (change kept).ended_path ≡ kept.ended_path)
    → ((kept : UnsettledActor) → is_actor actor (ended_by line) ≡ true → (change kept).ended_path ≡ Some ended_path)
    → ((one : RecordedActor) → is_actor one (ended_by line) ≡ true → is_same_actor actor one ≡ true)
    → AppliedLine line ended_path old new
follows_change line ended_path old new actor change unbegun changed label pool submitter going ended one_ends = record {
  back = λ one kept h fails.
      by_bool (is_same_actor actor one)
      (λ holds. changed_one line ended_path old one kept actor change (same_actor actor one holds) (sym (changed one ∙ if_true (is_same_actor actor one) (option_map change (in_table old one)) (in_table old one) holds) ∙ h) label pool submitter going ended)
      (λ other. record {
        earlier = kept;
        there = sym (changed one ∙ if_false (is_same_actor actor one) (option_map change (in_table old one)) (in_table old one) other) ∙ h;
        label = refl;
        pool = refl;
        submitter = λ g. refl;
        going = λ g. refl;
        ended = λ g. apart (is_same_actor actor one) (one_ends one g) other;
      });
  new_actor = λ one kept h holds. apart (is_actor one (begun_by line)) holds (ap (is_actor one) unbegun);
  forth = λ one h. ap is_some (changed one) ∙ still_some (is_same_actor actor one) change (in_table old one) h;
  there = λ one holds. apart (is_actor one (begun_by line)) holds (ap (is_actor one) unbegun);
}

-- ---- each form of line
named_job : (actor : RecordedActor) (job : ℕ) (class pool : List ℕ) (kept : UnsettledActor) → string_bytes kept.label ≡ class → string_bytes kept.pool ≡ pool → IsNamedIn (Submits actor job class pool) (Job job) kept
named_job actor job class pool kept h g =
    if_true (job == job) (Some (class, pool)) None (same_self job) ∙ (ap (λ (name : List ℕ). Some (name, pool)) (sym h) ∙ ap (λ (name : List ℕ). Some (string_bytes kept.label, name)) (sym g))

named_round : (round : ℕ) (kind : List ℕ) (kept : UnsettledActor) → string_bytes kept.label ≡ kind → string_bytes kept.pool ≡ [] → IsNamedIn (RoundBegins round kind) (Round round) kept
named_round round kind kept h g = (if_true (round == round) (Some kind) None (same_self round) ∙ ap Some (sym h), g)

by_submitter : (submitter actor : RecordedActor) (job j : ℕ) (class pool : List ℕ) → submits_by actor j (Submits submitter job class pool) ≡ true → Some submitter ≡ Some actor
by_submitter submitter actor job j class pool h = ap Some (same_actor submitter actor (and_first (is_same_actor submitter actor) (job == j) h))

pub same_as_self : (actor : RecordedActor) → is_same_actor actor actor ≡ true
same_as_self (Job job) = same_self job
same_as_self (Round round) = same_self round

follows_end : (line : RecordedLine) (ended_path : EndedPath) (old new : ActorTable) (actor : RecordedActor) → begun_by line ≡ None → refused_by line ≡ None → ended_by line ≡ Some actor → ChangesEntry old actor (with_ended_path ended_path) new → AppliedLine line ended_path old new
follows_end line ended_path old new actor unbegun unrefused is changed =
    follows_change line ended_path old new actor (with_ended_path ended_path) unbegun changed (λ kept. refl) (λ kept. refl) (λ kept g. refl)
    (λ kept g. apart (is_same_actor actor actor) (same_as_self actor) (sym (ap (is_actor actor) is) ∙ g)) (λ kept g. refl) (λ one g. sym (ap (is_actor one) is) ∙ g)

pub follows : (line : RecordedLine) (ended_path : EndedPath) (old new : ActorTable) → ChangesTable old line ended_path new → AppliedLine line ended_path old new
follows (RoundBegins round kind) ended_path old new changed =
    follows_begin (RoundBegins round kind) ended_path old new (Round round) kind [] None refl refl changed (λ kept h g. named_round round kind kept h g) (λ one job h. apart false h refl)
follows (Submits actor job class pool) ended_path old new changed =
    follows_begin (Submits actor job class pool) ended_path old new (Job job) class pool (Some actor) refl refl changed (named_job actor job class pool) (λ one j h. by_submitter actor one job j class pool h)
follows (Refused actor job) ended_path old new changed =
    follows_change (Refused actor job) ended_path old new (Job job) without_submitter refl changed (λ kept. refl) (λ kept. refl)
    (λ kept g. apart (job == job) (same_self job) g) (λ kept g. refl) (λ kept g. apart false g refl) (λ one g. apart false g refl)
follows (RoundEnds round) ended_path old new changed = follows_end (RoundEnds round) ended_path old new (Round round) refl refl refl changed
follows (JobEnds job) ended_path old new changed = follows_end (JobEnds job) ended_path old new (Job job) refl refl refl changed
follows (JobThrew job) ended_path old new changed = follows_end (JobThrew job) ended_path old new (Job job) refl refl refl changed
follows line ended_path old new changed = follows_same line ended_path old new refl refl changed
