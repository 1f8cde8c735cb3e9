-- The numbers of gets that timed out or were interrupted, after one more line.
use Rattle.std.proofs.Common.{◌≡◌, ◌≤◌, ℕ, ◌+◌, ◌==◌, ◌&&◌, Bool, true, false, if◌then◌else◌, List, [], ◌∷◌, ◌++◌, length, Some, None, refl, ap, sym, subst, ◌∙◌, arith}
use Rattle.std.specs.HashMap.{HashMap, get}
use Rattle.std.specs.Map.{lookup}
use Rattle.std.specs.Option.{unwrap_or}
use Rattle.std.proofs.lemmas.List.Sums.{count_by-le-length}
use Rattle.recordings.specs.declared.recording_line.RecordedActor.{RecordedActor}
use Rattle.recordings.specs.declared.recording_line.RecordedActor.TheVariants.{Job, Round}
use Rattle.recordings.specs.contracts.recording_line.RecordedActorPartialEq.TheImpl as actor_eq
use Rattle.recordings.specs.RecordingLine.{RecordedLine, TimedOut, Interrupted}
use Rattle.recordings.specs.LineParts.{is_same_actor}
use Rattle.conformance.specs.declared.failed_gets.JobGet.{JobGet}
use Rattle.conformance.specs.FailedGets as spec
use Rattle.conformance.proofs.FirstLinesAfter.{some_is, and_both, same_number, same_actors, empty_if}
use Rattle.conformance.proofs.LineByLine.{count_more}

-- ---- the equality of the keys
same_tests : (one other : RecordedActor) → (actor_eq.ghosts).eq one other ≡ is_same_actor one other
same_tests (Job n) (Job m) = refl
same_tests (Job n) (Round m) = refl
same_tests (Round n) (Job m) = refl
same_tests (Round n) (Round m) = refl

same_get : (one other : JobGet) → spec.is_same_get one other ≡ true → one ≡ other
same_get one other h =
    let parts = and_both ((actor_eq.ghosts).eq one.actor other.actor) (one.job == other.job) h in
    ap (λ (actor : RecordedActor). record { actor = actor; job = one.job }) (same_actors one.actor other.actor parts.0)
    ∙ ap (λ (job : ℕ). record { actor = other.actor; job = job }) (same_number one.job other.job parts.1)

-- A line counts for the get that it records, and for no other.
counts_for : (line : RecordedLine) (got one : JobGet) → spec.failed_get_of line ≡ Some got → spec.is_same_get got one ≡ spec.is_failed_get one.actor one.job line
counts_for (TimedOut actor job) got one is = subst (λ (g : JobGet). spec.is_same_get g one ≡ (is_same_actor actor one.actor && (job == one.job))) (some_is (record { actor = actor; job = job }) got is) (ap (λ b. b && (job == one.job)) (same_tests actor one.actor))
counts_for (Interrupted actor job) got one is = subst (λ (g : JobGet). spec.is_same_get g one ≡ (is_same_actor actor one.actor && (job == one.job))) (some_is (record { actor = actor; job = job }) got is) (ap (λ b. b && (job == one.job)) (same_tests actor one.actor))
counts_for line got one is = absurd (let e : None ≡ Some got = is in cc)

counts_for_none : (line : RecordedLine) (one : JobGet) → spec.failed_get_of line ≡ None → spec.is_failed_get one.actor one.job line ≡ false
counts_for_none (TimedOut actor job) one is = absurd (let e : Some (record { actor = actor; job = job }) ≡ None = is in cc)
counts_for_none (Interrupted actor job) one is = absurd (let e : Some (record { actor = actor; job = job }) ≡ None = is in cc)
counts_for_none line one is = refl

-- ---- one more line
none_more : (n : ℕ) (test : Bool) → test ≡ false → n ≡ n + (if test then 1 else 0)
none_more n true h = absurd (let e : true ≡ false = h in cc)
none_more n false h = omega arith

module _ {S : Type 0} where
  pub none_counted : (table : HashMap JobGet ℕ S) → length table.entries ≡ 0 → spec.AreCounts [] table
  none_counted table none one = ap (λ entries. unwrap_or (lookup (spec.is_same_get one) entries) 0) (empty_if table.entries none)

  pub get_counted : (line : RecordedLine) (before : List RecordedLine) (got : JobGet) (old new : HashMap JobGet ℕ S) → spec.failed_get_of line ≡ Some got → spec.AreCounts before old → spec.IsCountedOnce got old new → spec.AreCounts (before ++ line ∷ []) new
  get_counted line before got old new is counts once one =
      once one
      ∙ (ap (λ n. n + (if spec.is_same_get got one then 1 else 0)) (counts one)
      ∙ (ap (λ (test : Bool). spec.failed_gets before one.actor one.job + (if test then 1 else 0)) (counts_for line got one is) ∙ sym (count_more (spec.is_failed_get one.actor one.job) before line)))

  pub no_get_counted : (line : RecordedLine) (before : List RecordedLine) (table : HashMap JobGet ℕ S) → spec.failed_get_of line ≡ None → spec.AreCounts before table → spec.AreCounts (before ++ line ∷ []) table
  no_get_counted line before table is counts one =
      counts one
      ∙ (none_more (spec.failed_gets before one.actor one.job) (spec.is_failed_get one.actor one.job line) (counts_for_none line one is) ∙ sym (count_more (spec.is_failed_get one.actor one.job) before line))

  -- The numbers are at most the number of lines.
  pub few_counted : (before : List RecordedLine) (table : HashMap JobGet ℕ S) (one : JobGet) → spec.AreCounts before table → spec.count_in table one ≤ length before
  few_counted before table one counts = let few = count_by-le-length (spec.is_failed_get one.actor one.job) before in let same = counts one in omega (arith, few, same)

  -- ---- the table
  counted_if : (added one : JobGet) (count : ℕ) (old new : HashMap JobGet ℕ S) (same : Bool) → spec.is_same_get added one ≡ same → count ≡ spec.count_in old added + 1 → get spec.is_same_get new one ≡ (if same then Some count else get spec.is_same_get old one)
      → spec.count_in new one ≡ spec.count_in old one + (if same then 1 else 0)
  counted_if added one count old new true same count_is there =
      ap (λ entry. unwrap_or entry 0) there ∙ (count_is ∙ ap (λ (g : JobGet). spec.count_in old g + 1) (same_get added one same))
  counted_if added one count old new false same count_is there = ap (λ entry. unwrap_or entry 0) there ∙ none_more (spec.count_in old one) false refl

  pub counted_once : (added : JobGet) (count : ℕ) (old new : HashMap JobGet ℕ S) → count ≡ spec.count_in old added + 1 → ((one : JobGet) → get spec.is_same_get new one ≡ (if spec.is_same_get added one then Some count else get spec.is_same_get old one))
      → spec.IsCountedOnce added old new
  counted_once added count old new count_is there one = counted_if added one count old new (spec.is_same_get added one) refl count_is (there one)
