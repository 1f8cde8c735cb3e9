-- If no actor is ambiguous, no finding is undecided.
use Rattle.std.proofs.Common.{◌≡◌, ℕ, Bool, true, false, not, ◌&&◌, ◌||◌, cond, List, [], ◌∷◌, ◌++◌, map, Option, refl, ap, sym, subst, ◌∙◌}
use Rattle.std.specs.Prelude.{filter, All, Contains}
use Rattle.std.specs.List.{list_any}
use Rattle.std.proofs.lemmas.List.Elements.{All-head, All-tail}
use Rattle.std.proofs.lemmas.List.Folds.{list_any-append}
use Rattle.std.proofs.lemmas.List.Sorted.{list_any-IsPermutation}
use Rattle.recordings.specs.RecordingLine.{RecordedLine}
use Rattle.recordings.specs.declared.foreign_get.ForeignGet.{ForeignGet}
use Rattle.recordings.specs.declared.invalidation.Invalidation.{Invalidation}
use Rattle.job_bodies.specs.Plan.{Plan}
use Rattle.conformance.specs.declared.classified_actor.ClassifiedActor.{ClassifiedActor}
use Rattle.conformance.specs.declared.finding.Finding.{Finding}
use Rattle.conformance.specs.declared.finding.Finding.TheVariants as finding
use Rattle.conformance.specs.ClassifiedActor.{HasNoAmbiguousActor, IsCorrectResult}
use Rattle.conformance.specs.CollectedFindings.{AreMismatchesOf, IsMismatchFinding, AreForeign, AreInvalidationsOf, IsInvalidationFinding, not_decided}
use Rattle.conformance.specs.CollectedFindings as made
use Rattle.conformance.specs.FirstActors.{AreFirstActorsOf}
use Rattle.conformance.specs.Findings.{AreFindingsOf, counted_invalidations, is_not_decided, is_classless_in}
use Rattle.conformance.specs.RoundExcesses.{excesses_by_lines}
use Rattle.recordings.specs.ForeignGets.{first_foreign_get}
use Rattle.conformance.specs.Verdicts.{is_undecided}
use Rattle.conformance.proofs.Among.{is_among_none}

-- ---- the actors
decided_not : (b planned : Bool) → b ≡ true → (not b && planned) ≡ false
decided_not true planned h = refl
decided_not false planned h = absurd (let e : false ≡ true = h in cc)

left_out : (b : Bool) (one : ClassifiedActor) (rest : List ClassifiedActor) → b ≡ false → cond b (one ∷ rest) rest ≡ rest
left_out true one rest h = absurd (let e : true ≡ false = h in cc)
left_out false one rest h = refl

no_actor : (plan : Plan) (lines : List RecordedLine) (reported : List ClassifiedActor) → HasNoAmbiguousActor plan lines → All (IsCorrectResult plan lines) reported → filter (is_undecided plan) reported ≡ []
no_actor plan lines [] none all = refl
no_actor plan lines (one ∷ reported) none all =
    left_out (is_undecided plan one) one (filter (is_undecided plan) reported) (decided_not one.family.is_decided _ ((All-head (IsCorrectResult plan lines) one reported all).decided (none one.actor)))
    ∙ no_actor plan lines reported none (All-tail (IsCorrectResult plan lines) one reported all)

no_first : (all first_actors : List ClassifiedActor) → AreFirstActorsOf all first_actors → all ≡ [] → first_actors ≡ []
no_first all [] are none = refl
no_first all (one ∷ more) are none = absurd (is_among_none one (subst (λ (xs : List ClassifiedActor). Contains xs one) none (All-head (Contains all) one more are.among)))

-- ---- the findings
both_false : (xs ys : List Finding) → list_any is_not_decided xs ≡ false → list_any is_not_decided ys ≡ false → list_any is_not_decided (xs ++ ys) ≡ false
both_false xs ys h k = list_any-append is_not_decided xs ys ∙ (ap (λ (b : Bool). b || list_any is_not_decided ys) h ∙ k)

or_false : (a b : Bool) → a ≡ false → b ≡ false → (a || b) ≡ false
or_false true b h k = absurd (let e : true ≡ false = h in cc)
or_false false b h k = k

none_mapped : {X : Type 0} (f : X → Finding) (xs : List X) → ((x : X) → is_not_decided (f x) ≡ false) → list_any is_not_decided (map f xs) ≡ false
none_mapped f [] each = refl
none_mapped f (x ∷ xs) each = or_false (is_not_decided (f x)) (list_any is_not_decided (map f xs)) (each x) (none_mapped f xs each)

one_mismatch : (plan : Plan) (lines : List RecordedLine) (is_classless : ℕ → Bool) (reported : ClassifiedActor) (found : Finding) → IsMismatchFinding plan lines is_classless reported found → is_not_decided found ≡ false
one_mismatch plan lines is_classless reported _ (made.mismatches number mismatch so) = refl

mismatches_none : (plan : Plan) (lines : List RecordedLine) (is_classless : ℕ → Bool) (reported : List ClassifiedActor) (found : List Finding) → AreMismatchesOf plan lines is_classless reported found → list_any is_not_decided found ≡ false
mismatches_none plan lines is_classless [] [] are = refl
mismatches_none plan lines is_classless [] (first ∷ found) are = absurd are
mismatches_none plan lines is_classless (one ∷ reported) [] are = absurd are
mismatches_none plan lines is_classless (one ∷ reported) (first ∷ found) are =
    or_false (is_not_decided first) (list_any is_not_decided found) (one_mismatch plan lines is_classless one first are.0) (mismatches_none plan lines is_classless reported found are.1)

one_event : (lines : List RecordedLine) (invalidation : Invalidation) (found : Finding) → IsInvalidationFinding lines invalidation found → is_not_decided found ≡ false
one_event lines invalidation _ (made.invalidates label so) = refl

events_none : (lines : List RecordedLine) (invalidations : List Invalidation) (found : List Finding) → AreInvalidationsOf lines invalidations found → list_any is_not_decided found ≡ false
events_none lines [] [] are = refl
events_none lines [] (first ∷ found) are = absurd are
events_none lines (one ∷ more) [] are = absurd are
events_none lines (one ∷ more) (first ∷ found) are = or_false (is_not_decided first) (list_any is_not_decided found) (one_event lines one first are.0) (events_none lines more found are.1)

foreign_none : (lines : List RecordedLine) (get : Option ForeignGet) (found : List Finding) → AreForeign lines get found → list_any is_not_decided found ≡ false
foreign_none lines _ _ made.none = refl
foreign_none lines _ _ (made.one get label job is job_is) = refl

pub none_undecided : (plan : Plan) (lines : List RecordedLine) (findings : List Finding) → AreFindingsOf plan lines findings → HasNoAmbiguousActor plan lines → list_any is_not_decided findings ≡ false
none_undecided plan lines findings are none =
    let nobody : are.undecided ≡ [] = no_first (filter (is_undecided plan) are.reported) are.undecided are.undecided_so (no_actor plan lines are.reported none are.all_reported.reported) in
    let d = map finding.Pool are.deviations in
    let l = map finding.UnplannedLabel are.labels in
    let u = map not_decided are.undecided in
    let e = map finding.TooMany (excesses_by_lines plan are.kinds lines) in
    let pools = none_mapped finding.Pool are.deviations (λ x. refl) in
    let labels = both_false d l pools (none_mapped finding.UnplannedLabel are.labels (λ x. refl)) in
    let paths = both_false (d ++ l) are.mismatches labels (mismatches_none plan lines (is_classless_in are.reported) are.first_mismatches are.mismatches are.mismatches_so) in
    let actors = both_false (d ++ l ++ are.mismatches) u paths (ap (λ (xs : List ClassifiedActor). list_any is_not_decided (map not_decided xs)) nobody) in
    let rounds = both_false (d ++ l ++ are.mismatches ++ u) e actors (none_mapped finding.TooMany (excesses_by_lines plan are.kinds lines) (λ x. refl)) in
    let gets = both_false (d ++ l ++ are.mismatches ++ u ++ e) are.foreign rounds (foreign_none lines (first_foreign_get lines) are.foreign are.foreign_so) in
    let all = both_false (d ++ l ++ are.mismatches ++ u ++ e ++ are.foreign) are.invalidations gets (events_none lines (counted_invalidations plan lines) are.invalidations are.invalidations_so) in
    sym (list_any-IsPermutation is_not_decided (d ++ l ++ are.mismatches ++ u ++ e ++ are.foreign ++ are.invalidations) findings are.all) ∙ all
