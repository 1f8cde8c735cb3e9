-- The retained verdicts after one more actor.
use Rattle.std.proofs.Common.{◌≡◌, ℕ, Bool, true, false, cond, ◌&&◌, ◌||◌, not, List, [], ◌∷◌, ◌++◌, refl, ap, sym, subst, ◌∙◌}
use Rattle.std.specs.Prelude.{filter, Result, Ok, Err, OnOk}
use Rattle.std.specs.List.{list_any}
use Rattle.std.proofs.lemmas.List.{append-nil}
use Rattle.std.proofs.lemmas.List.Elements.{filter-append}
use Rattle.job_bodies.specs.Plan.{Plan}
use Rattle.conformance.specs.declared.classified_actor.ClassifiedActor.{ClassifiedActor}
use Rattle.conformance.specs.declared.first_actors.FirstActors.{FirstActors}
use Rattle.conformance.specs.declared.job_set.JobSet.{JobSet}
use Rattle.conformance.specs.declared.verdicts.Verdicts.{Verdicts}
use Rattle.conformance.specs.FirstActors.{AreFirstActorsOf}
use Rattle.conformance.specs.JobSet.{has_job}
use Rattle.conformance.specs.Verdicts.{IsVerdictsOf, is_empty, is_planned, is_classless, is_mismatch, is_undecided, is_job, is_classless_job, with_planned, with_job}

-- ---- lists
either_way : {X : Type 0} (b : Bool) (xs : List X) (x : X) → xs ++ cond b (x ∷ []) [] ≡ cond b (xs ++ x ∷ []) xs
either_way true xs x = refl
either_way false xs x = append-nil xs

filter_push : {X : Type 0} (test : X → Bool) (xs : List X) (x : X) (b : Bool) → test x ≡ b → filter test (xs ++ x ∷ []) ≡ cond b (filter test xs ++ x ∷ []) (filter test xs)
filter_push test xs x b is = filter-append test xs (x ∷ []) ∙ (ap (λ (t : Bool). filter test xs ++ cond t (x ∷ []) []) is ∙ either_way b (filter test xs) x)

or_false : (a : Bool) → (a || false) ≡ a
or_false true = refl
or_false false = refl

or_or : (a b c : Bool) → ((a || b) || c) ≡ (a || (b || c))
or_or true b c = refl
or_or false b c = refl

any_push : {X : Type 0} (test : X → Bool) (xs : List X) (x : X) → list_any test (xs ++ x ∷ []) ≡ (list_any test xs || test x)
any_push test [] x = or_false (test x)
any_push test (y ∷ xs) x = ap (λ (b : Bool). test y || b) (any_push test xs x) ∙ sym (or_or (test y) (list_any test xs) (test x))

and_true : (a : Bool) → (a && true) ≡ a
and_true true = refl
and_true false = refl

and_false : (a : Bool) → (a && false) ≡ false
and_false true = refl
and_false false = refl

-- ---- one more actor
pub same_firsts : (all : List ClassifiedActor) (first other : FirstActors) → other ≡ first → AreFirstActorsOf all first.actors.items → AreFirstActorsOf all other.actors.items
same_firsts all first other is are = subst (λ (f : FirstActors). AreFirstActorsOf all f.actors.items) (sym is) are

-- An actor that is undecided.
pub after_undecided : (plan : Plan) (reported : List ClassifiedActor) (one : ClassifiedActor) (old new : Verdicts) → IsVerdictsOf plan reported old → one.family.is_decided ≡ false
    → ((all : List ClassifiedActor) → AreFirstActorsOf all old.undecided.actors.items → AreFirstActorsOf (with_planned plan one all) new.undecided.actors.items)
    → new.mismatches ≡ old.mismatches → new.classless ≡ old.classless → IsVerdictsOf plan (reported ++ one ∷ []) new
after_undecided plan reported one old new so not_decided first_actors mismatches_are classless_are =
    let no_class : is_classless one ≡ false = ap (λ (b : Bool). b && is_empty one.family.members.items) not_decided in
    let no_mismatch : is_mismatch plan one ≡ false = ap (λ (b : Bool). b && is_planned plan one) no_class in
    let undecided : is_undecided plan one ≡ is_planned plan one = ap (λ (b : Bool). not b && is_planned plan one) not_decided in
    let no_job : (job : ℕ) → is_classless_job job one ≡ false = λ job. ap (λ (b : Bool). is_job job one.actor && b) no_class ∙ and_false (is_job job one.actor) in
    record {
      mismatches = subst (λ (all : List ClassifiedActor). AreFirstActorsOf all new.mismatches.actors.items) (sym (filter_push (is_mismatch plan) reported one false no_mismatch)) (same_firsts _ old.mismatches new.mismatches mismatches_are so.mismatches);
      undecided = subst (λ (all : List ClassifiedActor). AreFirstActorsOf all new.undecided.actors.items) (sym (filter_push (is_undecided plan) reported one (is_planned plan one) undecided)) (first_actors (filter (is_undecided plan) reported) so.undecided);
      classless = λ job. ap (λ (set : JobSet). has_job set job) classless_are ∙ (so.classless job ∙ sym (any_push (is_classless_job job) reported one ∙ (ap (λ (b : Bool). list_any (is_classless_job job) reported || b) (no_job job) ∙ or_false _)));
    }

-- An actor whose path matches no body.
pub after_mismatch : (plan : Plan) (reported : List ClassifiedActor) (one : ClassifiedActor) (old new : Verdicts) → IsVerdictsOf plan reported old → one.family.is_decided ≡ true → is_empty one.family.members.items ≡ true
    → ((all : List ClassifiedActor) → AreFirstActorsOf all old.mismatches.actors.items → AreFirstActorsOf (with_planned plan one all) new.mismatches.actors.items)
    → new.undecided ≡ old.undecided → ((job : ℕ) → has_job new.classless job ≡ with_job one.actor (has_job old.classless job) job) → IsVerdictsOf plan (reported ++ one ∷ []) new
after_mismatch plan reported one old new so decided empty first_actors undecided_are classless_are =
    let no_class : is_classless one ≡ true = ap (λ (b : Bool). b && is_empty one.family.members.items) decided ∙ empty in
    let mismatch : is_mismatch plan one ≡ is_planned plan one = ap (λ (b : Bool). b && is_planned plan one) no_class in
    let undecided : is_undecided plan one ≡ false = ap (λ (b : Bool). not b && is_planned plan one) decided in
    let job_is : (job : ℕ) → is_classless_job job one ≡ is_job job one.actor = λ job. ap (λ (b : Bool). is_job job one.actor && b) no_class ∙ and_true (is_job job one.actor) in
    record {
      mismatches = subst (λ (all : List ClassifiedActor). AreFirstActorsOf all new.mismatches.actors.items) (sym (filter_push (is_mismatch plan) reported one (is_planned plan one) mismatch)) (first_actors (filter (is_mismatch plan) reported) so.mismatches);
      undecided = subst (λ (all : List ClassifiedActor). AreFirstActorsOf all new.undecided.actors.items) (sym (filter_push (is_undecided plan) reported one false undecided)) (same_firsts _ old.undecided new.undecided undecided_are so.undecided);
      classless = λ job. classless_are job ∙ (ap (λ (b : Bool). b || is_job job one.actor) (so.classless job) ∙ sym (any_push (is_classless_job job) reported one ∙ ap (λ (b : Bool). list_any (is_classless_job job) reported || b) (job_is job)));
    }

-- An actor whose path matches a body.
pub after_good : (plan : Plan) (reported : List ClassifiedActor) (one : ClassifiedActor) (old : Verdicts) → IsVerdictsOf plan reported old → one.family.is_decided ≡ true → is_empty one.family.members.items ≡ false → IsVerdictsOf plan (reported ++ one ∷ []) old
after_good plan reported one old so decided some =
    let no_class : is_classless one ≡ false = ap (λ (b : Bool). b && is_empty one.family.members.items) decided ∙ some in
    let no_mismatch : is_mismatch plan one ≡ false = ap (λ (b : Bool). b && is_planned plan one) no_class in
    let undecided : is_undecided plan one ≡ false = ap (λ (b : Bool). not b && is_planned plan one) decided in
    let no_job : (job : ℕ) → is_classless_job job one ≡ false = λ job. ap (λ (b : Bool). is_job job one.actor && b) no_class ∙ and_false (is_job job one.actor) in
    record {
      mismatches = subst (λ (all : List ClassifiedActor). AreFirstActorsOf all old.mismatches.actors.items) (sym (filter_push (is_mismatch plan) reported one false no_mismatch)) so.mismatches;
      undecided = subst (λ (all : List ClassifiedActor). AreFirstActorsOf all old.undecided.actors.items) (sym (filter_push (is_undecided plan) reported one false undecided)) so.undecided;
      classless = λ job. so.classless job ∙ sym (any_push (is_classless_job job) reported one ∙ (ap (λ (b : Bool). list_any (is_classless_job job) reported || b) (no_job job) ∙ or_false _));
    }

pub noted_planned : (plan : Plan) (one : ClassifiedActor) (reported first_actors : List ClassifiedActor) → is_planned plan one ≡ true → AreFirstActorsOf (reported ++ one ∷ []) first_actors → AreFirstActorsOf (with_planned plan one reported) first_actors
noted_planned plan one reported first_actors planned are = subst (λ (b : Bool). AreFirstActorsOf (cond b (reported ++ one ∷ []) reported) first_actors) (sym planned) are

pub on_both : {T E P Q R : Type 0} (r : Result T E) → (P → Q → R) → OnOk r P → OnOk r Q → OnOk r R
on_both (Ok x) f p q = f p q
on_both (Err e) f p q = p
