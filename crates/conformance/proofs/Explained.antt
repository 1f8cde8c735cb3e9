-- The longest prefix of a path that the bodies of a family explain.
use Rattle.std.proofs.Common.{◌≡◌, ℕ, ◌+◌, ◌<◌, ◌≤◌, ◌==◌, ◌||◌, ◌&&◌, Bool, true, false, nat_lt, is_none, if◌then◌else◌, List, [], ◌∷◌, ◌++◌, length, take, get_or, Option, Some, None, refl, sym, ap, ◌∙◌, subst, inl, inr, arith, length-append}
use Rattle.std.specs.List.{All, Any}
use Rattle.std.proofs.lemmas.Bool.{cases_lt, false≢true, ltb-true, ltb-false, eqb-true, eqb-false}
use Rattle.std.proofs.lemmas.List.{take_all}
use Rattle.std.proofs.lemmas.List.Elements.{All-push, All-weaker, Contains-append_left}
use Rattle.std.proofs.lemmas.List.Quantifiers.{Any-push}
use Rattle.job_bodies.specs.declared.action.Action.{Action}
use Rattle.conformance.specs.declared.explained_prefix.ExplainedPrefix.{ExplainedPrefix}
use Rattle.conformance.specs.declared.open_excess.OpenExcess.{OpenExcess}
use Rattle.conformance.specs.declared.step.ActorKind.{ActorKind}
use Rattle.conformance.specs.declared.step.PathStep.{PathStep}
use Rattle.conformance.specs.declared.step.PathState.{PathState}
use Rattle.conformance.specs.declared.step.PathState.TheVariants.{Whole, Prefix}
use Rattle.conformance.specs.Path.{IsPathOf}
use Rattle.conformance.specs.PathMatch.{IsExplained, longer}
use Rattle.conformance.specs.OpenExcess.{IsReason}
use Rattle.conformance.specs.FamilyMatch.{Explains, HasNoSubmitLeft, IsMostExplained}
use Rattle.conformance.proofs.StoppedWalks.{none_ahead_at_end}

-- ---- the list of all bodies
-- If an element of a prefix satisfies `P`, some element of the list does.
pub Any-append_left : {X : Type 0} → (P : X → Type 0) (xs ys : List X) → Any P xs → Any P (xs ++ ys)
Any-append_left P xs ys some =
    let there = Contains-append_left xs ys some.1 (some.0, some.2, some.3) in
    (there.0, some.1, there.1, there.2, some.4)

length-push : {X : Type 0} → (xs : List X) (y : X) → length (xs ++ y ∷ []) ≡ length xs + 1
length-push xs y = length-append xs (y ∷ [])

-- A whole path of a body is also a prefix of one.
pub begun_whole : (kind : ActorKind) (path_state : PathState) (body : List Action) (path : List PathStep) → IsPathOf kind path_state body path → IsPathOf kind Prefix body path
begun_whole kind Whole body path of = (length body, of.0, of.1)
begun_whole kind Prefix body path of = of

-- ---- body by body
-- A body that the path matches explains all of it.
pub explained_fits : (kind : ActorKind) (path_state : PathState) (bodies : List (List Action)) (path : List PathStep) (body : List Action) → IsPathOf kind path_state body path → IsMostExplained kind (bodies ++ body ∷ []) path (record { length = length path; excess = None; missing = None })
explained_fits kind path_state bodies path body of =
    let all : path ≡ take (length path) path = sym (take_all (length path) path (omega arith)) in
    let begun : IsPathOf kind Prefix body (take (length path) path) = subst (IsPathOf kind Prefix body) all (begun_whole kind path_state body path of) in
    record {
      within = omega arith;
      front = λ _. Any-push (Explains kind path (record { length = length path; excess = None; missing = None })) bodies body (begun, none_ahead_at_end kind body path (length path) refl, tt);
      longest = λ more longer within. absurd (omega arith);
      without = λ _ k d inside of. none_ahead_at_end kind (get_or (bodies ++ body ∷ []) k d) path (length path) refl;
      none = λ empty. absurd (omega (arith, length-push bodies body));
    }

-- The bodies before have no such submit left after as many steps as the new one explains.
none_left : (kind : ActorKind) (bodies : List (List Action)) (path : List PathStep) (before now : ExplainedPrefix) → IsMostExplained kind bodies path before → before.length ≤ now.length → (before.length ≡ now.length → before.excess ≡ None) → now.length ≤ length path → All (HasNoSubmitLeft kind path now.length) bodies
none_left kind bodies path before now old more_now none_before within = elim (cases_lt before.length now.length) [
  | inl less ↦ All-weaker (λ one. ¬ IsPathOf kind Prefix one (take now.length path)) (HasNoSubmitLeft kind path now.length) (λ one never of. absurd (never of)) bodies (old.longest now.length less within)
  | inr least ↦
      let same : before.length ≡ now.length = omega (arith, more_now, least) in
      subst (λ (steps : ℕ). All (HasNoSubmitLeft kind path steps) bodies) same (old.without (none_before same))
]

-- The new body explains more, or as much as the bodies before it, which give no reason.
explained_more : (kind : ActorKind) (bodies : List (List Action)) (path : List PathStep) (body : List Action) (before now : ExplainedPrefix) → IsMostExplained kind bodies path before → IsExplained kind body path now → before.length ≤ now.length → (before.length ≡ now.length → before.excess ≡ None) → IsMostExplained kind (bodies ++ body ∷ []) path now
explained_more kind bodies path body before now old new more_now none_before = record {
  within = new.within;
  front = λ _. Any-push (Explains kind path now) bodies body (new.front, new.reason, new.missing);
  longest = λ more longer within. All-push (λ one. ¬ IsPathOf kind Prefix one (take more path)) bodies body (old.longest more (omega (arith, more_now, longer)) within) (new.longest more longer within);
  without = λ no_excess. All-push (HasNoSubmitLeft kind path now.length) bodies body (none_left kind bodies path before now old more_now none_before new.within) (λ _. subst (IsReason kind body path now.length) no_excess new.reason);
  none = λ empty. absurd (omega (arith, length-push bodies body));
}

-- There is a body before the new one, if the bodies before explain more, or as much with open jobs as the reason.
pub some_before : (kind : ActorKind) (bodies : List (List Action)) (path : List PathStep) (before now : ExplainedPrefix) → IsMostExplained kind bodies path before → now.length ≤ before.length → (now.length ≡ before.length → is_none before.excess ≡ false) → 0 < length bodies
some_before kind bodies path before now old less_now excess_before = elim (cases_lt 0 (length bodies)) [
  | inl filled ↦ filled
  | inr empty ↦
      let nothing : before ≡ record { length = 0; excess = None; missing = None } = old.none (omega (arith, empty)) in
      let short : before.length ≡ 0 = ap (λ (one : ExplainedPrefix). one.length) nothing in
      let no_excess : is_none before.excess ≡ true = ap (λ (one : ExplainedPrefix). is_none one.excess) nothing in
      absurd (false≢true (sym (excess_before (omega (arith, short, less_now))) ∙ no_excess))
]

-- The new body explains less, or as much as the bodies before it, which give open jobs as the reason.
explained_less : (kind : ActorKind) (bodies : List (List Action)) (path : List PathStep) (body : List Action) (before now : ExplainedPrefix) → IsMostExplained kind bodies path before → IsExplained kind body path now → now.length ≤ before.length → (now.length ≡ before.length → is_none before.excess ≡ false) → IsMostExplained kind (bodies ++ body ∷ []) path before
explained_less kind bodies path body before now old new less_now excess_before =
    let none_of_new : before.excess ≡ None → HasNoSubmitLeft kind path before.length body = λ no_excess of. elim (cases_lt now.length before.length) [
      | inl less ↦ absurd (new.longest before.length less old.within of)
      | inr same ↦ absurd (false≢true (sym (excess_before (omega (arith, less_now, same))) ∙ ap (λ (excess : Option OpenExcess). is_none excess) no_excess))
    ] in
    record {
      within = old.within;
      front = λ _. Any-append_left (Explains kind path before) bodies (body ∷ []) (old.front (some_before kind bodies path before now old less_now excess_before));
      longest = λ more longer within. All-push (λ one. ¬ IsPathOf kind Prefix one (take more path)) bodies body (old.longest more longer within) (new.longest more (omega (arith, less_now, longer)) within);
      without = λ no_excess. All-push (HasNoSubmitLeft kind path before.length) bodies body (old.without no_excess) (none_of_new no_excess);
      none = λ empty. absurd (omega (arith, length-push bodies body));
    }

none_if : (excess : Option OpenExcess) → is_none excess ≡ true → excess ≡ None
none_if None e = refl
none_if (Some excess) e = absurd (false≢true e)

deviates_if : (less same without : Bool) (kind : ActorKind) (bodies : List (List Action)) (path : List PathStep) (body : List Action) (before now : ExplainedPrefix) → nat_lt before.length now.length ≡ less → (before.length == now.length) ≡ same → is_none before.excess ≡ without → IsMostExplained kind bodies path before → IsExplained kind body path now
    → IsMostExplained kind (bodies ++ body ∷ []) path (if less || (same && without) then now else before)
deviates_if true same without kind bodies path body before now is_less is_same is_without old new =
    let less : before.length < now.length = ltb-true before.length now.length is_less in
    explained_more kind bodies path body before now old new (omega (arith, less)) (λ e. absurd (omega (arith, less, e)))
deviates_if false true true kind bodies path body before now is_less is_same is_without old new =
    let same : before.length ≡ now.length = eqb-true before.length now.length is_same in
    explained_more kind bodies path body before now old new (omega (arith, same)) (λ _. none_if before.excess is_without)
deviates_if false true false kind bodies path body before now is_less is_same is_without old new =
    explained_less kind bodies path body before now old new (ltb-false before.length now.length is_less) (λ _. is_without)
deviates_if false false without kind bodies path body before now is_less is_same is_without old new =
    explained_less kind bodies path body before now old new (ltb-false before.length now.length is_less) (λ e. absurd (eqb-false before.length now.length is_same (sym e)))

-- The result is the longer of the two prefixes.
pub explained_deviates : (kind : ActorKind) (bodies : List (List Action)) (path : List PathStep) (body : List Action) (before now : ExplainedPrefix) → IsMostExplained kind bodies path before → IsExplained kind body path now → IsMostExplained kind (bodies ++ body ∷ []) path (longer before now)
explained_deviates kind bodies path body before now = deviates_if (nat_lt before.length now.length) (before.length == now.length) (is_none before.excess) kind bodies path body before now refl refl refl
