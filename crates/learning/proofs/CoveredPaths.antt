-- Lemmas about a body and the paths that it covers.
use Rattle.std.proofs.Common.{◌≡◌, ◌≤◌, ◌<◌, ◌+◌, ℕ, true, false, List, [], ◌∷◌, length, get_or, refl, sym, subst, ◌∙◌, arith}
use Rattle.std.specs.Prelude.{◌==◌, Option, None, Some, Result, Ok, Err, IfOk, IfSome}
use Rattle.std.specs.List.{All, list_any}
use Rattle.std.specs.declared.alloc.AllocError.{AllocError}
use Rattle.std.specs.declared.alloc.Global.{Global}
use Rattle.std.specs.declared.vec.Vec.{Vec}
use Rattle.std.proofs.lemmas.Bool.{eqb-true, eqb-false}
use Rattle.std.proofs.lemmas.Option.{slice_get-get_or, same_Some}
use Rattle.job_bodies.specs.declared.action.Action.{Action}
use Rattle.job_bodies.specs.declared.action.Action.TheVariants.{Work, Submit, Get}
use Rattle.job_bodies.specs.declared.limits.TheConstants.{MAX_ACTIONS}
use Rattle.conformance.specs.declared.step.ActorKind.{ActorKind}
use Rattle.conformance.specs.declared.step.PathState.TheVariants.{Whole}
use Rattle.conformance.specs.declared.step.PathStep.{PathStep}
use Rattle.conformance.specs.Path.{IsPathOf}
use Rattle.learning.specs.Covers.{IsCovering, is_work, work_of}
use Rattle.conformance.specs.ValidGets.{HasValidGets}

pub no_work : (body : List Action) → list_any is_work body ≡ false → work_of body ≡ []
no_work [] none = refl
no_work (Work units ∷ body) none = absurd (cc)
no_work (Submit class ∷ body) none = no_work body none
no_work (Get submit ∷ body) none = no_work body none

-- ---- the path at an index
pub at_item : (P : List PathStep → Type 0) (paths : List (Vec PathStep Global)) (index : ℕ) (item : Vec PathStep Global) (steps : List PathStep) → steps ≡ item.items → item ≡ get_or paths index item → index < length paths → All (λ path. P path.items) paths → P steps
at_item P paths index item steps e is l all = subst P (sym e) (subst (λ (path : Vec PathStep Global). P path.items) (sym is) (all index item l))

pub one_more : (P : List PathStep → Type 0) (paths : List (Vec PathStep Global)) (index : ℕ) (item : Vec PathStep Global) (steps : List PathStep) → steps ≡ item.items → item ≡ get_or paths index item → index < length paths
    → ((i : ℕ) (other : Vec PathStep Global) → i < index → P (get_or paths i other).items) → P steps → (i : ℕ) (other : Vec PathStep Global) → i < index + 1 → P (get_or paths i other).items
one_more P paths index item steps e is l before here i other m =
    elim (i == index) as (λ b. (i == index) ≡ b → P (get_or paths i other).items) [
      | true ↦ λ yes. (
          let same : item ≡ get_or paths index other = is ∙ same_Some (get_or paths index item) (get_or paths index other) (sym (slice_get-get_or paths index item l) ∙ slice_get-get_or paths index other l) in
          let now : P (get_or paths index other).items = subst (λ (path : Vec PathStep Global). P path.items) same (subst P e here) in
          subst (λ (k : ℕ). P (get_or paths k other).items) (sym (eqb-true i index yes)) now)
      | false ↦ λ unlike. (let differ = eqb-false i index unlike in before i other (omega arith))
    ] refl

-- ---- the body of a single path
pub own_covering : (kind : ActorKind) (paths : List (Vec PathStep Global)) (item : Vec PathStep Global) (steps : List PathStep) (result : Result (Option (Vec Action Global)) AllocError) → steps ≡ item.items → item ≡ get_or paths 0 item → 1 ≤ length paths → length paths < 2
    → IfOk result (λ found. IfSome found (λ body. IsPathOf kind Whole body.items steps)) → IfOk result (λ found. IfSome found (λ body. work_of body.items ≡ []))
    → IfOk result (λ found. IfSome found (λ body. length body.items ≤ MAX_ACTIONS)) → IfOk result (λ found. IfSome found (λ body. HasValidGets body.items))
    → IfOk result (λ found. IfSome found (λ body. IsCovering kind body.items paths))
own_covering kind paths item steps (Ok (Some body)) e is some few fits work short valid_gets = record {
  covers = λ i other l. one_more (IsPathOf kind Whole body.items) paths 0 item steps e is (omega arith) (λ k another below. absurd (omega arith)) fits i other (omega arith);
  short = short;
  valid_gets = valid_gets;
  no_work = work;
}
own_covering kind paths item steps (Ok None) e is some few fits work short valid_gets = tt
own_covering kind paths item steps (Err error) e is some few fits work short valid_gets = tt

pub same_work : (kind : ActorKind) (body : List Action) (paths : List (Vec PathStep Global)) (result : Result (Option (Vec Action Global)) AllocError) → work_of body ≡ []
    → IfOk result (λ found. IfSome found (λ new. IsCovering kind new.items paths)) → IfOk result (λ found. IfSome found (λ new. work_of new.items ≡ work_of body))
same_work kind body paths (Ok (Some new)) none covering = covering.no_work ∙ sym none
same_work kind body paths (Ok None) none covering = tt
same_work kind body paths (Err error) none covering = tt
