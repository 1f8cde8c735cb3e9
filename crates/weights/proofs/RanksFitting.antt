-- The numbers that the classes of a plan have in ranks that fit it.
use Rattle.std.proofs.Common.{◌≡◌, ◌≤◌, ◌<◌, ℕ, List, length, get_or, slice_get, Some, inl, inr, ap, ◌∙◌, subst, sym, arith}
use Rattle.std.specs.Prelude.{not, leb, ltb, IsTrue}
use Rattle.std.proofs.lemmas.Bool.{and_parts, eqb-true, cases_lt, lt-leb, le-leb, lt-ltb, le-ltb}
use Rattle.std.proofs.lemmas.Option.{slice_get-get_or, slice_get_within, get_or_from_slice_get}
use Rattle.job_bodies.specs.declared.action.Action.{Action}
use Rattle.job_bodies.specs.declared.action.Action.TheVariants.{Work, Get}
use Rattle.job_bodies.specs.Plan.{Class, Plan, no_class, class_at, submitted_class}
use Rattle.job_bodies.specs.WellFormed.{IsWellFormed}
use Rattle.job_bodies.specs.ValidBody.{IsValidBody}
use Rattle.job_bodies.proofs.Bodies.{ordered}
use Rattle.job_bodies.specs.declared.limits.TheConstants.{MAX_WEIGHT}
use Rattle.weights.proofs.Fitting.{small_in, got_known}
use Rattle.weights.specs.Ranks.{Ranks, rank, reach, level, ranks_fit, is_counted, is_counted_action}

pub record RanksFit (plan : Plan) (ranks : Ranks) : Type 0 where
  pub pools : length ranks.pools ≡ length plan.pools
  pub reach : length ranks.reach ≡ length plan.classes
  pub levels : length ranks.levels ≡ length plan.classes
  pub small_level : (k : ℕ) → level ranks k ≤ MAX_WEIGHT

pub fitting : (plan : Plan) (ranks : Ranks) → IsTrue (ranks_fit plan ranks) → RanksFit plan ranks
fitting plan ranks all =
    let but_levels = and_parts _ _ all in
    let but_reach = and_parts _ _ but_levels.0 in
    let counts = and_parts _ _ (and_parts _ _ but_reach.0).0 in
    let two_counts = and_parts _ _ counts.0 in
    record {
      pools = eqb-true _ _ two_counts.0;
      reach = eqb-true _ _ two_counts.1;
      levels = eqb-true _ _ counts.1;
      small_level = λ k. small_in ranks.levels k but_levels.1;
    }

-- class k has a reach and a level, and its pool has a rank
pub record ClassFits (plan : Plan) (ranks : Ranks) (k : ℕ) (class : Class) : Type 0 where
  pub known : k < length plan.classes
  pub reach : k < length ranks.reach
  pub levels : k < length ranks.levels
  pub pool : class.pool < length ranks.pools
  pub valid : IsValidBody plan class.body
  pub is_class : class_at plan k ≡ class

pub class_fits : (plan : Plan) (ranks : Ranks) (k : ℕ) (class : Class) → IsWellFormed plan → IsTrue (ranks_fit plan ranks) → slice_get plan.classes k ≡ Some class → ClassFits plan ranks k class
class_fits plan ranks k class well all here =
    let f = fitting plan ranks all in
    let inside = slice_get_within plan.classes k class here in
    let same : class_at plan k ≡ class = get_or_from_slice_get plan.classes k class no_class here in
    let pool : class.pool < length plan.pools = subst (λ (c : Class). c.pool < length plan.pools) same ((ordered plan well).pools k inside) in
    record {
      known = inside;
      reach = omega (arith, f.reach);
      levels = omega (arith, f.levels);
      pool = omega (arith, f.pools);
      valid = subst (λ (c : Class). IsValidBody plan c.body) same ((ordered plan well).classes k);
      is_class = same;
    }

-- the class of the job that a get of class k waits for has a reach
pub got_reaches : (plan : Plan) (ranks : Ranks) (k : ℕ) (class : Class) (i t : ℕ) → IsWellFormed plan → IsTrue (ranks_fit plan ranks) → slice_get plan.classes k ≡ Some class → slice_get class.body i ≡ Some (Get t)
    → submitted_class class.body t < length ranks.reach
got_reaches plan ranks k class i t well all here action =
    let known = got_known plan class.body i t (class_fits plan ranks k class well all here).valid action in
    omega (arith, (fitting plan ranks all).reach)

-- the action that the code reads at a position is the action of the body there
pub action_read : (actions body : List Action) (i : ℕ) (action : Action) → actions ≡ body → i < length body → get_or actions i (Work 0) ≡ action → slice_get body i ≡ Some action
action_read actions body i action same inside is =
    slice_get-get_or body i (Work 0) inside ∙ ap (λ (x : Action). Some x) (subst (λ (b : List Action). get_or b i (Work 0) ≡ action) same is)

-- whether position i of class k is a counted get depends only on the action there
pub counted_at : (plan : Plan) (ranks : Ranks) (k : ℕ) (class : Class) (i : ℕ) (action : Action) → class_at plan k ≡ class → slice_get class.body i ≡ Some action → is_counted plan ranks k i ≡ is_counted_action plan ranks k (Some action)
counted_at plan ranks k class i action same here =
    ap (λ (c : Class). is_counted_action plan ranks k (slice_get c.body i)) same ∙ ap (is_counted_action plan ranks k) here

-- `leb b a` is the negation of `ltb a b`
not_below : (a b : ℕ) → leb b a ≡ not (ltb a b)
not_below a b = elim (cases_lt a b) [
  | inl below ↦ lt-leb b a below ∙ sym (ap not (lt-ltb a b below))
  | inr above ↦ le-leb b a above ∙ sym (ap not (le-ltb a b above))
]

-- a get of class k is counted exactly when the reach of the class of its job is at least the rank of the pool of k
pub get_counted : (plan : Plan) (ranks : Ranks) (k : ℕ) (class : Class) (i t : ℕ) → class_at plan k ≡ class → slice_get class.body i ≡ Some (Get t)
    → leb (rank ranks class.pool) (reach ranks (submitted_class class.body t)) ≡ is_counted plan ranks k i
get_counted plan ranks k class i t same here =
    let at_class = λ (c : Class). not (ltb (reach ranks (submitted_class c.body t)) (rank ranks c.pool)) in
    not_below (reach ranks (submitted_class class.body t)) (rank ranks class.pool) ∙ ap at_class (sym same) ∙ sym (counted_at plan ranks k class i (Get t) same here)
