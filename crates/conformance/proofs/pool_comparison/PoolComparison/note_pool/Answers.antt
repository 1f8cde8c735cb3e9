use Rattle.std.proofs.Common.{◌≡◌, ℕ, ◌==◌, ◌&&◌, ◌||◌, not, Bool, true, false, List, map, Option, Some, refl, ap, sym, ◌∙◌, get_or, subst}
use Rattle.std.proofs.lemmas.Bool.{eqb-true}
use Rattle.std.proofs.lemmas.List.{get_or_read}
use Rattle.std.proofs.lemmas.Result.{on_ok_weaker}
use Rattle.job_bodies.specs.Plan as plans
use Rattle.job_bodies.specs.Plan.{Plan, pool_at, no_pool}
use Rattle.recordings.specs.declared.pool_sizes.PoolSizes.{PoolSizes}
use Rattle.conformance.specs.declared.difference.Difference.{Difference}
use Rattle.conformance.specs.Sizes.{differences}
use Rattle.conformance.specs.PoolDeviations.{Differs, is_pool, is_among, unreported, deviations_of_pool}
use Rattle.conformance.specs.PoolComparison.{has_name, is_reported, Adds}
use Rattle.conformance.proofs.pool_comparison.PoolComparison.note_pool.Goals as goal

reported_here : (plan : Plan) (is_first : Bool) (is_reported : ℕ → Difference → Bool) (number : ℕ) (name : List ℕ) (sizes : PoolSizes) (there : Option ℕ) (pool : ℕ) (ds : List Difference)
    → there ≡ Some pool → ds ≡ differences is_first sizes (pool_at plan pool) → map (Differs number pool) (unreported (is_reported pool) ds) ≡ deviations_of_pool plan is_first is_reported number name sizes there
reported_here plan is_first is_reported number name sizes there pool ds is exact =
    ap (λ (ds : List Difference). map (Differs number pool) (unreported (is_reported pool) ds)) exact
    ∙ ap (λ (there : Option ℕ). deviations_of_pool plan is_first is_reported number name sizes there) (sym is)

among_if : (plan : Plan) (is_first : Bool) (sizes : PoolSizes) (pool q : ℕ) (ds : List Difference) (d : Difference) (same : Bool) → (pool == q) ≡ same → ds ≡ differences is_first sizes (pool_at plan pool)
    → (same && is_among ds d) ≡ (same && is_among (differences is_first sizes (pool_at plan q)) d)
among_if plan is_first sizes pool q ds d true is exact = ap (λ (ds : List Difference). is_among ds d) (exact ∙ ap (λ (p : ℕ). differences is_first sizes (pool_at plan p)) (eqb-true pool q is))
among_if plan is_first sizes pool q ds d false is exact = refl

among_here : (plan : Plan) (is_first : Bool) (sizes : PoolSizes) (there : Option ℕ) (pool q : ℕ) (ds : List Difference) (d : Difference) → there ≡ Some pool → ds ≡ differences is_first sizes (pool_at plan pool)
    → (pool == q && is_among ds d) ≡ (is_pool q there && is_among (differences is_first sizes (pool_at plan q)) d)
among_here plan is_first sizes there pool q ds d is exact =
    among_if plan is_first sizes pool q ds d (pool == q) refl exact ∙ ap (λ (one : Option ℕ). is_pool q one && is_among (differences is_first sizes (pool_at plan q)) d) (sym is)

or_false : (b : Bool) → b ≡ (b || false)
or_false true = refl
or_false false = refl

pub returns-in_ok-push_unreported-in-Some-clause-found : goal.returns-in_ok-push_unreported-in-Some-clause-found
returns-in_ok-push_unreported-in-Some-clause-found c =
    let plan = c.args.plan.now in
    let pool = c.in-Some.pool in
    let is_first = not (has_name c.args.self.now.named c.args.name.now) in
    let one = c.index-pools-pool.result in
    let read : one ≡ get_or plan.pools pool one = rw (← c.pools.ensures.value) c.index-pools-pool.is in
    let at : one ≡ pool_at plan pool = get_or_read plan.pools pool one c.in-Some.ensures.within read no_pool in
    let exact : c.deref.result.now ≡ differences is_first c.args.sizes.now (pool_at plan pool) =
    c.deref.ensures.value
    ∙ (c.in_ok-differences-in-Some.ensures.exact ∙ ap (λ (named : Bool). differences (not named) c.args.sizes.now one) c.contains-is_first.ensures)
    ∙ ap (λ (one : plans.Pool). differences is_first c.args.sizes.now one) at in
    on_ok_weaker c.add_all.result
    (λ _. subst (λ reported. Adds c.args.found.now.items reported c.push_unreported.new.found.items)
    (reported_here plan is_first (is_reported c.args.self.now.reported) c.args.number c.args.name.now c.args.sizes.now _ pool _ (sym c.in-Some.ensures.is) exact) c.in_ok-push_unreported-in-Some.ensures)
    c.add_all.ensures

pub returns-in_ok-push_unreported-in-Some-clause-noted : goal.returns-in_ok-push_unreported-in-Some-clause-noted
returns-in_ok-push_unreported-in-Some-clause-noted c =
    let plan = c.args.plan.now in
    let pool = c.in-Some.pool in
    let is_first = not (has_name c.args.self.now.named c.args.name.now) in
    let one = c.index-pools-pool.result in
    let read : one ≡ get_or plan.pools pool one = rw (← c.pools.ensures.value) c.index-pools-pool.is in
    let at : one ≡ pool_at plan pool = get_or_read plan.pools pool one c.in-Some.ensures.within read no_pool in
    let exact : c.deref-in-Some.result.now ≡ differences is_first c.args.sizes.now (pool_at plan pool) =
    c.deref-in-Some.ensures.value
    ∙ (c.in_ok-differences-in-Some.ensures.exact ∙ ap (λ (named : Bool). differences (not named) c.args.sizes.now one) c.contains-is_first.ensures)
    ∙ ap (λ (one : plans.Pool). differences is_first c.args.sizes.now one) at in
    on_ok_weaker c.add_all.result
    (λ reported. record {
      named = c.in_ok-insert.ensures;
      reported = λ q d. reported q d ∙ ap (λ (b : Bool). is_reported c.args.self.now.reported q d || b) (among_here plan is_first c.args.sizes.now _ pool q _ d (sym c.in-Some.ensures.is) exact);
      closed = or_false c.args.self.now.closed;
    })
    c.add_all.ensures
