use Rattle.std.proofs.Common.{rules, ◌≡◌, ◌<◌, ◌-◌, ℕ, List, [], ◌∷◌, ◌++◌, length, drop, reverse, get_or, sym, ap, ◌∙◌, arith, refl}
use Rattle.std.proofs.lemmas.Grind.{common_steps}
use Rattle.std.proofs.lemmas.Option.{slice_get-get_or}
use Rattle.job_bodies.specs.declared.action.Action.{Action}
use Rattle.job_bodies.specs.declared.action.Action.TheVariants.{Work}
use Rattle.size_search.specs.Steady.{weight_before, weight_at, weights_from}
use Rattle.size_search.proofs.Computations.{weight-bound, behind-short, longer_rest, reverse-cons}
use Rattle.size_search.proofs.body.weights.Goals as goal

pub before-weight-requires-clause-weight_after : goal.before-weight-requires-clause-weight_after
before-weight-requires-clause-weight_after c =
    let body = c.args.body.now in
    let rest = drop (length body - c.loop-behind.behind) body in
    omega (
      arith,
      c.loop-behind.invariant.weight,
      weight-bound c.args.plan.now c.args.vector.now c.args.least body c.args.last rest c.requires.small c.requires.least,
      behind-short body c.args.plan.now (length body - c.loop-behind.behind) c.requires.valid,
      c.requires.last,
    )

pub loop-behind-preserved : goal.loop-behind-preserved
loop-behind-preserved c =
    let plan = c.args.plan.now in
    let v = c.args.vector.now in
    let least = c.args.least in
    let body = c.args.body.now in
    let last = c.args.last in
    let behind = c.loop-behind.behind in
    let position = length body - 1 - behind in
    let x = get_or body position (Work 0) in
    let inside : behind < length body = search rules in
    let rest = drop (length body - behind) body in
    let longer = longer_rest body behind position x inside refl (slice_get-get_or body position (Work 0) (omega (arith, inside))) in
    let found : c.before-weight.result ≡ weight_before plan v least body x c.loop-behind.weight = search rules in
    let weight : c.before-weight.result ≡ weight_at plan v least body last (x ∷ rest) = found ∙ ap (weight_before plan v least body x) c.loop-behind.invariant.weight in
    let pushed : c.push-in-loop-behind.new.self.items ≡ c.loop-behind.weights.items ++ c.before-weight.result ∷ [] = c.in_ok-push-2.ensures.items in
    record {
      weight = weight ∙ sym (ap (weight_at plan v least body last) longer);
      weights =
          pushed
          ∙ (ap (λ (items : List ℕ). items ++ c.before-weight.result ∷ []) c.loop-behind.invariant.weights
          ∙ (ap (λ (n : ℕ). reverse (weights_from plan v least body last rest) ++ n ∷ []) weight
          ∙ (sym (reverse-cons (weight_at plan v least body last (x ∷ rest)) (weights_from plan v least body last rest))
          ∙ sym (ap (λ (actions : List Action). reverse (weights_from plan v least body last actions)) longer))));
    }

pub returns : goal.returns
returns c = grind (arith, common_steps)
