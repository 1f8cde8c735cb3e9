use Rattle.std.proofs.Common.{◌≡◌, ◌≤◌, ◌∙◌, ◌++◌, ◌∷◌, [], List, ℕ, length, Result, Ok, sym, ap, subst}
use Rattle.std.proofs.lemmas.Result.{err_from_is_err_and}
use Rattle.std.proofs.lemmas.List.{take_all, length-map}
use Rattle.support.specs.Reading.{◌>>=◌}
use Rattle.support.specs.Results.{Fails}
use Rattle.support.proofs.Steps.{fails_first}
use Rattle.support.proofs.Loops.{at_index, checks_begin, checks_more, checks_stop, checks_end, images_more}
use Rattle.job_bodies.specs.Checks.{check_class}
use Rattle.plan_text.specs.Checks.{check_classes, class_names, class_head}
use Rattle.plan_text.proofs.checks.check_classes.Goals as goal

pub loop-index-init : goal.loop-index-init
loop-index-init c = record { names = c.new-names.ensures; passed = checks_begin _ _ }

pub loop-index-preserved : goal.loop-index-preserved
loop-index-preserved c =
    let x = c.index-classes-index.result in
    let here = at_index c.args.classes.now c.loop-index.index x c.loop-index-test.true c.index-classes-index.is in
    let passed = subst (λ (ns : List (List ℕ)). check_class (length c.args.pools.now) ns c.loop-index.index (class_head c.args.pools.now x) ≡ Ok tt) c.loop-index.invariant.names c.in_ok-check_class.ensures.check in
    record {
      names = c.in_ok-check_class.ensures.names ∙ ap (λ (ns : List (List ℕ)). ns ++ x.name ∷ []) c.loop-index.invariant.names ∙ sym (images_more (λ (x : _). x.name) c.args.classes.now c.loop-index.index x here);
      passed = checks_more _ _ _ _ here passed c.loop-index.invariant.passed;
    }

pub returns-in_err-check_class : goal.returns-in_err-check_class
unfolding check_classes
returns-in_err-check_class c =
    let x = c.index-classes-index.result in
    let here = at_index c.args.classes.now c.loop-index.index x c.loop-index-test.true c.index-classes-index.is in
    let failed = subst (λ (ns : List (List ℕ)). Fails c.in_err-check_class.field-0.0 (check_class (length c.args.pools.now) ns c.loop-index.index (class_head c.args.pools.now x))) c.loop-index.invariant.names c.in_err-check_class.ensures.check in
    let p = err_from_is_err_and c.from_residual.result c.from_residual.ensures.1 in
    rw (p.1, p.2) (fails_first _ _ _ (checks_stop _ _ _ _ _ here failed c.loop-index.invariant.passed))

pub returns : goal.returns
unfolding check_classes
returns c =
    let names = class_names c.args.classes.now in
    let past : length names ≤ c.loop-index.index = rw length-map c.loop-index-test.false in
    let all = c.loop-index.invariant.names ∙ take_all c.loop-index.index names past in
    ap (λ (r : Result (Unit {0}) _). r >>= λ _. Ok names) (checks_end _ _ _ c.loop-index-test.false c.loop-index.invariant.passed) ∙ ap (λ (ns : List (List ℕ)). Ok ns) (sym all)
