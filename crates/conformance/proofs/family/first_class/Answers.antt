use Rattle.std.proofs.Common.{◌≡◌, ℕ, List, length, filter, slice_get, ap, sym, ◌∙◌, arith}
use Rattle.std.specs.List.{range_with_len}
use Rattle.conformance.specs.Family.{is_class_in_family, class_family}
use Rattle.conformance.proofs.OneByOne.{kept_none, first_kept}
use Rattle.conformance.proofs.family.first_class.Goals as goal

pub loop-class-preserved : goal.loop-class-preserved
loop-class-preserved c = kept_none (is_class_in_family c.args.plan.now c.args.label.now c.args.pool.now) c.loop-class.class (sym c.is_class_in_family.ensures ∙ c.if-is_class_in_family.false) ∙ c.loop-class.invariant

pub returns-then-is_class_in_family : goal.returns-then-is_class_in_family
unfolding class_family
returns-then-is_class_in_family c =
    first_kept (is_class_in_family c.args.plan.now c.args.label.now c.args.pool.now) (length c.args.plan.now.classes) c.loop-class.class (omega (arith, c.loop-class-test.true, ap length c.classes-class-end.ensures.value)) c.loop-class.invariant (sym c.is_class_in_family.ensures ∙ c.if-is_class_in_family.true)

pub returns : goal.returns
unfolding class_family
returns c =
    let all : length c.args.plan.now.classes ≡ c.loop-class.class = omega (arith, c.loop-class-test.false, c.loop-class.auto.class-end, ap length c.classes-class-end.ensures.value) in
    sym (ap (λ (kept : List ℕ). slice_get kept 0) (ap (λ (n : ℕ). filter (is_class_in_family c.args.plan.now c.args.label.now c.args.pool.now) (range_with_len 0 n)) all ∙ c.loop-class.invariant))
