use Rattle.std.proofs.Common.{◌≡◌, ℕ, [], length, map, replicate, ap, ◌∙◌, Vec, Global, arith}
use Rattle.size_search.proofs.RowSteps.{none_computed}
use Rattle.size_search.proofs.rows.no_jobs.Goals as goal

pub returns : goal.returns
returns c =
    let seen = λ (row : Vec ℕ Global). row.items in
    let all : length c.classes-class-items.result.now ≡ length c.args.plan.now.classes = ap length c.classes-class-items.ensures.value in
    let ended : c.loop-class._class-index ≡ length c.args.plan.now.classes = omega (arith, all, c.loop-class-test.false, c.loop-class.auto._class-index-end) in
    none_computed c.args.plan.now c.new-2.result.items (map seen c.new-3.result.items) (map seen c.loop-class.classes.items) c.new-2.ensures.items (ap (map seen) c.new-3.ensures.items) (c.loop-class.invariant ∙ ap (λ (n : ℕ). replicate n []) ended)
