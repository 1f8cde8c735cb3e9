use Rattle.std.proofs.Common.{◌≡◌, suc, sym, subst, refl, arith, add-one}
use Rattle.conformance.specs.BlockingGet.{IsBlocking}
use Rattle.conformance.proofs.BlockingGet.{IsWay, way_here, way_next, blocks}
use Rattle.conformance.proofs.blocking_get.blocking_get.Goals as goal

pub loop-index-preserved : goal.loop-index-preserved
loop-index-preserved c =
    let a = c.args in
    let n = c.loop-index.index in
    let here : IsWay a.row.now a.passes.now a.gets.now (suc n) n c.way_at-here.result =
    subst (IsWay a.row.now a.passes.now a.gets.now (suc n) n) (sym c.way_at-here.ensures) (way_here a.row.now a.passes.now a.gets.now n c.loop-index.way _ refl c.loop-index.invariant) in
    let next = subst (IsWay a.row.now a.passes.now a.gets.now (suc n) (suc n)) (sym c.way_after-way.ensures) (way_next a.row.now a.passes.now a.gets.now n c.way_at-here.result _ _ refl refl here) in
    subst (λ k. IsWay a.row.now a.passes.now a.gets.now k k c.way_after-way.result) (sym (add-one n)) next

pub returns : goal.returns
returns c =
    let a = c.args in
    let past = c.loop-index-test.false in
    let within = c.loop-index.auto.index-end in
    let end : c.loop-index.index ≡ a.end = omega (arith, past, within) in
    let before = subst (λ n. IsWay a.row.now a.passes.now a.gets.now n n c.loop-index.way) end c.loop-index.invariant in
    let here : IsWay a.row.now a.passes.now a.gets.now (suc a.end) a.end c.way_at.result =
    subst (IsWay a.row.now a.passes.now a.gets.now (suc a.end) a.end) (sym c.way_at.ensures) (way_here a.row.now a.passes.now a.gets.now a.end c.loop-index.way _ refl before) in
    subst (IsBlocking a.row.now a.passes.now a.gets.now a.end) (sym c.get_on.ensures) (blocks a.row.now a.passes.now a.gets.now a.end c.way_at.result here)
