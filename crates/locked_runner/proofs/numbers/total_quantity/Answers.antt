use Rattle.std.proofs.Common.{◌≡◌, ◌+◌, ℕ, List, suc, subst, sym, ap, ◌∙◌, refl, arith}
use Rattle.std.proofs.lemmas.Bool.Decides.{Decides-eqb}
use Rattle.std.proofs.lemmas.Slice.Eq.{slice_eq-Decides}
use Rattle.weights.specs.Ranks.{Ranks}
use Rattle.locked_runner.specs.RunNumbers.{AreQuantities, own_quantity, greatest}
use Rattle.locked_runner.proofs.Generations.{settled}
use Rattle.locked_runner.proofs.numbers.total_quantity.Goals as goal

pub loop-generation-init : goal.loop-generation-init
loop-generation-init c = c.in_ok-numbers.ensures 0 (λ k inside. refl)

pub loop-generation-preserved : goal.loop-generation-preserved
loop-generation-preserved c =
    let more : suc (suc c.loop-generation.generation) ≡ suc (c.loop-generation.generation + 1) = omega arith in
    let are = subst (λ (numbers : List ℕ). AreQuantities c.args.plan.now (own_quantity c.args.measure) (suc c.loop-generation.generation) numbers) (sym c.deref-in-loop-generation.ensures.value) c.loop-generation.invariant in
    subst (λ (n : ℕ). AreQuantities c.args.plan.now (own_quantity c.args.measure) n c.in_ok-next.next.items) more (c.in_ok-next.ensures (suc c.loop-generation.generation) are)

pub returns-then-eq : goal.returns-then-eq
returns-then-eq c =
    let same : c.in_ok-next.next.items ≡ c.loop-generation.numbers.items = (slice_eq-Decides Decides-eqb _ _ _ c.eq.ensures).0 c.if-eq.true in
    let ends : c.greatest-generation-end.result ≡ greatest c.args.ranks.now.levels = c.greatest-generation-end.ensures ∙ ap (λ (levels : List ℕ). greatest levels) (c.deref.ensures.value ∙ ap (λ (ranks : Ranks). ranks.levels) c.ranks.view_is) in
    settled c.args.plan.now (own_quantity c.args.measure) (suc c.loop-generation.generation) (greatest c.args.ranks.now.levels + 1) c.loop-generation.numbers.items c.loop-generation.invariant
    (λ n are. subst (λ (numbers : List ℕ). AreQuantities c.args.plan.now (own_quantity c.args.measure) (suc n) numbers) same
    (c.in_ok-next.ensures n (subst (λ (numbers : List ℕ). AreQuantities c.args.plan.now (own_quantity c.args.measure) n numbers) (sym c.deref-in-loop-generation.ensures.value) are)))
    (omega arith)

pub returns : goal.returns
returns c =
    let ends : c.greatest-generation-end.result ≡ greatest c.args.ranks.now.levels = c.greatest-generation-end.ensures ∙ ap (λ (levels : List ℕ). greatest levels) (c.deref.ensures.value ∙ ap (λ (ranks : Ranks). ranks.levels) c.ranks.view_is) in
    let all : suc c.loop-generation.generation ≡ greatest c.args.ranks.now.levels + 1 = omega arith in
    subst (λ (n : ℕ). AreQuantities c.args.plan.now (own_quantity c.args.measure) n c.loop-generation.numbers.items) all c.loop-generation.invariant
