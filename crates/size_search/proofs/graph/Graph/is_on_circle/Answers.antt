use Rattle.std.proofs.Common.{ℕ, ◌⊎◌, List, [], sym, subst, ◌∙◌, arith}
use Rattle.support.specs.In.{In}
use Rattle.size_search.specs.Graph.{successors}
use Rattle.size_search.specs.Marks.{Has, Covers, MarksReached}
use Rattle.size_search.proofs.Following.{starts}
use Rattle.size_search.proofs.graph.Graph.is_on_circle.Goals as goal

pub add_each-requires : goal.add_each-requires
add_each-requires c = λ k at. omega (arith, (c.in_ok-set.ensures []).as_many, c.requires c.args.node k (subst (In k) c.successors.ensures at))

pub add_all-requires-clause-as_many : goal.add_all-requires-clause-as_many
add_all-requires-clause-as_many c = c.in_ok-add_each.ensures.grows.as_many ∙ (c.in_ok-set.ensures []).as_many

pub returns : goal.returns
returns c =
    let graph = c.args.self.now in
    let first = successors graph c.args.node in
    let old = c.in_ok-set.set in
    let new = c.add_each.new.self in
    let covers : Covers new first = subst (Covers new) c.successors.ensures c.in_ok-add_each.ensures.covers in
    let only : (k : ℕ) → Has new k → Has old k ⊎ In k first = subst (λ (nodes : List ℕ). (k : ℕ) → Has new k → Has old k ⊎ In k nodes) c.successors.ensures c.in_ok-add_each.ensures.only in
    let reaching = starts graph first first old new (λ k at. at) c.in_ok-add_each.ensures.grows only (c.in_ok-set.ensures first) in
    let marks : MarksReached graph first c.add_all.new.self.is_found.items = c.in_ok-add_all.ensures first reaching covers in
    (λ yes. (marks.reached c.args.node).0 (sym c.has.ensures ∙ yes), λ circle. c.has.ensures ∙ (marks.reached c.args.node).1 circle)
