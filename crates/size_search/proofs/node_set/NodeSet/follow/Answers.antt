use Rattle.std.proofs.Common.{◌≡◌, ℕ, List, [], ◌∷◌, ◌++◌, ◌⊎◌, refl, subst, arith, rules}
use Rattle.support.specs.In.{In}
use Rattle.size_search.specs.declared.node_set.NodeSet.{NodeSet}
use Rattle.size_search.specs.Marks.{Has, Covers}
use Rattle.size_search.proofs.Following.{follows_one}
use Rattle.size_search.proofs.node_set.NodeSet.follow.Goals as goal

pub add_each-requires : goal.add_each-requires
add_each-requires c = λ k at. omega (arith, c.requires.as_many, c.requires.closed c.in-Some.node k (subst (In k) c.successors.ensures at))

pub returns-in_ok-add_each-clause-reaching : goal.returns-in_ok-add_each-clause-reaching
returns-in_ok-add_each-clause-reaching c =
    let graph = c.args.graph.now in
    let node = c.in-Some.node in
    let pending : c.args.self.now.pending.items ≡ c.pop.new.self.items ++ node ∷ [] = search rules in
    let mid : NodeSet = record { is_found = c.args.self.now.is_found; pending = c.pop.new.self } in
    λ first reaching.
    follows_one graph first c.args.self.now mid c.add_each.new.self node refl pending
    c.in_ok-add_each.ensures.grows
    (subst (Covers c.add_each.new.self) c.successors.ensures c.in_ok-add_each.ensures.covers)
    (subst (λ (nodes : List ℕ). (k : ℕ) → Has c.add_each.new.self k → Has mid k ⊎ In k nodes) c.successors.ensures c.in_ok-add_each.ensures.only)
    reaching
