use Rattle.std.proofs.Common.{inl, get_or, subst, arith}
use Rattle.std.proofs.lemmas.List.{take_more, take_all}
use Rattle.support.proofs.Members.{not_In_nil, In-get_or}
use Rattle.size_search.specs.Marks.{Covers}
use Rattle.size_search.proofs.Growth.{grows_refl}
use Rattle.size_search.proofs.Following.{added_further}
use Rattle.size_search.proofs.node_set.NodeSet.add_each.Goals as goal

pub add-requires : goal.add-requires
add-requires c =
    let nodes = c.args.nodes.now in
    let i = c.loop-node.node-index in
    omega (arith, c.requires (get_or nodes i 0) (In-get_or nodes i 0 c.loop-node-test.true), c.loop-node.invariant.grows.as_many)

pub loop-node-init : goal.loop-node-init
loop-node-init c = record { grows = grows_refl c.args.self.now; covers = λ k at. absurd (not_In_nil at); only = λ k has. inl has }

pub loop-node-preserved : goal.loop-node-preserved
loop-node-preserved c =
    let nodes = c.args.nodes.now in
    let i = c.loop-node.node-index in
    added_further c.args.self.now c.loop-node.self c.add.new.self nodes i (get_or nodes i 0) (take_more nodes i 0 c.loop-node-test.true) (In-get_or nodes i 0 c.loop-node-test.true)
    c.in_ok-add.ensures.grows c.in_ok-add.ensures.found c.in_ok-add.ensures.only c.loop-node.invariant

pub returns-clause-covers : goal.returns-clause-covers
returns-clause-covers c =
    let nodes = c.args.nodes.now in
    subst (Covers c.loop-node.self) (take_all c.loop-node.node-index nodes (omega (arith, c.loop-node-test.false))) c.loop-node.invariant.covers
