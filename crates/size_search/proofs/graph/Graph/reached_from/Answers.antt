use Rattle.std.proofs.Common.{[], sym, subst, ◌∙◌, arith}
use Rattle.size_search.specs.Marks.{MarksReached}
use Rattle.size_search.proofs.Following.{starts}
use Rattle.size_search.proofs.graph.Graph.reached_from.Goals as goal

pub add_each-requires : goal.add_each-requires
add_each-requires c = λ k at. omega (arith, (c.in_ok-set.ensures []).as_many, c.requires.nodes k at)

pub add_all-requires-clause-as_many : goal.add_all-requires-clause-as_many
add_all-requires-clause-as_many c = c.in_ok-add_each.ensures.grows.as_many ∙ (c.in_ok-set.ensures []).as_many

pub returns : goal.returns
returns c =
    let graph = c.args.self.now in
    let first = c.args.first.now in
    let added = c.in_ok-add_each.ensures in
    let reaching = starts graph first first c.in_ok-set.set c.add_each.new.self (λ k at. at) added.grows added.only (c.in_ok-set.ensures first) in
    subst (MarksReached graph first) (sym c.into_marks.ensures) (c.in_ok-add_all.ensures first reaching added.covers)
