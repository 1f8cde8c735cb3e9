use Rattle.std.proofs.Common.{◌≡◌, length, subst, ◌∙◌, arith}
use Rattle.size_search.proofs.Following.{IsFollowed, followed_further, followed_to_the_end}
use Rattle.size_search.proofs.node_set.NodeSet.add_all.Goals as goal

pub follow-requires : goal.follow-requires
follow-requires c = record { closed = c.requires.closed; as_many = c.loop-round.invariant.as_many ∙ c.requires.as_many }

pub loop-round-preserved : goal.loop-round-preserved
loop-round-preserved c =
    followed_further c.args.graph.now c.args.self.now c.loop-round.self c.follow.new.self c.loop-round._round c.loop-round.invariant
    c.in_ok-follow.ensures.reaching c.in_ok-follow.ensures.kept c.in_ok-follow.ensures.as_many c.in_ok-follow.ensures.fewer c.in_ok-follow.ensures.idle

pub returns : goal.returns
returns c =
    let graph = c.args.graph.now in
    let count : c.loop-round._round ≡ length graph = omega (arith, c.loop-round-test.false, c.len-round-end.ensures, c.loop-round.auto._round-end) in
    λ first. followed_to_the_end graph c.args.self.now c.loop-round.self first (subst (IsFollowed graph c.args.self.now c.loop-round.self) count c.loop-round.invariant)
