use Rattle.std.proofs.Common.{◌∙◌, arith}
use Rattle.support.proofs.Counting.{pushed_digit}
use Rattle.support.proofs.counter.Counter.push_to.Goals as goal

pub returns : goal.returns
returns c =
    pushed_digit c.push.result _ _ _ _ _ c.self.inside.tens c.self.inside.last_digit c.args.self.now c.in_ok-push_str.ensures.bytes (c.deref.ensures ∙ c.self.invariant.0)
    (c.push.ensures.ascii (omega (arith, c.self.invariant.1))) c.push.ensures.bytes c.self.invariant.1 c.self.invariant.2 c.self.view_is
