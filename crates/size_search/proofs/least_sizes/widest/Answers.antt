use Rattle.std.proofs.Common.{sym, subst, rules}
use Rattle.size_search.specs.Widened.{IsLeastWide}
use Rattle.size_search.proofs.Sizings.{widened_again}
use Rattle.size_search.proofs.least_sizes.widest.Goals as goal
use Rattle.size_search.proofs.least_sizes.widest.Goals.{else-loop-test, then-loop-test+in_ok-wider+in-Ok-2+then-is_widest}

pub loop-preserved : goal.loop-preserved
loop-preserved c = widened_again c.args.plan.now c.loop.wide c.in-Ok-2.wider c.args.cert.now c.loop.invariant (search rules)

pub returns : goal.returns
returns c =
    let plan = c.args.plan.now in
    let cert = c.args.cert.now in
    elim c.loop-test.branch [
      | else-loop-test w ↦ subst (IsLeastWide plan cert) (sym w.wide-is) c.loop.invariant
      | then-loop-test+in_ok-wider+in-Ok-2+then-is_widest w ↦ subst (IsLeastWide plan cert) (sym w.wide-is) (widened_again plan c.loop.wide w.in-Ok-2.wider cert c.loop.invariant (search rules))
    ]
