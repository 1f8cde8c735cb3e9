use Rattle.std.proofs.Common.{get_or, refl}
use Rattle.report.specs.SafeText.{client_part}
use Rattle.report.proofs.Rows.{part_more}
use Rattle.report.proofs.safe_bound.push_clients.Goals as goal

pub loop-kind-preserved : goal.loop-kind-preserved
loop-kind-preserved c =
    let shares = c.args.shares.now in
    let kind = c.loop-kind.kind in
    rw (c.in_ok-push_share.ensures, c.client_name.ensures) (part_more (client_part c.args.plan.now) shares kind 0 (get_or shares kind 0) _ _ c.loop-kind-test.true refl c.loop-kind.invariant)
