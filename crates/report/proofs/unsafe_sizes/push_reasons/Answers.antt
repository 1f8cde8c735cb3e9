use Rattle.std.proofs.Common.{rules}
use Rattle.std.proofs.lemmas.Slice.Zip.{zip_turn, zip_end}
use Rattle.job_bodies.specs.Plan.{no_pool}
use Rattle.report.specs.AdviceText.{pool_reasons}
use Rattle.report.proofs.Pairs.{pair_more, pair_all}
use Rattle.report.proofs.unsafe_sizes.push_reasons.Goals as goal

pub loop-declared-preserved : goal.loop-declared-preserved
loop-declared-preserved c =
    let turn = zip_turn c.args.plan.now.pools c.args.fit.now.pools c.loop-declared.yielded c.into_iter-declared-iterator.result c.loop-declared.declared-iterator c.next.new.self c.next.result (search rules) (search rules) c.loop-declared.yielded_by (c.in-Some.declared, c.in-Some.fitted) c.in-Some.is c.next.ensures.steps in (
      (tt, tt),
      tt,
      pair_more pool_reasons c.args.plan.now.pools c.args.fit.now.pools no_pool no_pool _ _ _ c.loop-declared.yielded _ c.in-Some.declared.now c.in-Some.fitted.now turn.0 turn.1 (turn.2 no_pool) (turn.3 no_pool)
          c.in_ok-push_pool.ensures c.loop-declared.invariant.2,
    )

pub returns : goal.returns
returns c =
    let ended = zip_end c.args.plan.now.pools c.args.fit.now.pools c.loop-declared.yielded c.into_iter-declared-iterator.result c.loop-declared.declared-iterator c.next.new.self c.next.result (search rules) (search rules) c.loop-declared.yielded_by c.in-None.is c.next.ensures.steps in
    pair_all pool_reasons c.args.plan.now.pools c.args.fit.now.pools _ _ _ ended c.loop-declared.invariant.2
