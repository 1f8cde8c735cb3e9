use Rattle.std.proofs.Common.{rules, ◌+◌, ap}
use Rattle.std.proofs.lemmas.Slice.Zip.{zip_turn, zip_end}
use Rattle.job_bodies.specs.Plan.{no_pool}
use Rattle.report.proofs.PoolLines.{text_of_more, text_of_all}
use Rattle.report.proofs.size_lines.push_sizes.Goals as goal

pub loop-pool-preserved : goal.loop-pool-preserved
loop-pool-preserved c =
    let turn = zip_turn c.args.declared.now.pools c.args.fit.now.pools c.loop-pool.yielded c.into_iter-pool-iterator.result c.loop-pool.pool-iterator c.next.new.self c.next.result (search rules) (search rules) c.loop-pool.yielded_by (c.in-Some.pool, c.in-Some.fitted) c.in-Some.is c.next.ensures.steps in (
      (tt, tt),
      tt,
      text_of_more c.args.declared.now c.args.fit.now _ c.loop-pool.yielded _ _ _ _ _ c.in-Some.pool.now c.in-Some.fitted.now turn.0 turn.1 (turn.2 no_pool) (turn.3 no_pool)
          c.in_ok-push_pool.ensures (ap (λ n. c.loop-pool.changes + n) c.pool_changes.ensures) c.loop-pool.invariant.2,
    )

pub returns-clause-text : goal.returns-clause-text
returns-clause-text c =
    let ended = zip_end c.args.declared.now.pools c.args.fit.now.pools c.loop-pool.yielded c.into_iter-pool-iterator.result c.loop-pool.pool-iterator c.next.new.self c.next.result (search rules) (search rules) c.loop-pool.yielded_by c.in-None.is c.next.ensures.steps in
    (text_of_all c.args.declared.now c.args.fit.now _ _ _ _ _ ended c.loop-pool.invariant.2 c.in_ok-writeln.ensures.bytes).0

pub returns-clause-changes : goal.returns-clause-changes
returns-clause-changes c =
    let ended = zip_end c.args.declared.now.pools c.args.fit.now.pools c.loop-pool.yielded c.into_iter-pool-iterator.result c.loop-pool.pool-iterator c.next.new.self c.next.result (search rules) (search rules) c.loop-pool.yielded_by c.in-None.is c.next.ensures.steps in
    (text_of_all c.args.declared.now c.args.fit.now _ _ _ _ _ ended c.loop-pool.invariant.2 c.in_ok-writeln.ensures.bytes).1
