use Rattle.std.proofs.lemmas.Result.{err_from_is_err_and}
use Rattle.serde_json.specs.View.{view}
use Rattle.support.proofs.Loops.{at_index_seen, reads_more, reads_stop}
use Rattle.cert_text.proofs.shape.pools_in.Goals as goal

pub loop-pool-preserved : goal.loop-pool-preserved
loop-pool-preserved c =
    let here = at_index_seen view c.args.values.now c.loop-pool.pool c.index-values-pool.result c.loop-pool-test.true c.index-values-pool.is in
    rw c.in_ok-push.ensures.items (reads_more _ _ _ _ _ _ here c.in_ok-part.ensures c.loop-pool.invariant)

pub returns-in_err-part : goal.returns-in_err-part
returns-in_err-part c =
    let here = at_index_seen view c.args.values.now c.loop-pool.pool c.index-values-pool.result c.loop-pool-test.true c.index-values-pool.is in
    let p = err_from_is_err_and c.from_residual-in_err-part.result c.from_residual-in_err-part.ensures.1 in
    rw (p.1, p.2) (reads_stop _ _ _ _ _ _ here c.in_err-part.ensures c.loop-pool.invariant)
