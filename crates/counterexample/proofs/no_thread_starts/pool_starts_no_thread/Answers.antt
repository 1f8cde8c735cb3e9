use Rattle.counterexample.proofs.StandingTest.{pool_in_view}
use Rattle.counterexample.proofs.no_thread_starts.pool_starts_no_thread.Goals as goal

pub starts_none_for-requires-clause-in_view : goal.starts_none_for-requires-clause-in_view
starts_none_for-requires-clause-in_view c = pool_in_view c.args.plan.now c.args.world.now.view c.args.pool c.requires (rw c.pools.ensures.value at c.if-pool-pools.true)
