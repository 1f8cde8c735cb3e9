use Rattle.std.proofs.Common.{sym, ◌∙◌}
use Rattle.counterexample.specs.declared.ending.Reason.TheVariants.{PoolsAreFull, PoolsStayAtCore}
use Rattle.counterexample.proofs.StandingTest.{are_shown, not_shown}
use Rattle.counterexample.proofs.confirmation.reason.Goals as goal

pub returns-then-all_start_no_thread : goal.returns-then-all_start_no_thread
returns-then-all_start_no_thread c = λ s reached seen.
    are_shown c.args.plan.now s c.args.world.now.view c.args.standing.now PoolsAreFull c.args.members.now c.pools-pools.ensures.well_formed reached seen (sym c.all_start_no_thread.ensures ∙ c.if-all_start_no_thread.true)

pub returns-then-all_start_no_thread-2 : goal.returns-then-all_start_no_thread-2
returns-then-all_start_no_thread-2 c = λ s reached seen. (
  not_shown c.args.plan.now s c.args.world.now.view c.args.standing.now PoolsAreFull c.args.members.now c.pools-pools.ensures.well_formed reached seen (sym c.all_start_no_thread.ensures ∙ c.if-all_start_no_thread.false),
  are_shown c.args.plan.now s c.args.world.now.view c.args.standing.now PoolsStayAtCore c.args.members.now c.pools-pools.ensures.well_formed reached seen (sym c.all_start_no_thread-else-all_start_no_thread.ensures ∙ c.if-all_start_no_thread-2.true),
)

pub returns-else-all_start_no_thread-2 : goal.returns-else-all_start_no_thread-2
returns-else-all_start_no_thread-2 c = λ s reached seen.
    not_shown c.args.plan.now s c.args.world.now.view c.args.standing.now PoolsStayAtCore c.args.members.now c.pools-pools.ensures.well_formed reached seen (sym c.all_start_no_thread-else-all_start_no_thread.ensures ∙ c.if-all_start_no_thread-2.false)
