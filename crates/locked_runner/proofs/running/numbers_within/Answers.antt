use Rattle.std.proofs.Common.{◌∙◌, true, false}
use Rattle.locked_runner.proofs.ExceededLimits.{passed, few_events}
use Rattle.locked_runner.proofs.Faults.{too_large}
use Rattle.locked_runner.proofs.BoundedNumbers.{few_jobs, few_units}
use Rattle.locked_runner.proofs.running.numbers_within.Goals as goal

pub returns-then-exceeds_limits-clause-fault : goal.returns-then-exceeds_limits-clause-fault
returns-then-exceeds_limits-clause-fault c =
    too_large _ _
    (passed c.args.plan.now c.args.ranks.now c.args.rounds c.in-Ok.numbers.events true c.exceeds_limits.result c.in-Ok.ensures.events c.exceeds_limits.ensures.value c.if-exceeds_limits.true)
    c.at_start-then-exceeds_limits.ensures.value

pub returns-clause-within : goal.returns-clause-within
returns-clause-within c =
    passed c.args.plan.now c.args.ranks.now c.args.rounds c.in-Ok.numbers.events false c.exceeds_limits.result c.in-Ok.ensures.events c.exceeds_limits.ensures.value c.if-exceeds_limits.false

pub returns-clause-jobs : goal.returns-clause-jobs
returns-clause-jobs c =
    c.in-Ok.ensures.jobs ∙ few_jobs c.args.plan.now c.args.ranks.now c.args.rounds (few_events c.args.plan.now c.args.ranks.now c.args.rounds (returns-clause-within c))

pub returns-clause-units : goal.returns-clause-units
returns-clause-units c =
    c.in-Ok.ensures.units ∙ few_units c.args.plan.now c.args.ranks.now c.args.rounds c.exceeds_limits.ensures.well_formed (few_events c.args.plan.now c.args.ranks.now c.args.rounds (returns-clause-within c))
