-- The list so far, followed by the lints of the remaining actions, is the list at the start followed by the lints of all actions.
use Rattle.std.proofs.Common.{◌≡◌, ◌++◌, ℕ}
use Rattle.job_bodies.specs.declared.action.Action.{Action}
use Rattle.diagnostics.specs.declared.lint.Lint.TheVariants.{QueueMayGrow}
use Rattle.diagnostics.specs.Lints.{fills_queue, only_if, growing_of_body}
use Rattle.diagnostics.proofs.InOrder.{rest_of}
use Rattle.diagnostics.proofs.growing_queues.push_body.Given as goal

abbrev pub invariant-loop-position : goal.invariant-loop-position
invariant-loop-position l =
    l.found.items ++ rest_of (λ (entry : ℕ × Action). only_if (fills_queue l.plan l.body entry.0 entry.1) (QueueMayGrow l.part l.number entry.0)) l.body l.position
    ≡ l.fn.found.items ++ growing_of_body l.plan l.part l.number l.body
