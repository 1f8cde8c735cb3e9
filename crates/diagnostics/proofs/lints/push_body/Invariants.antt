-- The list so far, followed by the lints of the remaining actions, is the list at the start followed by the lints of all actions.
use Rattle.std.proofs.Common.{◌≡◌, ◌++◌, ℕ}
use Rattle.job_bodies.specs.declared.action.Action.{Action}
use Rattle.diagnostics.specs.Lints.{lints_of_action, lints_of_body}
use Rattle.diagnostics.proofs.InOrder.{rest_of}
use Rattle.diagnostics.proofs.lints.push_body.Given as goal

abbrev pub invariant-loop-place : goal.invariant-loop-place
invariant-loop-place l =
    l.found.items ++ rest_of (λ (entry : ℕ × Action). lints_of_action l.plan l.needed l.part l.number l.body entry.0 entry.1) l.body l.place ≡ l.fn.found.items ++ lints_of_body l.plan l.needed l.part l.number l.body
