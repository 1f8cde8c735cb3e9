-- The list so far, followed by the lints of the remaining classes, is the list at the start followed by the lints of all classes.
use Rattle.std.proofs.Common.{◌≡◌, ◌++◌, ℕ}
use Rattle.job_bodies.specs.Plan.{Class}
use Rattle.diagnostics.specs.Lints.{growing_of_class, growing_of_classes}
use Rattle.diagnostics.proofs.InOrder.{rest_of}
use Rattle.diagnostics.proofs.growing_queues.push_classes.Given as goal

abbrev pub invariant-loop-number : goal.invariant-loop-number
invariant-loop-number l = l.found.items ++ rest_of (λ (entry : ℕ × Class). growing_of_class l.plan l.repeated entry.0 entry.1) l.plan.classes l.number ≡ l.fn.found.items ++ growing_of_classes l.plan l.repeated
