-- The fault that the check of the results returns is a fault of the run.
use Rattle.std.proofs.Common.{◌≡◌, ◌≢◌, ℕ, Bool, List, Option, Some, None, inl, inr, refl, subst, sym, true, false}
use Rattle.std.proofs.lemmas.Bool.{cases_eq}
use Rattle.support.specs.declared.number.TheConstants.{MEMORY, RUN_TOO_LARGE}
use Rattle.job_bodies.specs.Plan.{Plan}
use Rattle.pool_machine.specs.declared.event.Event.{Event}
use Rattle.held_machines.specs.declared.held.Receipt.{Receipt}
use Rattle.locked_runner.specs.Run.{IsAnswerTo}
use Rattle.locked_runner.specs.declared.report.ThreadFault.{ThreadFault}
use Rattle.locked_runner.specs.declared.report.ThreadFault.TheVariants as cause
use Rattle.locked_runner.specs.declared.report.RunFault.{RunFault}
use Rattle.locked_runner.specs.Faults.{IsFaultOf}

answer_of : (plan : Plan) (rounds jobs units : ℕ) (history : List Event) (lists : List (List (Receipt Event))) (reported : Option ThreadFault) (fault : RunFault) → IsAnswerTo plan rounds jobs units history lists reported fault → IsFaultOf false fault
answer_of plan rounds jobs units history lists (Some cause.Memory) fault is = inr (inr (inl is))
answer_of plan rounds jobs units history lists (Some cause.Gate) fault is = inr (inr (inr is))
answer_of plan rounds jobs units history lists None fault (inl strange) = inl strange.number
answer_of plan rounds jobs units history lists None fault (inr mixed) = inr (inl mixed.number)

pub answered : (plan : Plan) (rounds jobs units : ℕ) (history : List Event) (lists : List (List (Receipt Event))) (reported : Option ThreadFault) (fault : RunFault) → (fault.number ≢ MEMORY → IsAnswerTo plan rounds jobs units history lists reported fault) → IsFaultOf false fault
answered plan rounds jobs units history lists reported fault is = elim (cases_eq fault.number MEMORY) [
  | inl memory ↦ inr (inr (inl memory))
  | inr other ↦ answer_of plan rounds jobs units history lists reported fault (is other)
]

-- fault 40 before the first event is a fault of a run that exceeds a limit
pub too_large : (large : Bool) (fault : RunFault) → large ≡ true → fault ≡ record { number = RUN_TOO_LARGE; events = 0 } → IsFaultOf large fault
too_large large fault is same = subst (λ (x : Bool). IsFaultOf x fault) (sym is) (subst (IsFaultOf true) (sym same) (inl refl, refl))
