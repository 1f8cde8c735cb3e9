-- The child is the latest of the jobs so far.
use Rattle.std.proofs.Common.{◌≡◌, take}
use Rattle.support.specs.Places.{places_where, last_of}
use Rattle.pool_machine.specs.declared.parent.Parent.TheVariants.{Job}
use Rattle.interleaving.specs.ViewStep.{is_live_child}
use Rattle.report.proofs.json_ending.child_of.Given as goal

abbrev pub invariant-loop-job : goal.invariant-loop-job
invariant-loop-job l = l.child ≡ last_of (places_where (is_live_child (Job l.number) l.submit) (take l.job l.world.view.jobs))
