use Rattle.std.proofs.Common.{arith}
use Rattle.std.proofs.lemmas.Grind.{common_steps}
use Rattle.recordings.specs.ActorPath.{ends_with_submit}
use Rattle.recordings.proofs.live_path.LivePath.ends_with_submit.Goals as goal

pub returns-in-Some : goal.returns-in-Some
unfolding ends_with_submit
returns-in-Some c = grind (arith, common_steps, c.submits.ensures, c.in-Some.ensures.value, c.deref.ensures.value, c.self.view_is)

pub returns-in-None : goal.returns-in-None
unfolding ends_with_submit
returns-in-None c = grind (arith, common_steps, c.in-None.ensures.value, c.deref.ensures.value, c.self.view_is)
