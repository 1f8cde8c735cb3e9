use Rattle.std.proofs.Common.{◌≡◌, ◌-◌, length, arith}
use Rattle.recordings.proofs.SubmitIndex.{pushed}
use Rattle.recordings.proofs.live_path.LivePath.push_submit.Goals as goal

pub invariant_of-self-in_default : goal.invariant_of-self-in_default
invariant_of-self-in_default c =
    let place_is : c.len-place.result - 1 ≡ length c.self.inside.steps.items = omega (arith, c.len-place.ensures, c.in_ok-push.ensures.len, c.self.inside.steps.ok.0) in
    (pushed c.args.job _ _ _ _ _ c.self.invariant.0 place_is c.in_ok-push.ensures.items c.in_default.ensures.entries, c.in_default.ensures.ordered)
