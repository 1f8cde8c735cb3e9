-- The paths are unchanged after a submit that was appended and removed again.
use Rattle.std.proofs.Common.{◌≡◌, ℕ, Bool, true, false, if◌then◌else◌, List, Option, Some, None, refl, ap, ◌∙◌}
use Rattle.std.specs.Option.{option_map}
use Rattle.recordings.specs.declared.recording_line.RecordedActor.{RecordedActor}
use Rattle.recordings.specs.LineParts.{is_same_actor}
use Rattle.recordings.specs.declared.step.RecordedStep.{RecordedStep}
use Rattle.recordings.specs.declared.step.RecordedStep.TheVariants.{Submits}
use Rattle.recordings.specs.ActorPath.{without_submit}
use Rattle.recordings.specs.PathChanges.{at_actor, with_step}
use Rattle.recordings.proofs.Ends.{without_last}

back_there : (job : ℕ) (same : Bool) (there : Option (List RecordedStep))
    → (let mid = if same then option_map (with_step (Submits job)) there else there in if same then option_map (without_submit job) mid else mid) ≡ there
back_there job true None = refl
back_there job true (Some path) = ap Some (without_last job path)
back_there job false there = refl

pub takes_back : (actor : RecordedActor) (job : ℕ) (one : RecordedActor) (there mid new : Option (List RecordedStep)) → mid ≡ at_actor actor (with_step (Submits job)) one there → new ≡ at_actor actor (without_submit job) one mid → new ≡ there
takes_back actor job one there mid new h g = g ∙ (ap (at_actor actor (without_submit job) one) h ∙ back_there job (is_same_actor actor one) there)
