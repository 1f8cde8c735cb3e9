-- The path that is returned with an actor's last line.
use Rattle.std.proofs.Common.{◌≡◌, true, List, Option, Some, None, unwrap_or, ap, ◌∙◌}
use Rattle.std.specs.Option.{option_map, option_and_then}
use Rattle.std.specs.declared.alloc.Global.{Global}
use Rattle.std.specs.declared.vec.Vec.{Vec}
use Rattle.recordings.specs.declared.recording_line.RecordedActor.{RecordedActor}
use Rattle.recordings.specs.RecordingLine.{RecordedLine}
use Rattle.recordings.specs.declared.step.RecordedStep.{RecordedStep}
use Rattle.recordings.specs.LastLine.{ended_by, last_path_of}
use Rattle.recordings.specs.Path.{path_of}
use Rattle.recordings.specs.PathsOfLines.{is_live, live_path_of}
use Rattle.conformance.proofs.Words.{if_true}

its_path : (given : Option (Vec RecordedStep Global)) (other : Vec RecordedStep Global) (path : List RecordedStep) → option_map (λ (p : Vec RecordedStep Global). p.items) given ≡ Some path → (unwrap_or given other).items ≡ path
its_path (Some p) other path is = cc
its_path None other path is = absurd (let e : None ≡ Some path = is in cc)

pub given_path : (given : Option (Vec RecordedStep Global)) (other : Vec RecordedStep Global) (before : List RecordedLine) (line : RecordedLine) (actor : RecordedActor) → option_map (λ (p : Vec RecordedStep Global). p.items) given ≡ last_path_of before line
    → ended_by line ≡ Some actor → is_live before actor ≡ true → (unwrap_or given other).items ≡ path_of before actor
given_path given other before line actor is ends live =
    its_path given other (path_of before actor) (is ∙ (ap (option_and_then (live_path_of before)) ends ∙ if_true (is_live before actor) (Some (path_of before actor)) None live))
