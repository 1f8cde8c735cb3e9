use Rattle.recordings.proofs.WrittenLines.{canonical}
use Rattle.recordings.proofs.laws.recording_lines_are_canonical.Goals as goal

pub returns : goal.returns
returns c = canonical
