use Rattle.recordings.specs.declared.paths.Paths.{Paths}
use Rattle.recordings.proofs.PathsAfter.{paths_none}
use Rattle.recordings.proofs.paths.Paths.new.Goals as goal

pub returns : goal.returns
returns c =
    let paths : Paths = record { rounds = c.new.result; jobs = c.new-2.result } in
    paths_none paths c.new.ensures c.new-2.ensures
