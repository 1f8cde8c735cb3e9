use Rattle.std.proofs.Common.{◌∙◌}
use Rattle.recordings.specs.RecordingLine.{line_view}
use Rattle.std.proofs.lemmas.Result.{on_ok_weaker, IfOk-weaker}
use Rattle.recordings.proofs.LastPath.{last_path}
use Rattle.recordings.proofs.PathsAfter.{paths_after}
use Rattle.recordings.proofs.paths.Paths.take_last_path.Goals as goal

pub returns-clause-taken : goal.returns-clause-taken
returns-clause-taken c = λ before kept stand. on_ok_weaker c.apply_line.result (λ changed. paths_after c.args.self.now c.apply_line.new.self before (line_view c.args.line.now) kept stand changed) c.apply_line.ensures.stored

pub returns-clause-path : goal.returns-clause-path
returns-clause-path c = λ before stand. IfOk-weaker c.apply_line.result _ _ (λ given is. is ∙ last_path c.args.self.now before (line_view c.args.line.now) stand) c.apply_line.ensures.path
