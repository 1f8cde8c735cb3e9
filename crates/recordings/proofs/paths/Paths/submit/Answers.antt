use Rattle.std.proofs.Common.{◌∙◌}
use Rattle.recordings.specs.declared.recording_line.RecordedActor.TheVariants.{Job, Round}
use Rattle.recordings.proofs.UndoneSubmit.{takes_back}
use Rattle.recordings.proofs.paths.Paths.submit.Goals as goal

pub returns-in-Err-clause-same : goal.returns-in-Err-clause-same
returns-in-Err-clause-same c = record {
  rounds = λ r. takes_back c.args.actor c.args.job (Round r) _ _ _ (c.in_ok-push_submit.ensures.stored.rounds r) (c.drop_submit.ensures.rounds r);
  jobs = λ j. takes_back c.args.actor c.args.job (Job j) _ _ _ (c.in-Err.ensures.same j ∙ c.in_ok-push_submit.ensures.stored.jobs j) (c.drop_submit.ensures.jobs j);
}
