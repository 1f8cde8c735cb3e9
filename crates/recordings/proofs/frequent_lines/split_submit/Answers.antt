use Rattle.recordings.proofs.FrequentLines.{submits}
use Rattle.recordings.proofs.frequent_lines.split_submit.Goals as goal

pub returns : goal.returns
returns c =
    submits c.args.actor c.args.words.now c.in_ok-job.job c.in_ok-job.words.now c.in_ok-class.class.now c.in_ok-class.words.now c.in_ok-pool.pool.now c.in_ok-pool.after.now c.requires c.in_ok-job.ensures c.in_ok-class.ensures
    c.in_ok-pool.ensures
