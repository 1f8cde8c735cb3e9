use Rattle.soundness.proofs.ExchangedJobs.{exchanges_swap_two_gets}
use Rattle.soundness.proofs.skipping_laws.exchanges_swap_two_gets.Goals as goal

pub returns : goal.returns
returns c = exchanges_swap_two_gets
