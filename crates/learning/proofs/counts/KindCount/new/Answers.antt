use Rattle.learning.proofs.RoundCounts.{none_counted}
use Rattle.learning.proofs.counts.KindCount.new.Goals as goal

pub returns : goal.returns
returns c = λ kinds kind. none_counted kinds kind
