use Rattle.size_search.proofs.ReportedCores.{reported_cores_need_larger_maxes}
use Rattle.size_search.proofs.fitted_laws.reported_cores_need_larger_maxes.Goals as goal

pub returns : goal.returns
returns c = reported_cores_need_larger_maxes
