use Rattle.size_search.proofs.Accepting.{accepting}
use Rattle.size_search.proofs.steady_laws.steady_certificates_accept.Goals as goal

pub returns : goal.returns
returns c = accepting
