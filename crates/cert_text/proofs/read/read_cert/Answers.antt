use Rattle.cert_text.proofs.Fits.{cert_read_fits}
use Rattle.cert_text.proofs.read.read_cert.Goals as goal

pub returns-in-Ok-clause-fits : goal.returns-in-Ok-clause-fits
returns-in-Ok-clause-fits c = cert_read_fits _ _ _ c.in-Ok.ensures
