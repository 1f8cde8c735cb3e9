use Rattle.std.proofs.Common.{◌≡◌, ap}
use Rattle.cert_text.specs.Cert.{PoolCert}
use Rattle.report.proofs.Rows.{both_pushed}
use Rattle.report.proofs.safe.push_lines.Goals as goal

pub returns : goal.returns
returns c =
    let bound : c.part.inside.bound ≡ c.args.part.now.bound = ap (λ (part : PoolCert). part.bound) c.part.view_is in
    let blocked : c.part.inside.blocked ≡ c.args.part.now.blocked = ap (λ (part : PoolCert). part.blocked) c.part.view_is in
    rw (← bound, ← blocked) (both_pushed c.push_rest.result _ _ _ _ _ c.in_ok-push_bound.ensures c.push_rest.ensures)
