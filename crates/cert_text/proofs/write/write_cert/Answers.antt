use Rattle.std.proofs.Common.{rules, ◌≡◌, ap, ◌∙◌}
use Rattle.cert_text.specs.CertText.{cert_text, has_percent}
use Rattle.cert_text.proofs.Percent.{cert_bare}
use Rattle.cert_text.proofs.CanonicalTexts.{written_back, line_back}
use Rattle.cert_text.proofs.write.write_cert.Goals as goal

pub returns-clause-reads_back : goal.returns-clause-reads_back
returns-clause-reads_back c =
    let same : c.into_bytes.result.items ≡ cert_text c.args.cert.now = search rules in
    λ plan fits within. written_back plan _ c.args.cert.now same fits within

pub returns-clause-line_reads_back : goal.returns-clause-line_reads_back
returns-clause-line_reads_back c =
    let same : c.into_bytes.result.items ≡ cert_text c.args.cert.now = search rules in
    λ plan fits within. line_back plan _ c.args.cert.now same fits within

pub returns-clause-no_separator : goal.returns-clause-no_separator
returns-clause-no_separator c =
    let same : c.into_bytes.result.items ≡ cert_text c.args.cert.now = search rules in
    ap has_percent same ∙ cert_bare c.args.cert.now
