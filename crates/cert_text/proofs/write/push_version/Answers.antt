use Rattle.std.proofs.Common.{rules, ◌≡◌, ◌++◌, decimal, arith}
use Rattle.std.specs.Prelude.{string_bytes}
use Rattle.cert_text.specs.CertText.{version_number}
use Rattle.cert_text.proofs.Pushing.{version_pushed}
use Rattle.cert_text.proofs.write.push_version.Goals as goal

pub returns : goal.returns
returns c =
    let cert = c.args.cert.now in
    let number : string_bytes c.push_number.new.text ≡ string_bytes c.push_str.new.self ++ decimal (version_number cert) = search rules in
    version_pushed c.push.result cert _ _ _ _ _ c.in_ok-push_str.ensures.bytes number (c.push.ensures.ascii (omega arith)) c.push.ensures.bytes
