use Rattle.std.proofs.Common.{rules, ◌≡◌, ◌++◌, map}
use Rattle.std.specs.Prelude.{string_bytes}
use Rattle.serde_json.specs.Written.{compact_text}
use Rattle.cert_text.specs.CertText.{list_data, pool_data, ranks_data}
use Rattle.cert_text.proofs.Pushing.{cert_pushed}
use Rattle.cert_text.proofs.write.push_cert.Goals as goal

pub returns : goal.returns
returns c =
    let cert = c.args.cert.now in
    let pools : string_bytes c.push_pools.new.text ≡ string_bytes c.push_str.new.self ++ compact_text (list_data (map pool_data cert.pools)) = search rules in
    let ranks : string_bytes c.push_ranks.new.text ≡ string_bytes c.push_str-2.new.self ++ compact_text (ranks_data cert.ranks) = search rules in
    cert_pushed c.push_version.result cert _ _ _ _ _ _ c.in_ok-push_str.ensures.bytes pools c.in_ok-push_str-2.ensures.bytes ranks c.push_version.ensures
