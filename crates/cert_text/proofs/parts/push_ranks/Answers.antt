use Rattle.std.proofs.Common.{rules, ◌≡◌, ◌++◌, arith}
use Rattle.std.specs.Prelude.{string_bytes}
use Rattle.serde_json.specs.Written.{compact_text}
use Rattle.cert_text.specs.CertText.{numbers_data}
use Rattle.cert_text.proofs.Pushing.{ranks_pushed}
use Rattle.cert_text.proofs.parts.push_ranks.Goals as goal

pub returns : goal.returns
returns c =
    let ranks = c.args.ranks.now in
    let levels : string_bytes c.push_numbers.new.text ≡ string_bytes c.push_str.new.self ++ compact_text (numbers_data ranks.levels) = search rules in
    let pools : string_bytes c.push_numbers-2.new.text ≡ string_bytes c.push_str-2.new.self ++ compact_text (numbers_data ranks.pools) = search rules in
    let reach : string_bytes c.push_numbers-3.new.text ≡ string_bytes c.push_str-3.new.self ++ compact_text (numbers_data ranks.reach) = search rules in
    ranks_pushed c.push.result ranks _ _ _ _ _ _ _ _ _ c.in_ok-push_str.ensures.bytes levels c.in_ok-push_str-2.ensures.bytes pools c.in_ok-push_str-3.ensures.bytes reach (c.push.ensures.ascii (omega arith)) c.push.ensures.bytes
