use Rattle.std.proofs.Common.{rules, ◌≡◌, ◌++◌, arith}
use Rattle.std.specs.Prelude.{string_bytes}
use Rattle.serde_json.specs.Written.{compact_text}
use Rattle.cert_text.specs.CertText.{vector_data}
use Rattle.cert_text.specs.Canonical.{bound_text}
use Rattle.cert_text.proofs.Pushing.{pool_pushed}
use Rattle.cert_text.proofs.parts.push_pool.Goals as goal

pub returns : goal.returns
returns c =
    let pool = c.args.pool.now in
    let blocked : string_bytes c.push_vector.new.text ≡ string_bytes c.push_str.new.self ++ compact_text (vector_data pool.blocked) = search rules in
    let bound : string_bytes c.push_bound_if_any.new.text ≡ string_bytes c.push_vector.new.text ++ bound_text pool.bound = search rules in
    pool_pushed c.push.result pool _ _ _ _ _ _ c.in_ok-push_str.ensures.bytes blocked bound (c.push.ensures.ascii (omega arith)) c.push.ensures.bytes
