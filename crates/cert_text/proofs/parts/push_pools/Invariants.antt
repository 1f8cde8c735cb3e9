use Rattle.std.proofs.Common.{◌++◌, map}
use Rattle.std.specs.Prelude.{string_bytes}
use Rattle.serde_json.specs.Written.{compact_text}
use Rattle.cert_text.specs.CertText.{pool_data, list_data}
use Rattle.cert_text.proofs.Pushing.{Grows}
use Rattle.cert_text.proofs.parts.push_pools.Given as goal

abbrev pub invariant-loop-pool : goal.invariant-loop-pool
invariant-loop-pool l = Grows pool_data l.pools l.pool-index l.later (string_bytes l.text) (string_bytes l.fn.text ++ compact_text (list_data (map pool_data l.pools)))
