-- The limit of the numbers of a certificate.
use Rattle.std.specs.Prelude.{Bool, true, ◌&&◌, Option, Some, None}
use Rattle.std.specs.List.{list_all}
use Rattle.weights.specs.declared.bound.Bound.{Bound}
use Rattle.weights.specs.Vector.{is_small, has_small_numbers}
use Rattle.weights.specs.Bound.{bound_vector}
use Rattle.weights.specs.Ranks.{Ranks}
use Rattle.cert_text.specs.Cert.{PoolCert, Cert}

abbrev pub bound_has_small_numbers : Option Bound → Bool
bound_has_small_numbers None = true
bound_has_small_numbers (Some bound) = has_small_numbers (bound_vector bound)

abbrev pub pool_has_small_numbers : PoolCert → Bool
pool_has_small_numbers pool = bound_has_small_numbers pool.bound && has_small_numbers pool.blocked

abbrev pub ranks_have_small_numbers : Ranks → Bool
ranks_have_small_numbers ranks = list_all is_small ranks.pools && list_all is_small ranks.reach && list_all is_small ranks.levels

unfoldable pub cert_has_small_numbers : Cert → Bool
cert_has_small_numbers cert = list_all pool_has_small_numbers cert.pools && ranks_have_small_numbers cert.ranks
