-- The text of a certificate: compact JSON, with the keys of each object in ascending order of their bytes.
use Rattle.std.specs.Prelude.{ℕ, Bool, true, false, nat_eq, if◌then◌else◌, List, map, codes, Option, Some, None}
use Rattle.std.specs.List.{list_all, list_any}
use Rattle.serde_json.specs.Data.{Data, number, unsigned, array, object, member, no_members}
use Rattle.serde_json.specs.View.{items_of}
use Rattle.serde_json.specs.Written.{compact_text}
use Rattle.weights.specs.declared.bound.Bound.{Bound}
use Rattle.weights.specs.declared.bound.Bound.TheVariants.{Standing, Lifetime}
use Rattle.weights.specs.Vector.{Vector}
use Rattle.weights.specs.Ranks.{Ranks}
use Rattle.cert_text.specs.Cert.{PoolCert, Cert}

abbrev pub number_data : ℕ → Data
number_data n = number (unsigned n)

abbrev pub list_data : List Data → Data
list_data values = array (items_of values)

abbrev pub numbers_data : List ℕ → Data
numbers_data numbers = list_data (map number_data numbers)

abbrev pub rows_data : List (List ℕ) → Data
rows_data rows = list_data (map numbers_data rows)

unfoldable pub vector_data : Vector → Data
vector_data v =
    object (member (codes "classes") (rows_data v.classes)
    (member (codes "clients") (rows_data v.clients)
    (member (codes "workers") (numbers_data v.workers) no_members)))

-- the object of a pool's part, with its blocked vector and this bound
unfoldable pub bounded_data : Data → Option Bound → Data
bounded_data blocked None = object (member (codes "blocked") blocked no_members)
bounded_data blocked (Some (Standing v)) = object (member (codes "blocked") blocked (member (codes "standing") (vector_data v) no_members))
bounded_data blocked (Some (Lifetime v)) = object (member (codes "blocked") blocked (member (codes "lifetime") (vector_data v) no_members))

abbrev pub pool_data : PoolCert → Data
pool_data pool = bounded_data (vector_data pool.blocked) pool.bound

unfoldable pub ranks_data : Ranks → Data
ranks_data ranks =
    object (member (codes "levels") (numbers_data ranks.levels)
    (member (codes "pools") (numbers_data ranks.pools)
    (member (codes "reach") (numbers_data ranks.reach) no_members)))

-- whether the bound is a standing vector; version 1 can represent no other bound
abbrev pub is_standing : Option Bound → Bool
is_standing (Some (Standing v)) = true
is_standing _ = false

-- the lowest version that can represent the certificate: 1 if each pool has a standing vector, and otherwise 2
abbrev pub version_number : Cert → ℕ
version_number cert = if list_all (λ pool. is_standing pool.bound) cert.pools then 1 else 2

unfoldable pub cert_data : Cert → Data
cert_data cert =
    object (member (codes "pools") (list_data (map pool_data cert.pools))
    (member (codes "ranks") (ranks_data cert.ranks)
    (member (codes "version") (number_data (version_number cert)) no_members)))

abbrev pub cert_text : Cert → List ℕ
cert_text cert = compact_text (cert_data cert)

-- whether one of the bytes is a `%`
abbrev pub has_percent : List ℕ → Bool
has_percent text = list_any (nat_eq 37) text
