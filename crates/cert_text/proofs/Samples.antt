-- Texts whose certificate or fault is computed from the definitions, and certificates whose text is.
use Rattle.std.proofs.Common.{◌≡◌, ℕ, List, [], ◌∷◌, ◌++◌, true, false, Some, None, Ok, Err, codes, refl}
use Rattle.job_bodies.specs.declared.action.Action.TheVariants.{Work, Submit, Get}
use Rattle.job_bodies.specs.Plan.{Plan}
use Rattle.weights.specs.declared.bound.Bound.TheVariants.{Standing, Lifetime}
use Rattle.weights.specs.Vector.{Vector}
use Rattle.weights.specs.Ranks.{Ranks}
use Rattle.cert_text.specs.Cert.{Cert}
use Rattle.cert_text.specs.Values.{fault}
use Rattle.cert_text.specs.CertOf.{cert_of}
use Rattle.cert_text.specs.CertText.{cert_text}
use Rattle.cert_text.proofs.OnLiterals.{cert_on_literals}

-- a plan of one pool, one class and one client kind
abbrev plan : Plan
plan = record {
  pools = record { name = codes "p"; core = 1; max = 1; queue = 2; prestart = false; may_reject = false; unbounded = false; core_timeout = false } ∷ [];
  classes = record { name = codes "a"; pool = 0; body = Work 1 ∷ [] } ∷ [];
  clients = record { name = codes "c"; count = 2; repeat = true; body = Submit 0 ∷ Get 0 ∷ [] } ∷ [];
}

abbrev nothing_blocked : Vector
nothing_blocked = record { workers = 0 ∷ []; classes = (0 ∷ 0 ∷ 0 ∷ 0 ∷ []) ∷ []; clients = (0 ∷ 0 ∷ 0 ∷ []) ∷ [] }

abbrev ranks : Ranks
ranks = record { pools = 0 ∷ []; reach = 0 ∷ []; levels = 0 ∷ [] }

-- a certificate with a standing vector: each client has at most one job at a time
abbrev standing : Cert
standing = record {
  pools = record { bound = Some (Standing (record { workers = 0 ∷ []; classes = (1 ∷ 1 ∷ 1 ∷ 1 ∷ []) ∷ []; clients = (1 ∷ 0 ∷ 1 ∷ []) ∷ [] })); blocked = nothing_blocked } ∷ [];
  ranks = ranks;
}

abbrev standing_text : List ℕ
standing_text = codes "{\"pools\":[{\"blocked\":{\"classes\":[[0,0,0,0]],\"clients\":[[0,0,0]],\"workers\":[0]},\"standing\":{\"classes\":[[1,1,1,1]],\"clients\":[[1,0,1]],\"workers\":[0]}}],\"ranks\":{\"levels\":[0],\"pools\":[0],\"reach\":[0]},\"version\":1}"

writes_standing : cert_text standing ≡ standing_text
unfolding cert_on_literals
writes_standing = refl

reads_standing : cert_of standing_text plan ≡ Ok standing
unfolding cert_on_literals
reads_standing = refl

-- a certificate with a lifetime vector: each client submits one job
abbrev lifetime : Cert
lifetime = record {
  pools = record { bound = Some (Lifetime (record { workers = 0 ∷ []; classes = (1 ∷ 1 ∷ 1 ∷ 1 ∷ []) ∷ []; clients = (1 ∷ 0 ∷ 0 ∷ []) ∷ [] })); blocked = nothing_blocked } ∷ [];
  ranks = ranks;
}

abbrev lifetime_text : List ℕ
lifetime_text = codes "{\"pools\":[{\"blocked\":{\"classes\":[[0,0,0,0]],\"clients\":[[0,0,0]],\"workers\":[0]},\"lifetime\":{\"classes\":[[1,1,1,1]],\"clients\":[[1,0,0]],\"workers\":[0]}}],\"ranks\":{\"levels\":[0],\"pools\":[0],\"reach\":[0]},\"version\":2}"

writes_lifetime : cert_text lifetime ≡ lifetime_text
unfolding cert_on_literals
writes_lifetime = refl

reads_lifetime : cert_of lifetime_text plan ≡ Ok lifetime
unfolding cert_on_literals
reads_lifetime = refl

-- a plan like `plan`, but its pool may reject jobs
abbrev rejecting_plan : Plan
rejecting_plan = record plan { pools = record { name = codes "p"; core = 1; max = 1; queue = 2; prestart = false; may_reject = true; unbounded = false; core_timeout = false } ∷ [] }

-- a certificate without a bound
abbrev unbounded : Cert
unbounded = record { pools = record { bound = None; blocked = nothing_blocked } ∷ []; ranks = ranks }

abbrev unbounded_text : List ℕ
unbounded_text = codes "{\"pools\":[{\"blocked\":{\"classes\":[[0,0,0,0]],\"clients\":[[0,0,0]],\"workers\":[0]}}],\"ranks\":{\"levels\":[0],\"pools\":[0],\"reach\":[0]},\"version\":2}"

writes_unbounded : cert_text unbounded ≡ unbounded_text
unfolding cert_on_literals
writes_unbounded = refl

reads_unbounded : cert_of unbounded_text rejecting_plan ≡ Ok unbounded
unfolding cert_on_literals
reads_unbounded = refl

-- a pool that must not reject jobs and has a bounded queue needs a bound
unbounded_must_not_reject : cert_of unbounded_text plan ≡ Err (fault 31)
unfolding cert_on_literals
unbounded_must_not_reject = refl

-- a pool that may reject jobs may also have a bound
standing_may_reject : cert_of standing_text rejecting_plan ≡ Ok standing
unfolding cert_on_literals
standing_may_reject = refl

lifetime_may_reject : cert_of lifetime_text rejecting_plan ≡ Ok lifetime
unfolding cert_on_literals
lifetime_may_reject = refl

-- ---- faults, for a plan of one pool without classes and client kinds
abbrev pool : Plan
pool = record { pools = plan.pools; classes = []; clients = [] }

-- a plan like `pool`, but its pool may reject jobs
abbrev rejecting_pool : Plan
rejecting_pool = record { pools = rejecting_plan.pools; classes = []; clients = [] }

-- the text of a vector with this number for the workers of the pool
abbrev vector : List ℕ → List ℕ
vector number = codes "{\"workers\":[" ++ number ++ codes "],\"classes\":[],\"clients\":[]}"

-- the text of a certificate of this version, whose pool has these members and a blocked vector
abbrev text : List ℕ → List ℕ → List ℕ
text version members = codes "{\"version\":" ++ version ++ codes ",\"pools\":[{" ++ members ++ codes "\"blocked\":" ++ vector (codes "0") ++ codes "}],\"ranks\":{\"pools\":[0],\"reach\":[],\"levels\":[]}}"

abbrev standing_of : List ℕ → List ℕ
standing_of number = codes "\"standing\":" ++ vector number ++ codes ","

abbrev lifetime_of : List ℕ → List ℕ
lifetime_of number = codes "\"lifetime\":" ++ vector number ++ codes ","

abbrev cert_of_number : ℕ → Cert
cert_of_number number = record {
  pools = record { bound = Some (Standing (record { workers = number ∷ []; classes = []; clients = [] })); blocked = record { workers = 0 ∷ []; classes = []; clients = [] } } ∷ [];
  ranks = record { pools = 0 ∷ []; reach = []; levels = [] };
}

-- keys may be in any order
any_order : cert_of (text (codes "1") (standing_of (codes "7"))) pool ≡ Ok (cert_of_number 7)
unfolding cert_on_literals
any_order = refl

-- version 2 also allows a standing vector
standing_in_version_2 : cert_of (text (codes "2") (standing_of (codes "7"))) pool ≡ Ok (cert_of_number 7)
unfolding cert_on_literals
standing_in_version_2 = refl

other_version : cert_of (text (codes "3") (standing_of (codes "7"))) pool ≡ Err (fault 33)
unfolding cert_on_literals
other_version = refl

-- the version is checked before the rest of the shape
version_first : cert_of (codes "{\"version\":0}") pool ≡ Err (fault 33)
unfolding cert_on_literals
version_first = refl

no_version : cert_of (codes "{}") pool ≡ Err (fault 31)
unfolding cert_on_literals
no_version = refl

no_object : cert_of (codes "[1]") pool ≡ Err (fault 31)
unfolding cert_on_literals
no_object = refl

lifetime_in_version_1 : cert_of (text (codes "1") (lifetime_of (codes "7"))) pool ≡ Err (fault 31)
unfolding cert_on_literals
lifetime_in_version_1 = refl

both_bounds : cert_of (text (codes "2") (standing_of (codes "7") ++ lifetime_of (codes "7"))) pool ≡ Err (fault 31)
unfolding cert_on_literals
both_bounds = refl

no_bound : cert_of (text (codes "2") []) pool ≡ Err (fault 31)
unfolding cert_on_literals
no_bound = refl

no_bound_in_version_1 : cert_of (text (codes "1") []) rejecting_pool ≡ Err (fault 31)
unfolding cert_on_literals
no_bound_in_version_1 = refl

unknown_key_without_bound : cert_of (text (codes "2") (codes "\"note\":0,")) rejecting_pool ≡ Err (fault 31)
unfolding cert_on_literals
unknown_key_without_bound = refl

-- if the pool may reject jobs, a bound must have the plan's shape too
wrong_standing_may_reject : cert_of (text (codes "2") (standing_of (codes "7,8"))) rejecting_pool ≡ Err (fault 31)
unfolding cert_on_literals
wrong_standing_may_reject = refl

both_bounds_may_reject : cert_of (text (codes "2") (standing_of (codes "7") ++ lifetime_of (codes "7"))) rejecting_pool ≡ Err (fault 31)
unfolding cert_on_literals
both_bounds_may_reject = refl

unknown_key : cert_of (text (codes "1") (standing_of (codes "7") ++ codes "\"note\":0,")) pool ≡ Err (fault 31)
unfolding cert_on_literals
unknown_key = refl

too_many_numbers : cert_of (text (codes "1") (standing_of (codes "7,8"))) pool ≡ Err (fault 31)
unfolding cert_on_literals
too_many_numbers = refl

greatest_number : cert_of (text (codes "1") (standing_of (codes "1000000000"))) pool ≡ Ok (cert_of_number 1000000000)
unfolding cert_on_literals
greatest_number = refl

large_number : cert_of (text (codes "1") (standing_of (codes "1000000001"))) pool ≡ Err (fault 32)
unfolding cert_on_literals
large_number = refl

-- the whole shape is checked before the limit of the numbers
shape_before_sizes : cert_of (text (codes "1") (standing_of (codes "1000000001") ++ codes "\"note\":0,")) pool ≡ Err (fault 31)
unfolding cert_on_literals
shape_before_sizes = refl

negative_number : cert_of (text (codes "1") (standing_of (codes "-1"))) pool ≡ Err (fault 31)
unfolding cert_on_literals
negative_number = refl

fraction : cert_of (text (codes "1") (standing_of (codes "1.0"))) pool ≡ Err (fault 31)
unfolding cert_on_literals
fraction = refl

negative_zero : cert_of (text (codes "1") (standing_of (codes "-0"))) pool ≡ Err (fault 31)
unfolding cert_on_literals
negative_zero = refl

past_64_bits : cert_of (text (codes "1") (standing_of (codes "18446744073709551616"))) pool ≡ Err (fault 31)
unfolding cert_on_literals
past_64_bits = refl

greatest_of_64_bits : cert_of (text (codes "1") (standing_of (codes "18446744073709551615"))) pool ≡ Err (fault 32)
unfolding cert_on_literals
greatest_of_64_bits = refl

-- a number above the greatest float is not JSON
past_floats : cert_of (text (codes "1") (standing_of (codes "1e400"))) pool ≡ Err (fault 30)
unfolding cert_on_literals
past_floats = refl

-- if a key is repeated, its last value is used
repeated_key : cert_of (text (codes "1") (standing_of (codes "6") ++ standing_of (codes "7"))) pool ≡ Ok (cert_of_number 7)
unfolding cert_on_literals
repeated_key = refl

no_text : cert_of (255 ∷ []) pool ≡ Err (fault 30)
unfolding cert_on_literals
no_text = refl

empty_text : cert_of [] pool ≡ Err (fault 30)
unfolding cert_on_literals
empty_text = refl
