-- The results of the pools in a check on threads, and the pairs of texts whose plan has at least one pool.
use Rattle.std.specs.Prelude.{◌≡◌, ◌<◌, ℕ, List, length, slice_index_or, Option, None, IfSome, Ok}
use Rattle.job_bodies.specs.Plan.{Plan}
use Rattle.plan_text.specs.PlanOf.{plan_of}
use Rattle.cert_text.specs.Cert.{Cert}
use Rattle.cert_text.specs.CertOf.{cert_of}
use Rattle.cert_check.specs.declared.on_threads.PoolCheck.{PoolCheck}
use Rattle.cert_check.specs.PoolConditions.{pool_holds}
use Rattle.cert_check.specs.Verdict.{pool_line}

-- the result of the check of pool p
abbrev pub pool_check : Plan → Cert → ℕ → PoolCheck
pool_check plan cert p = record { pool = p; line = pool_line plan cert p; holds = pool_holds plan cert p }

-- there is an entry for each pool, in plan order, and each entry is empty or the result of the check of its pool
pub record AreChecked (plan : Plan) (cert : Cert) (found : List (Option PoolCheck)) : Type 0 where
  pub as_many : length found ≡ length plan.pools
  pub each : (p : ℕ) → p < length plan.pools → IfSome (slice_index_or found p None) (λ check. check ≡ pool_check plan cert p)

-- the text is a certificate for the plan, and the plan has a pool
pub record IsReadWith (plan : Plan) (cert_text : List ℕ) : Type 0 where
  pub cert : Cert
  pub is_cert : cert_of cert_text plan ≡ Ok cert
  pub some_pool : 0 < length plan.pools

-- the texts are a plan that has a pool, and a certificate for it
pub record IsRead (plan_text cert_text : List ℕ) : Type 0 where
  pub plan : Plan
  pub is_plan : plan_of plan_text ≡ Ok plan
  pub with_cert : IsReadWith plan cert_text
