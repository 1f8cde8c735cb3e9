-- The acceptance of steady certificates.
use Rattle.std.specs.Prelude.{◌≡◌, ◌≤◌, ◌<◌, ◌↔◌, ℕ, length, IsTrue, IsFalse}
use Rattle.support.specs.In.{In}
use Rattle.job_bodies.specs.Plan.{Plan, pool_at, needs_no_bound}
use Rattle.job_bodies.specs.WellFormed.{IsWellFormed}
use Rattle.weights.specs.declared.row.Place.TheVariants.{Total}
use Rattle.weights.specs.Vector.{has_small_numbers}
use Rattle.cert_text.specs.Cert.{cert_fits}
use Rattle.soundness.specs.declared.note.Note.{Note}
use Rattle.soundness.specs.Conditions.{failing}
use Rattle.soundness.specs.Accepted.{accepted}
use Rattle.size_search.specs.Waiting.{IsSteady}
use Rattle.size_search.specs.Steady.{steady_vector, steady_total, steady_cert}

-- the queue of every pool that needs a bound is at least the total, and every core whose threads never time out is larger than
-- the total. A pool needs no bound if it may reject jobs or its queue is unbounded.
abbrev pub AreEnough : Plan → Type 0
AreEnough plan = (p : ℕ) → p < length plan.pools → (IsFalse (needs_no_bound (pool_at plan p)) → steady_total plan ≤ (pool_at plan p).queue) × (IsFalse (pool_at plan p).core_timeout → steady_total plan < (pool_at plan p).core)

-- the steady certificate fits the plan, only conditions on its total can fail, and it is accepted exactly when the sizes are enough
pub record IsSteadyAccepted (plan : Plan) : Type 0 where
  pub fits : IsTrue (cert_fits plan (steady_cert plan))
  pub only_totals : (x : Note) → In x (failing plan (steady_cert plan)) → x.place ≡ Total
  pub is_accepted : IsTrue (accepted plan (steady_cert plan)) ↔ AreEnough plan

-- if the plan is steady, and the weights are within their limit, the steady certificate of the plan is `IsSteadyAccepted`. A plan
-- is steady if these conditions hold:
--
-- - no class submits itself,
-- - no repeating client submits, directly or through other jobs, a job that is never got,
-- - no pool whose core threads may time out waits for itself, and
-- - clients submit each class of such a pool that has a get
abbrev pub SteadyCertificatesAccept : Type 0
SteadyCertificatesAccept = (plan : Plan) → IsWellFormed plan → IsSteady plan → IsTrue (has_small_numbers (steady_vector plan)) → IsSteadyAccepted plan
