-- When the finding about a plan is true. The answer is written from this finding.
use Rattle.std.specs.Prelude.{◌≡◌, ◌≢◌, ℕ, false, List, length, slice_index_or, Option, None, IfSome, IsTrue}
use Rattle.job_bodies.specs.Plan.{Plan}
use Rattle.pool_machine.specs.declared.event.Event.{Event}
use Rattle.cert_text.specs.Cert.{Cert}
use Rattle.soundness.specs.Accepted.{accepted}
use Rattle.size_search.specs.Steady.{steady_cert}
use Rattle.counterexample.specs.Rejection.{EndsRejected}
use Rattle.counterexample.specs.Witness.{IsWitness}
use Rattle.size_search.specs.Sized.{IsFound}
use Rattle.size_search.specs.Decided.{IsDecided}
use Rattle.size_search.specs.declared.found.SizesFound.{SizesFound}
use Rattle.size_search.specs.declared.found.SizesFound.TheVariants.{Found}
use Rattle.report.specs.declared.finding.PlanFinding.{PlanFinding}
use Rattle.report.specs.declared.finding.PlanFinding.TheVariants.{Safe, NotSafe, NotDecided}

-- the result of the search for sizes is true of the plan, and it decides whether sizes exist that a certificate accepts
pub record IsKnown (plan : Plan) (sizes : SizesFound) : Type 0 where
  pub is_found : IsFound plan sizes
  pub is_decided : IsDecided plan sizes

-- no certificate for the declared sizes was found: the steady certificate does not accept the plan, and the search did not find
-- the declared sizes
pub record IsOpen (plan : Plan) (sizes : SizesFound) : Type 0 where
  pub known : IsKnown plan sizes
  pub not_steady : accepted plan (steady_cert plan) ≡ false
  pub others : (cert : Cert) → sizes ≢ Found plan cert

-- n events lead from the plan's start to the first job that pool p rejects
pub record RejectsAfter (plan : Plan) (p n : ℕ) : Type 0 where
  pub events : List Event
  pub count : length events ≡ n
  pub ends : EndsRejected plan events p

-- each number in the list is the number of events after which the pool with the same index rejects a job
abbrev pub AreRejections : Plan → List (Option ℕ) → Type 0
AreRejections plan rejections = (p : ℕ) → IfSome (slice_index_or rejections p None) (RejectsAfter plan p)

-- the finding is true of the plan:
-- - Safe: the certificate accepts the plan, and each number is the number of events after which the pool rejects a job
-- - NotSafe: the witness is a witness against the plan, and the result of the search for sizes is true
-- - NotDecided: the result of the search for sizes is true, and no certificate was found (`IsOpen`)
abbrev pub IsFinding : Plan → PlanFinding → Type 0
IsFinding plan (Safe cert rejections) = IsTrue (accepted plan cert) × AreRejections plan rejections.items
IsFinding plan (NotSafe witness sizes) = IsWitness plan witness.events.items witness.ending × IsKnown plan sizes
IsFinding plan (NotDecided sizes) = IsOpen plan sizes
