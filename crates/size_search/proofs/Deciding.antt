-- The result of the search decides whether there are sizes.
use Rattle.std.proofs.Common.{◌≡◌, ◌≤◌, subst, inl, inr}
use Rattle.std.specs.Prelude.{IsTrue}
use Rattle.std.proofs.lemmas.Bool.{cases_lt}
use Rattle.job_bodies.specs.declared.limits.TheConstants.{MAX_SIZE}
use Rattle.job_bodies.specs.Plan.{Plan}
use Rattle.job_bodies.specs.WellFormed.{IsWellFormed}
use Rattle.weights.specs.Vector.{has_small_numbers}
use Rattle.cert_text.specs.Cert.{Cert}
use Rattle.size_search.specs.Fitted.{NoneFits}
use Rattle.size_search.specs.Widened.{widened, NoneFitsWide}
use Rattle.size_search.specs.Waiting.{IsSteady}
use Rattle.size_search.specs.Causes.{IsWithoutCause}
use Rattle.size_search.specs.Steady.{steady_vector, steady_total, steady_cert}
use Rattle.size_search.specs.NoSizesHelp.{HasSizes}
use Rattle.size_search.proofs.SizesExist.{free_where_sizes}
use Rattle.size_search.proofs.SteadyRoom.{some_fit_wide, some_fit_widened}
use Rattle.size_search.proofs.Caused.{beyond}
use Rattle.size_search.specs.declared.found.SizesFound.{SizesFound}
use Rattle.size_search.specs.declared.found.SizesFound.TheVariants.{Found, NotFound}
use Rattle.size_search.specs.declared.found.NoSizes.TheVariants.{Cause, TooLarge}
use Rattle.size_search.specs.Sized.{IsSized, IsFound}
use Rattle.size_search.specs.Decided.{IsDecided}

sizes_where_sized : (plan fit : Plan) (cert : Cert) → IsSized plan cert fit → HasSizes plan
sizes_where_sized plan fit cert sized = record {
  other = fit;
  cert = cert;
  well_formed = sized.fits.well_formed;
  same_outline = sized.fits.same_outline;
  accepts = sized.fits.accepts;
}

-- if sizes were found, sizes exist and no cause holds
pub decided_where_sized : (plan fit : Plan) (cert : Cert) → IsSized plan cert fit → IsDecided plan (Found fit cert)
decided_where_sized plan fit cert sized = let sizes = sizes_where_sized plan fit cert sized in (sizes, free_where_sizes plan sizes)

-- if the plan has no cause, the result of the search decides whether sizes exist
pub decided_without_cause : (plan : Plan) (found : SizesFound) → IsWithoutCause plan → IsFound plan found → IsDecided plan found
decided_without_cause plan (Found fit cert) free sized = decided_where_sized plan fit cert sized
decided_without_cause plan (NotFound (Cause cause)) free holds = beyond plan cause holds
decided_without_cause plan (NotFound (TooLarge p)) free large = (free, large.1)

-- ---- the steady certificate is fitted, unless its total is at least the limit of sizes

pub too_high_where_not_wide : (plan : Plan) (cert : Cert) → IsWellFormed plan → IsSteady plan → IsTrue (has_small_numbers (steady_vector plan)) → cert ≡ steady_cert plan → NoneFitsWide plan cert → MAX_SIZE ≤ steady_total plan
too_high_where_not_wide plan cert well free small is none =
    elim (cases_lt (steady_total plan) MAX_SIZE) [
      | inl low ↦ absurd (some_fit_wide plan well free small low (subst (NoneFitsWide plan) is none))
      | inr high ↦ high
    ]

pub too_high_where_not_fitted : (plan wide : Plan) (cert : Cert) → IsWellFormed plan → IsSteady plan → IsTrue (has_small_numbers (steady_vector plan)) → cert ≡ steady_cert plan → wide ≡ widened plan cert → NoneFits wide cert
    → MAX_SIZE ≤ steady_total plan
too_high_where_not_fitted plan wide cert well free small is wide_is none =
    elim (cases_lt (steady_total plan) MAX_SIZE) [
      | inl low ↦ absurd (some_fit_widened plan well free small low (subst (λ (any : Cert). NoneFits (widened plan any) any) is (subst (λ (any : Plan). NoneFits any cert) wide_is none)))
      | inr high ↦ high
    ]
