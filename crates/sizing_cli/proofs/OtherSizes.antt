-- Sizes whose certificate does not accept the plan as it is differ from the declared ones.
use Rattle.std.proofs.Common.{◌≡◌, true, false, sym, ap, subst, ◌∙◌}
use Rattle.std.specs.Prelude.{◌≢◌, IsTrue}
use Rattle.job_bodies.specs.Plan.{Plan}
use Rattle.cert_text.specs.Cert.{Cert}
use Rattle.soundness.specs.Accepted.{accepted}
use Rattle.size_search.specs.Sized.{IsSized}
use Rattle.size_search.specs.declared.found.NoSizes.{NoSizes}
use Rattle.size_search.specs.declared.found.SizesFound.{SizesFound}
use Rattle.size_search.specs.declared.found.SizesFound.TheVariants.{Found, NotFound}

-- the plan with the sizes that were found, or the plan itself if there are none
plan_of_sizes : Plan → SizesFound → Plan
plan_of_sizes plan (Found fit cert) = fit
plan_of_sizes plan (NotFound cause) = plan

pub found_sizes_are_others : (plan : Plan) (cert : Cert) (fit : Plan) → IsSized plan cert fit → accepted plan cert ≡ false → (other : Cert) → Found fit cert ≢ Found plan other
unfolding plan_of_sizes
found_sizes_are_others plan cert fit sized refused other same =
    let unchanged : fit ≡ plan = ap (plan_of_sizes plan) same in
    let Accepts : Plan → Type 0 = λ p. IsTrue (accepted p cert) in
    let yes : accepted plan cert ≡ true = subst Accepts unchanged sized.fits.accepts in
    let no : false ≡ true = sym refused ∙ yes in
    absurd cc

pub no_sizes_are_others : (plan : Plan) (cause : NoSizes) (other : Cert) → NotFound cause ≢ Found plan other
no_sizes_are_others plan cause other same = absurd cc
