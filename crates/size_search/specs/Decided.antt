-- The search for sizes is a decision: sizes exist exactly when no cause holds, unless the steady certificate is too large (`IsTooLarge`).
use Rattle.job_bodies.specs.Plan.{Plan}
use Rattle.size_search.specs.Causes.{IsWithoutCause}
use Rattle.size_search.specs.NoSizesHelp.{IsBeyondSizes, HasSizes}
use Rattle.size_search.specs.declared.found.SizesFound.{SizesFound}
use Rattle.size_search.specs.declared.found.SizesFound.TheVariants.{Found, NotFound}
use Rattle.size_search.specs.declared.found.NoSizes.TheVariants.{Cause, TooLarge}
use Rattle.size_search.specs.Sized.{IsTooLarge}

abbrev pub IsDecided : Plan → SizesFound → Type 0
IsDecided plan (Found fit cert) = HasSizes plan × IsWithoutCause plan
IsDecided plan (NotFound (Cause cause)) = IsBeyondSizes plan
IsDecided plan (NotFound (TooLarge p)) = IsWithoutCause plan × IsTooLarge plan
