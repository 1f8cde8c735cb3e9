-- If a cause holds, no certificate accepts the plan.
use Rattle.std.proofs.Common.{◌≡◌, false, refl}
use Rattle.std.proofs.lemmas.Bool.{false_from_ne_true}
use Rattle.job_bodies.specs.Plan.{Plan}
use Rattle.job_bodies.specs.WellFormed.{IsWellFormed}
use Rattle.cert_text.specs.Cert.{Cert}
use Rattle.soundness.specs.Accepted.{accepted}
use Rattle.size_search.specs.declared.cause.Cause.{Cause}
use Rattle.size_search.specs.declared.cause.Cause.TheVariants.{Circle, ClientNeverGets, ClassNeverGets, PoolWaitsForItself}
use Rattle.size_search.specs.Causes.{IsCause}
use Rattle.size_search.specs.NoSizesHelp.{IsBeyondSizes}
use Rattle.size_search.proofs.BeyondSizes.{no_sizes_help}

pub beyond : (plan : Plan) (cause : Cause) → IsCause plan cause → IsBeyondSizes plan
beyond plan (Circle k) holds = no_sizes_help.circle plan k holds
beyond plan (ClientNeverGets c i) holds = no_sizes_help.client_never_gets plan c i holds
beyond plan (ClassNeverGets k i) holds = no_sizes_help.class_never_gets plan k i holds
beyond plan (PoolWaitsForItself p) holds = no_sizes_help.pool_waits_for_itself plan p holds

pub refused_where_caused : (plan : Plan) (cause : Cause) (cert : Cert) → IsWellFormed plan → IsCause plan cause → accepted plan cert ≡ false
refused_where_caused plan cause cert well holds = false_from_ne_true (accepted plan cert) (beyond plan cause holds plan cert well refl)
