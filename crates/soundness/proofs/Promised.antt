-- All guarantees of an accepted certificate.
use Rattle.std.proofs.Common.{IsTrue}
use Rattle.job_bodies.specs.Plan.{Plan}
use Rattle.job_bodies.specs.WellFormed.{IsWellFormed}
use Rattle.cert_text.specs.Cert.{Cert}
use Rattle.soundness.specs.Accepted.{accepted}
use Rattle.soundness.specs.Headline.{Promises}
use Rattle.soundness.proofs.Theorem.{safe, makes_progress_everywhere, drains}
use Rattle.soundness.proofs.JavaTheorem.{accepted_plans_are_java_safe, accepted_plans_make_java_progress}
use Rattle.soundness.proofs.JavaDrains.{accepted_plans_java_drain}
use Rattle.soundness.proofs.Skipping.{accepted_plans_may_skip, accepted_plans_make_progress_with_skips}
use Rattle.soundness.proofs.SkippingDrains.{accepted_plans_drain_with_skips}
use Rattle.soundness.proofs.NeverRejects.{accepted_bounds_never_reject, accepted_bounds_never_decline}

pub promises : (plan : Plan) (cert : Cert) → IsWellFormed plan → IsTrue (accepted plan cert) → Promises plan cert
promises plan cert well_formed is_accepted = record {
  safe = safe plan cert well_formed is_accepted;
  makes_progress = makes_progress_everywhere plan cert well_formed is_accepted;
  drains = drains plan cert well_formed is_accepted;
  java_safe = accepted_plans_are_java_safe plan cert well_formed is_accepted;
  java_makes_progress = accepted_plans_make_java_progress plan cert well_formed is_accepted;
  java_drains = accepted_plans_java_drain plan cert well_formed is_accepted;
  skipping_is_safe = accepted_plans_may_skip plan cert well_formed is_accepted;
  skipping_makes_progress = accepted_plans_make_progress_with_skips plan cert well_formed is_accepted;
  skipping_drains = accepted_plans_drain_with_skips plan cert well_formed is_accepted;
  bounded_pools_never_reject = accepted_bounds_never_reject plan cert well_formed is_accepted;
  bounded_pools_never_decline = accepted_bounds_never_decline plan cert well_formed is_accepted;
}
