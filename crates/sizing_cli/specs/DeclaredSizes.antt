-- The comparison of sizes that a search found with the declared ones.
use Rattle.std.specs.Prelude.{IsTrue}
use Rattle.job_bodies.specs.Plan.{Plan}
use Rattle.soundness.specs.Accepted.{accepted}
use Rattle.report.specs.Finding.{IsOpen}
use Rattle.sizing_cli.specs.declared.certificate.SizesComparison.{SizesComparison}
use Rattle.sizing_cli.specs.declared.certificate.SizesComparison.TheVariants.{Accepted, Other}

-- The comparison is true of the plan. If it is `Accepted`, its certificate accepts the plan with the declared sizes. If it is
-- `Other`, a search found no sizes or other sizes than the declared ones (`IsOpen`).
abbrev pub IsComparison : Plan → SizesComparison → Type 0
IsComparison plan (Accepted cert) = IsTrue (accepted plan cert)
IsComparison plan (Other sizes) = IsOpen plan sizes
