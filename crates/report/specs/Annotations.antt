-- Annotations: remarks about places in a plan's file.
use Rattle.std.specs.Prelude.{◌≡◌, ℕ, List, ◌++◌, map, codes, decimal, Option, Result, OnOk, string_bytes}
use Rattle.plan_text.specs.declared.place.TextPlace.{TextPlace}
use Rattle.diagnostics.specs.declared.lint.Lint.{Lint}
use Rattle.diagnostics.specs.declared.lint.Lint.TheVariants as lint
use Rattle.report.specs.declared.annotation.Rule.{Rule}
use Rattle.report.specs.declared.annotation.Rule.TheVariants.{Fault, MoreFaults, Warning, Safe, NotSafe, NotDecided}
use Rattle.report.specs.declared.annotation.Annotation.{Annotation}

abbrev pub lint_name : Lint → List ℕ
lint_name lint.SafeAtCore = codes "safe-at-core"
lint_name (lint.SubmitsItself k) = codes "submits-itself"
lint_name (lint.NeverGot part number action) = codes "never-got"
lint_name (lint.PoolWaitsForItself p) = codes "pool-waits-for-itself"
lint_name lint.NothingToAsk = codes "nothing-to-ask"
lint_name lint.NoClients = codes "no-clients"
lint_name lint.NothingSubmitted = codes "nothing-submitted"
lint_name (lint.PoolWithoutJobs p) = codes "pool-without-jobs"
lint_name (lint.UselessMax p) = codes "useless-max"
lint_name (lint.UselessMayReject p most) = codes "useless-may-reject"
lint_name (lint.NeverRejects p) = codes "never-rejects"
lint_name (lint.QueueFarAbove p most) = codes "queue-far-above"
lint_name (lint.ClassWithoutJobs k) = codes "class-without-jobs"
lint_name (lint.RunInCaller k) = codes "run-in-caller"
lint_name (lint.GoesOnce c) = codes "goes-once"
lint_name (lint.Crowd c) = codes "crowd"
lint_name (lint.WorkLikeASize part number action units) = codes "work-like-a-size"
lint_name (lint.OpenFuture part number action) = codes "open-future"
lint_name (lint.QueueMayGrow part number action) = codes "queue-may-grow"
lint_name lint.StaleCertificate = codes "stale-certificate"

abbrev pub warning_name : Lint → List ℕ
warning_name l = codes "warning-" ++ lint_name l

-- the name of a rule
abbrev pub rule_name : Rule → List ℕ
rule_name (Fault number) = codes "fault-" ++ decimal number
rule_name MoreFaults = codes "more-faults"
rule_name (Warning l) = warning_name l
rule_name Safe = codes "safe"
rule_name NotSafe = codes "not-safe"
rule_name NotDecided = codes "not-decided"

-- an annotation: its rule, its message and its place
pub record Remark : Type 0 where
  pub rule : Rule
  pub message : List ℕ
  pub place : Option TextPlace

abbrev pub remark_of : Annotation → Remark
remark_of a = record { rule = a.rule; message = string_bytes a.message; place = a.place }

abbrev pub remarks_in : List Annotation → List Remark
remarks_in = map remark_of

-- if `result` is `Ok`, the list `new` is the list `old` with these remarks added at its end
abbrev pub Adds : {X E : Type 0} → Result X E → List Annotation → List Annotation → List Remark → Type 0
Adds result old new remarks = OnOk result (remarks_in new ≡ remarks_in old ++ remarks)
