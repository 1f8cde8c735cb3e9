-- Warnings about a plan as JSON.
use Rattle.std.specs.Prelude.{ℕ, List, map, codes, string_bytes, Some}
use Rattle.serde_json.specs.Data.{Data, string, array, object, member, no_members}
use Rattle.serde_json.specs.View.{items_of}
use Rattle.diagnostics.specs.declared.lint.Lint.{Lint}
use Rattle.diagnostics.specs.declared.lint.Lint.TheVariants.{SafeAtCore, SubmitsItself, NeverGot, PoolWaitsForItself, NothingToAsk, NoClients, NothingSubmitted, PoolWithoutJobs, UselessMax, UselessMayReject, NeverRejects, QueueFarAbove, ClassWithoutJobs, RunInCaller, GoesOnce, Crowd, WorkLikeASize, OpenFuture, QueueMayGrow, StaleCertificate}
use Rattle.diagnostics.specs.declared.warnings.Warning.{Warning}
use Rattle.report.specs.JsonPlaces.{line_data, column_data}

-- the name of a lint's kind
abbrev pub kind_of : Lint → List ℕ
kind_of SafeAtCore = codes "safe at core"
kind_of (SubmitsItself k) = codes "submits itself"
kind_of (NeverGot of number action) = codes "never got"
kind_of (PoolWaitsForItself p) = codes "pool waits for itself"
kind_of NothingToAsk = codes "nothing to ask"
kind_of NoClients = codes "no clients"
kind_of NothingSubmitted = codes "nothing submitted"
kind_of (PoolWithoutJobs p) = codes "pool without jobs"
kind_of (UselessMax p) = codes "useless max"
kind_of (UselessMayReject p most) = codes "useless may reject"
kind_of (NeverRejects p) = codes "never rejects"
kind_of (QueueFarAbove p most) = codes "queue far above"
kind_of (ClassWithoutJobs k) = codes "class without jobs"
kind_of (RunInCaller k) = codes "run in caller"
kind_of (GoesOnce c) = codes "goes once"
kind_of (Crowd c) = codes "crowd"
kind_of (WorkLikeASize of number place units) = codes "work like a size"
kind_of (OpenFuture of number action) = codes "open future"
kind_of (QueueMayGrow of number action) = codes "queue may grow"
kind_of StaleCertificate = codes "stale certificate"

unfoldable pub warning_data : Warning → Data
warning_data warning =
    object (member (codes "column") (column_data (Some warning.place))
    (member (codes "kind") (string (kind_of warning.lint))
    (member (codes "line") (line_data (Some warning.place))
    (member (codes "text") (string (string_bytes warning.what)) no_members))))

abbrev pub warnings_data : List Warning → Data
warnings_data warnings = array (items_of (map warning_data warnings))
