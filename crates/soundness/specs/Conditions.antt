-- All conditions of a certificate, in order.
use Rattle.std.specs.Prelude.{ℕ, nat_lt, List, [], ◌++◌, map, filter, Option, Some, None}
use Rattle.std.specs.List.{flat_map, enumerate_from}
use Rattle.job_bodies.specs.Plan.{Plan}
use Rattle.weights.specs.declared.bound.Bound.{Bound}
use Rattle.weights.specs.declared.bound.Bound.TheVariants.{Standing, Lifetime}
use Rattle.weights.specs.declared.row.Row.{Row}
use Rattle.weights.specs.Bound.{bound_rows}
use Rattle.weights.specs.Blocked.{blocked_rows}
use Rattle.weights.specs.Ranks.{is_counted, rank_rows}
use Rattle.cert_text.specs.Cert.{Cert, pool_cert_at}
use Rattle.soundness.specs.declared.note.Section.{Section}
use Rattle.soundness.specs.declared.note.Section.TheVariants as section
use Rattle.soundness.specs.declared.note.Note.{Note}

-- the condition that a row states, with the section of the certificate to which the row belongs
abbrev pub note : Section → Row → Note
note section row = record { section = section; place = row.place; rule = row.rule; left = row.left; right = row.right }

-- the conditions that the rows state, each in this section of the certificate
abbrev pub in_section : Section → List Row → List Note
in_section section rows = map (note section) rows

-- the section for the bound of pool p: its standing vector or its lifetime vector
abbrev pub bound_section : ℕ → Bound → Section
bound_section p (Standing v) = section.Standing p
bound_section p (Lifetime v) = section.Lifetime p

-- the conditions of the bound of pool p; there are none if the pool has no bound
abbrev pub bound_conditions : Plan → ℕ → Option Bound → List Note
bound_conditions plan p None = []
bound_conditions plan p (Some bound) = in_section (bound_section p bound) (bound_rows plan p bound)

-- the conditions of pool p: the conditions of its bound, and then the conditions of its blocked vector
abbrev pub pool_conditions : Plan → Cert → ℕ → List Note
pool_conditions plan cert p =
    bound_conditions plan p (pool_cert_at cert p).bound
    ++ in_section (section.Blocked p) (blocked_rows plan p (is_counted plan cert.ranks) (pool_cert_at cert p).blocked)

-- all conditions of the certificate: the conditions of the ranks, and then the conditions of each pool
abbrev pub conditions : Plan → Cert → List Note
conditions plan cert =
    in_section section.Ranks (rank_rows plan cert.ranks)
    ++ flat_map (λ entry. pool_conditions plan cert entry.0) (enumerate_from 0 plan.pools)

-- the conditions that fail: those in which `left` is greater than `right`
abbrev pub failing : Plan → Cert → List Note
failing plan cert = filter (λ x. nat_lt x.right x.left) (conditions plan cert)
