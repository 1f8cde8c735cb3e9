use Rattle.std.proofs.Common.{rules, ◌≡◌, ◌∙◌, Option, ap₂, sym}
use Rattle.job_bodies.specs.Plan.{needs_no_bound}
use Rattle.weights.specs.declared.bound.Bound.{Bound}
use Rattle.weights.specs.Vector.{Vector}
use Rattle.cert_text.specs.Cert.{PoolCert}
use Rattle.size_search.specs.Steady.{bound_of, blocked_of}
use Rattle.size_search.proofs.Fitting.{part_where_small}
use Rattle.size_search.proofs.certificate.pool_of.Goals as goal

abbrev of_parts : Option Bound → Vector → PoolCert
of_parts bound blocked = record { bound = bound; blocked = blocked }

pub returns : goal.returns
returns c =
    let v = c.args.vector.now in
    let pool = c.args.pool.now in
    let bound : c.in_ok-bound.bound ≡ bound_of v (needs_no_bound pool) = search rules in
    let blocked : c.in_ok-blocked.blocked ≡ blocked_of v pool.core_timeout = search rules in
    ap₂ of_parts bound blocked ∙ sym (part_where_small v pool c.requires)
