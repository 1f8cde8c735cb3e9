use Rattle.std.proofs.Common.{rules, ◌≡◌, false, map, ap, ◌∙◌, sym}
use Rattle.job_bodies.specs.WellFormed.{IsWellFormed}
use Rattle.job_bodies.proofs.Bodies.{ordered}
use Rattle.weights.specs.Vector.{vector_fits}
use Rattle.size_search.specs.Steady.{pool_of, steady_vector, steady_ranks}
use Rattle.size_search.proofs.RowSteps.{cert_from, heavy_unless_fit}
use Rattle.size_search.proofs.certificate.steady.Goals as goal

pub returns-then-not-fits-clause-heavy : goal.returns-then-not-fits-clause-heavy
returns-then-not-fits-clause-heavy c =
    let plan = c.args.plan.now in
    let is : c.in-Some.vector ≡ steady_vector plan = search rules in
    let unfit : vector_fits plan c.in-Some.vector ≡ false = search rules in
    let well : IsWellFormed plan = c.steady_levels.ensures.well_formed in
    heavy_unless_fit plan (ordered plan well) c.requires (sym (ap (vector_fits plan) is) ∙ unfit)

pub returns-clause-cert : goal.returns-clause-cert
returns-clause-cert c =
    let plan = c.args.plan.now in
    let v = c.in-Some.vector in
    let is : v ≡ steady_vector plan = search rules in
    let pools : c.in_ok-pools.pools.items ≡ map (pool_of v) plan.pools = c.in_ok-pools.ensures in
    let ranks : c.in_ok-ranks.ranks ≡ steady_ranks plan = c.in_ok-ranks.ensures in
    cert_from plan v c.in_ok-pools.pools.items c.in_ok-ranks.ranks is pools ranks
