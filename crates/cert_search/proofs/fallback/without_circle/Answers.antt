use Rattle.std.proofs.Common.{◌≡◌, false, rules}
use Rattle.std.proofs.lemmas.Bool.{false_from_ne_true, both_ways}
use Rattle.weights.specs.Vector.{has_small_numbers}
use Rattle.soundness.specs.Accepted.{accepted}
use Rattle.size_search.specs.Steady.{steady_vector, steady_cert}
use Rattle.size_search.proofs.WithoutPools.{small_where_accepted}
use Rattle.cert_search.proofs.fallback.without_circle.Goals as goal

pub returns-in-None-clause-none : goal.returns-in-None-clause-none
returns-in-None-clause-none c =
    let plan = c.args.plan.now in
    let heavy : has_small_numbers (steady_vector plan) ≡ false = search rules in
    false_from_ne_true (accepted plan (steady_cert plan)) (λ yes. both_ways (has_small_numbers (steady_vector plan)) heavy (small_where_accepted plan c.requires.well_formed yes))
