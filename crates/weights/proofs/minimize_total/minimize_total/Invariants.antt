use Rattle.std.proofs.Common.{◌≡◌, ◌<◌, vec_len}
use Rattle.weights.proofs.minimize_total.minimize_total.Given as goal

abbrev pub invariant-loop : goal.invariant-loop
invariant-loop l =
    (vec_len l.workers ≡ vec_len l.initial.workers) ×
    (l.place < vec_len l.sketch_cache.sketches)
