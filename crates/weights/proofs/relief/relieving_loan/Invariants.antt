use Rattle.std.proofs.Common.{◌≡◌, ◌<◌, ◌≤◌, IfSome, length, vec_len}
use Rattle.weights.proofs.relief.relieving_loan.Given as goal

abbrev pub invariant-loop-pool : goal.invariant-loop-pool
invariant-loop-pool l =
    (length l.workers ≡ length l.initial.workers) ×
    (vec_len l.initial.sketch_cache.sketches ≤ vec_len l.sketch_cache.sketches) ×
    IfSome l.best (λ loan. loan.place < vec_len l.sketch_cache.sketches)
