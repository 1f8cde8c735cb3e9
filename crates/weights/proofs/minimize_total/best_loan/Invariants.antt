use Rattle.std.proofs.Common.{◌≡◌, ◌<◌, ◌≤◌, IfSome, length, vec_len}
use Rattle.weights.proofs.minimize_total.best_loan.Given as goal

abbrev pub invariant-loop-number : goal.invariant-loop-number
invariant-loop-number l =
    (length l.workers ≡ length l.initial.workers) ×
    (vec_len l.initial.sketch_cache.sketches ≤ vec_len l.sketch_cache.sketches) ×
    IfSome l.best (λ loan. loan.place < vec_len l.sketch_cache.sketches)
