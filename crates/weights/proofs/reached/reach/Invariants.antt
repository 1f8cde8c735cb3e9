use Rattle.std.proofs.Common.{◌≡◌, vec_len}
use Rattle.weights.proofs.reached.reach.Given as goal

abbrev pub invariant-loop-number : goal.invariant-loop-number
invariant-loop-number l = vec_len l.reach ≡ vec_len l.initial.reach
