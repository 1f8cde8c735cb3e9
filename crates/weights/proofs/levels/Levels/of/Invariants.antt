use Rattle.std.proofs.Common.{◌≡◌, vec_len}
use Rattle.weights.proofs.levels.Levels.of.Given as goal

abbrev pub invariant-loop-level : goal.invariant-loop-level
invariant-loop-level l = vec_len l.levels.of_classes ≡ vec_len l.initial.levels.of_classes
