use Rattle.std.proofs.Common.{◌≡◌, vec_len}
use Rattle.weights.proofs.levels.Levels.add_level.Given as goal

abbrev pub invariant-loop-number : goal.invariant-loop-number
invariant-loop-number l = vec_len l.self.of_classes ≡ vec_len l.initial.self.of_classes
