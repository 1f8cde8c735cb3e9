use Rattle.std.specs.Prelude.{IfSome}
use Rattle.learning.specs.Covers.{IsCovering}
use Rattle.learning.proofs.cover.best_candidate.Given as goal

abbrev pub invariant-loop-number : goal.invariant-loop-number
invariant-loop-number l = IfSome l.best (λ body. IsCovering l.kind body.items l.paths)
