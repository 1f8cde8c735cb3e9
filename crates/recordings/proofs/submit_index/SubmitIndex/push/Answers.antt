use Rattle.std.proofs.Common.{arith, sym, subst}
use mathlib.Core.Bool.{false≢true}
use Rattle.recordings.specs.SubmitIndex.{IsAscending}
use Rattle.recordings.proofs.SubmitIndex.{ascending_push}
use Rattle.recordings.proofs.submit_index.SubmitIndex.push.Goals as goal
use Rattle.recordings.proofs.submit_index.SubmitIndex.push.Goals.{then-self, else-self}

pub returns-clause-ordered : goal.returns-clause-ordered
returns-clause-ordered c = λ ascending. elim c.if-self.branch [
  | then-self w ↦ subst IsAscending (sym c.in_ok-push.ensures.items) (ascending_push _ _ _ (c.requires (grind (arith, w.if-self))) (w.is_above_all-ascending.ensures (grind (arith, w.ascending-is, ascending))))
  | else-self w ↦ absurd (false≢true (grind (arith, w.if-self, w.ascending-is, ascending)))
]
