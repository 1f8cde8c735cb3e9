use Rattle.std.proofs.Common.{◌≡◌}
use Rattle.std.specs.Borrow.{Bor}
use Rattle.support.proofs.ReadingEach.{ReadPrefix}
use Rattle.support.proofs.each.read_each.Given as goal

abbrev pub invariant-loop-place : goal.invariant-loop-place
invariant-loop-place g l = ReadPrefix (λ place x given. (element : Bor _) × (element.now ≡ x) × goal.R-post g l.read place element given) l.elements l.place l.given.items
