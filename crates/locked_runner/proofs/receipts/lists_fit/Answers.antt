use Rattle.std.proofs.Common.{map, arith}
use Rattle.std.proofs.lemmas.Bool.{false≢true}
use Rattle.std.proofs.lemmas.List.{length-map}
use Rattle.locked_runner.proofs.Received.{as_many}
use Rattle.locked_runner.proofs.receipts.lists_fit.Goals as goal

pub returns-then-of_lists-lists : goal.returns-then-of_lists-lists
returns-then-of_lists-lists c = (
  λ fits. absurd (false≢true fits),
  λ fit.
      let many = as_many c.args.plan.now c.args.history.now c.args.of_lists.now (map (λ list. list.items) c.args.lists.now) fit in
      absurd (omega (arith, many, length-map c.args.lists.now (λ list. list.items))),
)
