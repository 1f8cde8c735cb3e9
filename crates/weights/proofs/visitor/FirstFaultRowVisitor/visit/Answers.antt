use Rattle.std.proofs.Common.{◌≡◌, false, sym, ◌∙◌}
use Rattle.weights.specs.Row.{fails}
use Rattle.weights.proofs.FirstFailing.{passing_row_extends, found_already, found_now}
use Rattle.weights.proofs.visitor.FirstFaultRowVisitor.visit.Goals as goal
use Rattle.weights.proofs.visitor.FirstFaultRowVisitor.visit.Goals.{else-fails-via-then-fails+else-is_none, else-fails-via-else-fails}

pub returns-then-is_none : goal.returns-then-is_none
returns-then-is_none c =
    let wrong = sym c.fails.ensures ∙ c.if-fails.true in
    record { extends = λ before seen. found_now before c.args.row c.args.self.now.found c.if-is_none.ensures wrong seen }

pub returns-else-fails : goal.returns-else-fails
returns-else-fails c = elim c.else-fails.branch [
  | else-fails-via-then-fails+else-is_none w ↦
      record { extends = λ before seen. found_already before c.args.row c.args.self.now.found w.if-is_none.ensures seen }
  | else-fails-via-else-fails w ↦
      let holds : fails c.args.row ≡ false = sym c.fails.ensures ∙ w.if-fails.false in
      record { extends = λ before seen. seen ∙ sym (passing_row_extends before c.args.row holds) }
]
