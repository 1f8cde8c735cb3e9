use Rattle.std.proofs.Common.{sym, ◌∙◌}
use Rattle.conformance.specs.Lines.{lines_of}
use Rattle.conformance.proofs.NoRefusals.{no_rejections}
use Rattle.conformance.proofs.rejections.rejections_in.Goals as goal

pub returns-then-is_empty : goal.returns-then-is_empty
returns-then-is_empty c =
    let lines = lines_of c.args.recording.now in
    no_rejections c.args.plan.now lines _ (λ job. sym (c.in_ok-refused.ensures job) ∙ c.is_empty.ensures c.if-is_empty.true job) (c.new.ensures c.args.plan.now lines)
