use Rattle.std.proofs.Common.{◌≤◌, Ok, Some, ap, ◌∙◌}
use Rattle.std.proofs.lemmas.Str.{is_utf8-from_IsUtf8, IsUtf8-string_bytes}
use Rattle.toml.specs.Data.{Members, members_depth}
use Rattle.toml.specs.View.{table_view}
use Rattle.job_bodies.specs.Plan.{Plan}
use Rattle.plan_text.proofs.EffectivePlans.{bounded_plan_is}
use Rattle.plan_text.proofs.SpelledPlan.{text_again}
use Rattle.plan_text.proofs.SpelledEntries.{document_depth}
use Rattle.plan_text.proofs.writer.write_plan.Goals as goal

pub returns-in-Ok-clause-reads_back : goal.returns-in-Ok-clause-reads_back
returns-in-Ok-clause-reads_back c short =
    let plan = c.args.plan.now in
    let document = c.in_ok-document.ensures.document in
    let shallow : members_depth (table_view c.in_ok-document.document) ≤ 80 = rw document (document_depth plan) in
    let parsed = c.in-Ok.ensures.reads_back shallow ∙ ap (λ (members : Members). Some members) document in
    text_again plan _ c.in_ok-document.ensures.well_formed (is_utf8-from_IsUtf8 _ (IsUtf8-string_bytes c.in-Ok.text)) short parsed

pub returns-in-Ok-clause-bounded_reads_back : goal.returns-in-Ok-clause-bounded_reads_back
returns-in-Ok-clause-bounded_reads_back c bounded short =
    returns-in-Ok-clause-reads_back c short ∙ ap (λ (plan : Plan). Ok plan) (bounded_plan_is c.args.plan.now bounded)
