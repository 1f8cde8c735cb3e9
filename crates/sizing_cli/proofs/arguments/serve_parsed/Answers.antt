use Rattle.sizing_cli.specs.declared.fault.CliError.TheVariants.{Serve}
use Rattle.sizing_cli.proofs.Failed.{failed_with}
use Rattle.sizing_cli.proofs.ReadParts.{before_read, left_read, safe_read, wrote_read}
use Rattle.sizing_cli.proofs.arguments.serve_parsed.Goals as goal

pub returns-in_err-write_answer-clause-before : goal.returns-in_err-write_answer-clause-before
returns-in_err-write_answer-clause-before g c =
    let fault = c.in_err-write_answer.field-0.0 in
    let serves = rw c.display_name-plan_name.ensures at c.in_err-write_answer.ensures.serves in
    failed_with _ (Serve fault) _ c.from_residual-in_err-write_answer.ensures.1
    (before_read _ c.args.cli.command _ c.in_ok-text.text.items fault _ _ c.in_ok-text.ensures.text serves.prefix)

pub returns-clause-answered : goal.returns-clause-answered
returns-clause-answered g c =
    let serves = rw c.display_name-plan_name.ensures at c.in_ok-write_answer.ensures.serves in
    wrote_read _ c.args.cli.command _ c.in_ok-text.text.items _ _ _ c.in_ok-text.ensures.text serves.answered

pub returns-clause-safe : goal.returns-clause-safe
returns-clause-safe g c =
    let serves = c.in_ok-write_answer.ensures.serves in
    safe_read _ c.args.cli.command _ c.in_ok-text.text.items _ _ _ c.in_ok-text.ensures.text serves.answered

pub returns-clause-left : goal.returns-clause-left
returns-clause-left g c =
    let left = rw c.display_name-plan_name.ensures at c.in_ok-write_answer.ensures.left in
    left_read _ c.args.cli.command _ c.in_ok-text.text.items _ _ _ _ c.in_ok-text.ensures.text left
