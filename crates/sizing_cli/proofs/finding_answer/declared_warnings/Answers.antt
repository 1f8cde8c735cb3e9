use Rattle.sizing_cli.proofs.finding_answer.declared_warnings.Goals as goal

pub returns-clause-lints : goal.returns-clause-lints
returns-clause-lints c = rw (← c.in_ok-needed.ensures, ← c.deref.ensures.value) c.in_ok-warnings.ensures.lints
