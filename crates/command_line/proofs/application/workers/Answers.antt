use Rattle.std.proofs.Common.{rules, arith}
use Rattle.std.proofs.lemmas.Fmt.{decimal_digit}
use Rattle.job_bodies.specs.declared.limits.TheConstants.{DEFAULT_WORKERS}
use Rattle.command_line.proofs.application.workers.Goals as goal

pub returns-clause-rule : goal.returns-clause-rule
returns-clause-rule c = rw (decimal_digit DEFAULT_WORKERS (omega arith)) (search rules)
