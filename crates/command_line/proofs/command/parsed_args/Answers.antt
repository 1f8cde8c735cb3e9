use Rattle.std.proofs.Common.{◌∙◌, ap, ap₂}
use Rattle.command_line.specs.Command.{files_in, certificate_in}
use Rattle.command_line.proofs.command.parsed_args.Goals as goal

pub returns-clause-files : goal.returns-clause-files
returns-clause-files c = ap₂ (λ first second. (first, second)) c.text_of.ensures c.text_of-2.ensures ∙ ap files_in c.in_ok-options.ensures.rows

pub returns-clause-certificate : goal.returns-clause-certificate
returns-clause-certificate c = c.text_of-3.ensures ∙ ap certificate_in c.in_ok-options.ensures.rows
