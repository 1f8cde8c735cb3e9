use Rattle.std.proofs.Common.{◌≡◌, ap, subst, ◌∙◌, map}
use Rattle.std.specs.Prelude.{IfOk, IfSome, option_map}
use Rattle.command_line.specs.Command.{certificate_among, certificate_of_cli, command_among, files_among, files_of_cli}
use Rattle.command_line.proofs.ApplicationLemmas.{fails_by_clap, fails_by_refusal, no_fault, rows_of_parse}
use Rattle.command_line.proofs.command.read_words.Goals as goal

pub returns-in_err-matches-clause-fails : goal.returns-in_err-matches-clause-fails
returns-in_err-matches-clause-fails c =
    fails_by_clap _ _ _ c.from_residual-in_err-matches.result c.in_ok-sizing.ensures c.in_err-matches.ensures.kinds c.from_residual-in_err-matches.ensures.1

pub returns-clause-fails : goal.returns-clause-fails
returns-clause-fails c =
    fails_by_refusal (map (λ word. word.now) c.args.words.now) _ c.accepted_args.result (no_fault _ _ c.in_ok-sizing.ensures c.in_ok-matches.ensures.kinds)
    (rows_of_parse _ _ _ c.in_ok-sizing.ensures c.in_ok-matches.ensures.ok.2) c.accepted_args.ensures.fails

pub returns-clause-command : goal.returns-clause-command
returns-clause-command c =
    subst (λ rows. IfOk c.accepted_args.result (λ found. option_map (λ cli. cli.command) found ≡ command_among rows)) (rows_of_parse _ _ _ c.in_ok-sizing.ensures c.in_ok-matches.ensures.ok.2) c.accepted_args.ensures.command

pub returns-clause-files : goal.returns-clause-files
returns-clause-files c =
    subst (λ rows. IfOk c.accepted_args.result (λ found. IfSome found (λ cli. files_of_cli cli ≡ files_among rows))) (rows_of_parse _ _ _ c.in_ok-sizing.ensures c.in_ok-matches.ensures.ok.2) c.accepted_args.ensures.files

pub returns-clause-certificate : goal.returns-clause-certificate
returns-clause-certificate c =
    subst (λ rows. IfOk c.accepted_args.result (λ found. IfSome found (λ cli. certificate_of_cli cli ≡ certificate_among rows))) (rows_of_parse _ _ _ c.in_ok-sizing.ensures c.in_ok-matches.ensures.ok.2) c.accepted_args.ensures.certificate
