use Rattle.std.proofs.Common.{◌+◌, Some, None}
use Rattle.std.proofs.lemmas.List.{take_rest}
use Rattle.recordings.proofs.LineByLine.{newline_found, whole_more, whole_none}
use Rattle.sizing_cli.proofs.line_ends.split_line.Goals as goal

pub returns-in_err-newline : goal.returns-in_err-newline
returns-in_err-newline c =
    let text = c.args.text.now in
    rw c.from_residual.ensures (whole_none text (newline_found text None c.in_err-newline.ensures))

pub returns : goal.returns
returns c =
    let text = c.args.text.now in
    let newline = c.in_ok-newline.newline in
    rw (take_rest text (newline + 1)) (whole_more text newline (newline_found text (Some newline) c.in_ok-newline.ensures))
