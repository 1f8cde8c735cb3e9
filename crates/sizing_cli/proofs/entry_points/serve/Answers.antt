use Rattle.std.proofs.Common.{codes, arith}
use Rattle.sizing_cli.proofs.ReadParts.{serves_whole}
use Rattle.sizing_cli.proofs.entry_points.serve.Goals as goal

pub returns : goal.returns
returns g c =
    let read = c.in_ok-input.ensures in
    serves_whole c.args.command (codes "<stdin>") c.in_ok-input.input.items _ _ _ (rw c.most_bytes.ensures at read.front) (rw c.most_bytes.ensures at read.at_most) (omega (arith, read.failed)) c.write_answer.ensures.serves
