use Rattle.std.proofs.Common.{◌≡◌, ◌++◌, take, flat_map, string_bytes}
use Rattle.sizing_cli.specs.Learn as spec
use Rattle.sizing_cli.proofs.learn.push_comments.Given as goal

abbrev pub invariant-loop-finding : goal.invariant-loop-finding
invariant-loop-finding l = string_bytes l.text ≡ string_bytes l.initial.text ++ flat_map (spec.comment_line l.plan) (take l.finding-index l.findings)
