use Rattle.std.proofs.Common.{◌≡◌, ◌++◌, take, flat_map, string_bytes}
use Rattle.sizing_cli.specs.Learn as spec
use Rattle.sizing_cli.proofs.learn.push_rejection_comments.Given as goal

abbrev pub invariant-loop-of_pool : goal.invariant-loop-of_pool
invariant-loop-of_pool l = string_bytes l.text ≡ string_bytes l.initial.text ++ flat_map (spec.rejection_comment l.plan) (take l.of_pool-index l.rejections)
