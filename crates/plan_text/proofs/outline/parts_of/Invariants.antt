use Rattle.std.proofs.Common.{◌≡◌, ◌++◌, drop}
use Rattle.plan_text.specs.Outline.{parts_from, parts_of}
use Rattle.plan_text.proofs.outline.parts_of.Given as goal

abbrev pub invariant-loop-token : goal.invariant-loop-token
invariant-loop-token l = record {
  rest : l.parts.items ++ parts_from l.line (drop l.token-index l.tokens) ≡ parts_of l.tokens;
}
