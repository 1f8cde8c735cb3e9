use Rattle.std.proofs.Common.{◌≡◌, ◌++◌, drop}
use Rattle.plan_text.specs.Tokens.{tokens_from, tokens_of}
use Rattle.plan_text.proofs.tokens.tokens_of.Given as goal

abbrev pub invariant-loop-offset : goal.invariant-loop-offset
invariant-loop-offset l = record {
  rest : l.tokens.items ++ tokens_from l.state l.offset (drop l.offset l.text) ≡ tokens_of l.text;
}
