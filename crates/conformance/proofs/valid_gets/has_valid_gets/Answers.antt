use Rattle.std.proofs.Common.{refl, arith}
use Rattle.conformance.proofs.ValidGetsByIndex.{lawful_gets, lawful_at}
use Rattle.conformance.proofs.valid_gets.has_valid_gets.Goals as goal

pub returns : goal.returns
returns c = (λ yes. lawful_gets c.args.body.now (λ position l. c.loop-position.invariant position (omega arith)), λ valid_gets. refl)

pub returns-then-not-is_valid_at : goal.returns-then-not-is_valid_at
returns-then-not-is_valid_at c = (λ no. cc, λ valid_gets. let yes = lawful_at c.args.body.now c.loop-position.position valid_gets in cc)
