use Rattle.std.proofs.Common.{rules}
use Rattle.support.proofs.ReadingEach.{gives_each}
use Rattle.plan_text.specs.Bodies as spec
use Rattle.plan_text.proofs.bodies.clients_of.Goals as goal

pub returns : goal.returns
returns c = gives_each _ (spec.client_of c.args.names.now) (λ index entry given h. search rules) _ _ c.read_each.ensures
