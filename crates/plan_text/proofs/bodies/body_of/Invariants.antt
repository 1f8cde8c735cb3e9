use Rattle.std.proofs.Common.{◌≡◌, List, ℕ, map, take}
use Rattle.support.proofs.Loops.{Reads}
use Rattle.plan_text.specs.Bodies.{action_among}
use Rattle.plan_text.specs.Slots.{position_in, filled}
use Rattle.plan_text.proofs.bodies.body_of.Given as goal

abbrev pub invariant-loop-position : goal.invariant-loop-position
invariant-loop-position l = record {
  slots : (slot : List ℕ) → position_in l.slots slot ≡ filled (take l.position (map (λ text. text.now) l.texts)) slot;
  actions : Reads (action_among l.classes l.part l.index (map (λ text. text.now) l.texts)) (map (λ text. text.now) l.texts) l.position l.body.items;
}
