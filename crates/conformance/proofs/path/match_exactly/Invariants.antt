use Rattle.conformance.specs.WalkStates.{AreStatesAt, HasState}
use Rattle.conformance.proofs.path.match_exactly.Given as goal

abbrev pub invariant-loop-place : goal.invariant-loop-place
invariant-loop-place l = record {
  are : AreStatesAt l.kind l.body l.path l.place l.states.items;
  some : HasState l.states.items;
}
