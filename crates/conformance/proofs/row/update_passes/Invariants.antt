use Rattle.std.proofs.Common.{◌≡◌, ℕ, ◌<◌, ◌≤◌, false, None, get_or}
use Rattle.conformance.specs.BodyGets.{pass_after}
use Rattle.conformance.proofs.row.update_passes.Given as goal

abbrev pub invariant-loop-index : goal.invariant-loop-index
invariant-loop-index l = record {
  done : (k : ℕ) → k < l.index → get_or l.passes k false ≡ pass_after l.class l.count (get_or l.gets k None) (get_or l.initial.passes k false);
  later : (k : ℕ) → l.index ≤ k → get_or l.passes k false ≡ get_or l.initial.passes k false;
}
