use Rattle.std.proofs.Common.{◌≡◌, ℕ, ◌<◌, ◌≤◌, false, ◌||◌, get_or}
use Rattle.conformance.proofs.row.add_row.Given as goal

abbrev pub invariant-loop-index : goal.invariant-loop-index
invariant-loop-index l = record {
  done : (k : ℕ) → k < l.index → get_or l.row k false ≡ (get_or l.initial.row k false || get_or l.other k false);
  later : (k : ℕ) → l.index ≤ k → get_or l.row k false ≡ get_or l.initial.row k false;
}
