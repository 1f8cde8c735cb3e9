use Rattle.std.proofs.Common.{◌≡◌, ℕ, ◌+◌, ◌<◌, false, ◌&&◌, ◌||◌, get_or}
use Rattle.conformance.proofs.row.close_row.Given as goal

abbrev pub invariant-loop-index : goal.invariant-loop-index
invariant-loop-index l = record {
  first : get_or l.row 0 false ≡ get_or l.initial.row 0 false;
  done : (k : ℕ) → k < l.index → get_or l.row (k + 1) false ≡ (get_or l.initial.row (k + 1) false || (get_or l.row k false && get_or l.passes k false));
  later : (k : ℕ) → l.index < k → get_or l.row k false ≡ get_or l.initial.row k false;
}
