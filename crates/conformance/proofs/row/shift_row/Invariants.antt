use Rattle.std.proofs.Common.{◌≡◌, ℕ, ◌<◌, ◌≤◌, false, get_or}
use Rattle.conformance.proofs.Rows.{shifted}
use Rattle.conformance.proofs.row.shift_row.Given as goal

abbrev pub invariant-loop-index : goal.invariant-loop-index
invariant-loop-index l = record {
  before : l.before ≡ shifted l.initial.row l.body l.class l.index;
  done : (k : ℕ) → k < l.index → get_or l.row k false ≡ shifted l.initial.row l.body l.class k;
  later : (k : ℕ) → l.index ≤ k → get_or l.row k false ≡ get_or l.initial.row k false;
}
