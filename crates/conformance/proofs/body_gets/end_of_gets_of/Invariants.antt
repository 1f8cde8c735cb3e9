use Rattle.std.proofs.Common.{◌≡◌, ℕ, ◌-◌, ◌<◌, ◌≤◌, true, false, None, get_or}
use Rattle.conformance.specs.BodyGets.{is_get_of}
use Rattle.conformance.proofs.body_gets.end_of_gets_of.Given as goal

abbrev pub invariant-loop-index : goal.invariant-loop-index
invariant-loop-index l = record {
  bound : l.end ≤ l.index;
  last : 0 < l.end → is_get_of l.class (get_or l.gets (l.end - 1) None) ≡ true;
  none_later : (k : ℕ) → l.end ≤ k → k < l.index → is_get_of l.class (get_or l.gets k None) ≡ false;
}
