use Rattle.std.proofs.Common.{inl}
use Rattle.size_search.proofs.causes.is_unsteady.Goals as goal

pub returns-then-branch-clause-unsteady : goal.returns-then-branch-clause-unsteady
returns-then-branch-clause-unsteady c = λ _. inl (c.in_ok-loses_without_bound.ensures.loses c.if-branch.true)

pub returns-clause-steady : goal.returns-clause-steady
returns-clause-steady c = λ used. record {
  all_got = c.in_ok-loses_without_bound.ensures.none c.if-branch.false;
  none_waits = c.requires.none_waits;
  used = c.has_unused_get.ensures.used used;
}
