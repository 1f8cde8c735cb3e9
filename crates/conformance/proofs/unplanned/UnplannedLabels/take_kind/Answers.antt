use Rattle.std.proofs.Common.{ap, sym, ◌∙◌, inl, inr, refl, is_some}
use Rattle.conformance.specs.UnplannedLabels.{kind_stays, kind_added}
use Rattle.conformance.proofs.UnplannedAfter.{filled, emptied}
use Rattle.conformance.proofs.unplanned.UnplannedLabels.take_kind.Goals as goal

pub returns-then-contains : goal.returns-then-contains
returns-then-contains c = kind_stays (inl (sym c.contains.ensures ∙ c.if-contains.true)) refl

pub returns-then-is_some : goal.returns-then-is_some
returns-then-is_some c = kind_stays (inr (filled _ (ap is_some (sym c.first_client.ensures) ∙ (sym c.is_some.ensures ∙ c.if-is_some.true)))) refl

pub returns : goal.returns
returns c = kind_added (sym c.contains.ensures ∙ c.if-contains.false) c.in_ok-label.label c.in_ok-label.ensures.ok (emptied _ (ap is_some (sym c.first_client.ensures) ∙ (sym c.is_some.ensures ∙ c.if-is_some.false))) c.in_ok-push.ensures.items c.in_ok-insert.ensures refl
