use Rattle.std.proofs.Common.{◌||◌, ℕ, List, ap, sym, ◌∙◌, inl, inr, refl, is_some}
use Rattle.std.specs.Str.{bytes_eq}
use Rattle.conformance.specs.LabelSet.{has_label}
use Rattle.conformance.specs.UnplannedLabels.{class_stays, class_added}
use Rattle.conformance.proofs.UnplannedAfter.{filled, emptied}
use Rattle.conformance.proofs.unplanned.UnplannedLabels.take_class.Goals as goal

pub returns-then-contains : goal.returns-then-contains
returns-then-contains c = class_stays (inl (ap (has_label c.args.self.now.classes) (sym c.in_ok-label.ensures ∙ sym c.deref.ensures) ∙ (sym c.contains.ensures ∙ c.if-contains.true))) refl

pub returns-then-is_some : goal.returns-then-is_some
returns-then-is_some c = class_stays (inr (filled _ (ap is_some (sym c.first_class.ensures) ∙ (sym c.is_some.ensures ∙ c.if-is_some.true)))) refl

pub returns : goal.returns
returns c = class_added (ap (has_label c.args.self.now.classes) (sym c.in_ok-label.ensures ∙ sym c.deref.ensures) ∙ (sym c.contains.ensures ∙ c.if-contains.false)) c.in_ok-class.class c.in_ok-pool.pool c.in_ok-class.ensures.ok c.in_ok-pool.ensures.ok (emptied _ (ap is_some (sym c.first_class.ensures) ∙ (sym c.is_some.ensures ∙ c.if-is_some.false))) c.in_ok-push.ensures.items (λ q. c.in_ok-insert.ensures q ∙ ap (λ (t : List ℕ). has_label c.args.self.now.classes q || bytes_eq t q) (c.deref-2.ensures ∙ c.in_ok-label.ensures)) refl
