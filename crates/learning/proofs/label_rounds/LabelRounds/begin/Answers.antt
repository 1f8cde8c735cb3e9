use Rattle.std.proofs.Common.{◌≡◌, ◌∙◌, ℕ, ◌+◌, ◌==◌, if◌then◌else◌, length, ap, sym, subst, inl, Some, slice_get, map, string_bytes, arith}
use Rattle.std.proofs.lemmas.List.{with_items_is}
use Rattle.support.specs.Numbered.{value_at}
use Rattle.learning.specs.LearningState.{ChangesOne, with_begin}
use Rattle.learning.specs.LabelRounds.{labels_of}
use Rattle.learning.proofs.LabelRounds.{begun_after}
use Rattle.learning.proofs.label_rounds.LabelRounds.begin.Goals as goal

pub returns-clause-ok : goal.returns-clause-ok
returns-clause-ok c = λ before rounds.
    let self = c.args.self.now in
    let pushed = c.push.new.self in
    let kind = c.in_ok-kind.kind in
    let label = c.args.label.now in
    let new = c.count_begin.new.counts in
    let long : length new ≡ pushed.counts.len = grind (arith, c.in_ok-count_begin.ensures.count, c.deref_mut.ensures.value, c.deref_mut.ensures.len, pushed.counts.ok) in
    let counts : pushed.counts ≡ self.counts = c.in_ok-push.ensures.counts ∙ c.in_ok-kind.ensures.counts in
    let one = subst (λ items. ChangesOne (Some kind) with_begin self.counts.items items) (sym (with_items_is pushed.counts new long))
    (subst (λ items. ChangesOne (Some kind) with_begin items new) (c.deref_mut.ensures.value ∙ ap (λ counts. counts.items) counts) c.in_ok-count_begin.ensures.one) in
    let numbered = c.number_of.new.self in
    let begun : pushed.begun ≡ self.begun + 1 = c.in_ok-push.ensures.begun ∙ ap (λ (n : ℕ). n + 1) c.in_ok-kind.ensures.begun in
    let open_labels : (round : ℕ) → value_at pushed.open_labels round ≡ (if self.begun == round then Some kind else value_at self.open_labels round) =
    λ round. rw (c.in_ok-kind.ensures.begun, c.in_ok-kind.ensures.open_labels) at c.in_ok-push.ensures.open_labels round in
    let same : labels_of pushed ≡ labels_of numbered = ap (λ labels. map string_bytes labels.items) c.in_ok-push.ensures.labels in
    let more = c.in_ok-kind.ensures.labels in
    let at : slice_get (labels_of pushed) kind ≡ Some label = ap (λ labels. slice_get labels kind) same ∙ c.in_ok-kind.ensures.number in
    let is : c.args.round ≡ self.begun = grind (arith, c.if-round-self.false) in
    begun_after self _ kind c.args.round label more.0 before is begun open_labels (same ∙ more.1) at one rounds

pub returns-then-round-self-clause-err : goal.returns-then-round-self-clause-err
returns-then-round-self-clause-err c = λ lines begun. (c.args.label.now, inl begun)
