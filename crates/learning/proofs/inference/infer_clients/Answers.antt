use Rattle.std.proofs.Common.{◌≡◌, ◌∙◌, ◌++◌, [], ap, sym, subst, append-nil, slice_get}
use Rattle.std.specs.List.{All}
use Rattle.learning.specs.Counts.{AreOfKinds, Kinds}
use Rattle.learning.specs.declared.inference_limit.InferenceLimit.TheVariants.{Kinds as KindsReason}
use Rattle.learning.specs.LearningState.{AreCountsOf, IsEntryOf, kinds_in, names_of}
use Rattle.learning.specs.LabelRounds.{labels_of}
use Rattle.learning.specs.InferenceResult.{lines_of}
use Rattle.learning.proofs.LabelEntries.{entered_actors, still_stops}
use Rattle.learning.proofs.inference.infer_clients.Goals as goal

pub returns-then-are_of-clause-counts : goal.returns-then-are_of-clause-counts
returns-then-are_of-clause-counts c = λ rounds.
    let lines = lines_of c.args.recording.now in
    let labels = labels_of c.args.names.now.label_rounds in
    let kinds : Kinds = slice_get (rounds.kinds ++ []) in
    let named : labels ++ [] ≡ names_of c.deref-then-are_of-2.result.now =
    append-nil labels ∙ sym (c.are_of.ensures c.if-are_of.true) ∙ ap names_of (c.deref.ensures.value ∙ sym c.deref-then-are_of-2.ensures.value) in
    c.clients_from_counts.ensures.counts kinds lines (subst (λ ns. AreOfKinds kinds ns lines) named (rounds.of_kinds [] [])) (subst (AreCountsOf kinds lines) (sym c.deref-then-are_of.ensures.value) (rounds.counts []))

pub returns-then-are_of-clause-err : goal.returns-then-are_of-clause-err
returns-then-are_of-clause-err c = λ rounds draft.
    let lines = lines_of c.args.recording.now in
    let labels = labels_of c.args.names.now.label_rounds in
    let kinds : Kinds = slice_get (rounds.kinds ++ []) in
    let named : labels ++ [] ≡ names_of c.deref-then-are_of-2.result.now =
    append-nil labels ∙ sym (c.are_of.ensures c.if-are_of.true) ∙ ap names_of (c.deref.ensures.value ∙ sym c.deref-then-are_of-2.ensures.value) in
    c.clients_from_counts.ensures.err kinds lines (subst (λ ns. AreOfKinds kinds ns lines) named (rounds.of_kinds [] [])) (subst (AreCountsOf kinds lines) (sym c.deref-then-are_of.ensures.value) (rounds.counts []))
    (λ some. entered_actors lines KindsReason c.deref-then-are_of-2.result.now (subst (All (IsEntryOf lines KindsReason)) (sym c.deref-then-are_of-2.ensures.value) draft.kinds.each) some)

pub returns-in_err-counts-clause-err : goal.returns-in_err-counts-clause-err
returns-in_err-counts-clause-err c = λ rounds draft. still_stops (lines_of c.args.recording.now) _ _ c.from_residual.ensures.1 c.in_err-counts.ensures.err

pub returns-clause-counts : goal.returns-clause-counts
returns-clause-counts c = λ rounds.
    let lines = lines_of c.args.recording.now in
    let kinds = kinds_in c.args.kinds.now in
    c.clients_from_counts-2.ensures.counts kinds lines (subst (λ entries. AreOfKinds kinds (names_of entries) lines) (c.deref-2.ensures.value ∙ sym c.deref-4.ensures.value) c.in_ok-counts.ensures.of_kinds)
    (subst (AreCountsOf kinds lines) (sym c.deref-3.ensures.value) c.in_ok-counts.ensures.counts)

pub returns-clause-err : goal.returns-clause-err
returns-clause-err c = λ rounds draft.
    let lines = lines_of c.args.recording.now in
    let kinds = kinds_in c.args.kinds.now in
    c.clients_from_counts-2.ensures.err kinds lines (subst (λ entries. AreOfKinds kinds (names_of entries) lines) (c.deref-2.ensures.value ∙ sym c.deref-4.ensures.value) c.in_ok-counts.ensures.of_kinds)
    (subst (AreCountsOf kinds lines) (sym c.deref-3.ensures.value) c.in_ok-counts.ensures.counts)
    (λ some. entered_actors lines KindsReason c.deref-4.result.now (subst (All (IsEntryOf lines KindsReason)) (sym c.deref-4.ensures.value) draft.kinds.each) some)
