use Rattle.std.proofs.Common.{◌≡◌, ◌∷◌, ◌∙◌, true, length, ap, sym, subst, arith, rules}
use Rattle.std.proofs.lemmas.List.Elements.{All-push}
use Rattle.recordings.specs.RecordingLine.{lines_read, line_read, line_view}
use Rattle.recordings.specs.LineParts.{is_begin}
use Rattle.learning.specs.Counts.{AreOfKinds, BeginsOfKind}
use Rattle.learning.specs.LearningState.{AreCountsOf, kinds_in, names_of}
use Rattle.learning.proofs.Actors.{begin_actors}
use Rattle.learning.proofs.PushedElements.{written_back}
use Rattle.learning.proofs.LoopState.{LoopState, well_formed, at_first, is_there, next_good}
use Rattle.learning.proofs.counts.kind_counts.Goals as goal

pub loop-line-init : goal.loop-line-init
loop-line-init c = subst (LoopState _ (well_formed (lines_read c.args.recording.now))) (sym c.new-lines.ensures.lines)
    (at_first _ (lines_read c.args.recording.now) (c.in_ok-counts.ensures (kinds_in c.args.kinds.now), search rules))

pub loop-line-preserved-in-Continue-branch-2 : goal.loop-line-preserved-in-Continue-branch-2
loop-line-preserved-in-Continue-branch-2 c =
    let all = well_formed (lines_read c.args.recording.now) in
    let kinds = kinds_in c.args.kinds.now in
    let names = names_of c.args.entries.now in
    let line = line_view c.in-Ok.line in
    let before = c.loop-line.invariant.before in
    let counted = subst (AreCountsOf kinds before) (sym c.deref_mut.ensures.value) c.loop-line.invariant.holds.0 in
    let begins : BeginsOfKind kinds names line = c.begins_of_kind.ensures.of_kind (grind (arith, c.if-not-begins_of_kind.false)) in
    let next = next_good (λ ls. AreCountsOf kinds ls c.loop-line.counts.items × AreOfKinds kinds names ls) (λ ls. AreCountsOf kinds ls c.note.new.counts × AreOfKinds kinds names ls) all c.loop-line.lines c.next.new.self line
    (c.in-Some.ensures ∙ ap (λ read. line_read read ∷ c.next.new.self) c.in-Ok.is) c.loop-line.invariant
    (c.in_ok-note.ensures.all before counted, All-push (BeginsOfKind kinds names) before line c.loop-line.invariant.holds.1 begins) in
    let len : c.loop-line.counts.len ≡ length c.note.new.counts = grind (arith, c.in_ok-note.ensures.count, c.deref_mut.ensures.value, c.deref_mut.ensures.len, c.loop-line.counts.ok) in
    subst (λ items. LoopState (λ ls. AreCountsOf kinds ls items × AreOfKinds kinds names ls) all c.next.new.self) (sym (written_back _ c.note.new.counts _ len)) next

pub returns-then-not-begins_of_kind-clause-err : goal.returns-then-not-begins_of_kind-clause-err
returns-then-not-begins_of_kind-clause-err c =
    let all = well_formed (lines_read c.args.recording.now) in
    let line = line_view c.in-Ok.line in
    let begins : is_begin line ≡ true = c.begins_of_kind.ensures.other (grind (arith, c.if-not-begins_of_kind.true)) in
    begin_actors all line begins (is_there _ all c.loop-line.lines c.next.new.self line (c.in-Some.ensures ∙ ap (λ read. line_read read ∷ c.next.new.self) c.in-Ok.is) c.loop-line.invariant)
