use Rattle.std.proofs.Common.{sym, subst}
use Rattle.std.proofs.lemmas.Result.{on_ok_weaker}
use Rattle.recordings.specs.RecordingLine.{line_view}
use Rattle.recordings.specs.declared.invalidation.Invalidation.{Invalidation}
use Rattle.recordings.specs.InvalidationList.{kept_in, new_entry, IsWithFirst, IsPushed}
use Rattle.recordings.proofs.KeptEvents.{not_pending, with_event, without_event, later}
use Rattle.recordings.proofs.invalidation_list.InvalidationList.take.Goals as goal

pub returns-in-Some-clause-kept : goal.returns-in-Some-clause-kept
returns-in-Some-clause-kept c = λ before.
    let line = line_view c.args.line.now in
    let middle = c.settle_line.new.self in
    let one : Invalidation = record { line = c.args.number; event = c.in-Some.event } in
    let settled = c.in_ok-settle_line.ensures c.args.number before in
    on_ok_weaker c.push.result
    (λ (pushed : IsPushed one middle c.push.new.self). with_event c.args.number line c.in-Some.event _ _ (sym c.in-Some.ensures)
    (subst (λ kept. IsWithFirst (new_entry one) kept (kept_in c.push.new.self)) settled.kept pushed.kept))
    (c.push.ensures settled.before (not_pending middle.pending line c.in-Some.event (sym c.in-Some.ensures) settled.none))

pub returns-in-Some-clause-valid : goal.returns-in-Some-clause-valid
returns-in-Some-clause-valid c = λ before.
    let line = line_view c.args.line.now in
    let middle = c.settle_line.new.self in
    let one : Invalidation = record { line = c.args.number; event = c.in-Some.event } in
    let settled = c.in_ok-settle_line.ensures c.args.number before in
    on_ok_weaker c.push.result (λ (pushed : IsPushed one middle c.push.new.self). pushed.before)
    (c.push.ensures settled.before (not_pending middle.pending line c.in-Some.event (sym c.in-Some.ensures) settled.none))

pub returns-in-None-clause-kept : goal.returns-in-None-clause-kept
returns-in-None-clause-kept c = λ before.
    let settled = c.in_ok-settle_line.ensures c.args.number before in
    without_event c.args.number (line_view c.args.line.now) _ _ (sym c.in-None.ensures) settled.kept

pub returns-in-None-clause-valid : goal.returns-in-None-clause-valid
returns-in-None-clause-valid c = λ before.
    let settled = c.in_ok-settle_line.ensures c.args.number before in
    later c.args.number c.settle_line.new.self settled.before
