use Rattle.std.proofs.Common.{refl, sym}
use Rattle.std.proofs.lemmas.Result.{on_ok_weaker}
use Rattle.recordings.specs.RecordingLine.{line_view}
use Rattle.recordings.specs.declared.invalidation_list.InvalidationList.{InvalidationList}
use Rattle.recordings.proofs.KeptEvents.{settled, nothing_pending}
use Rattle.recordings.proofs.invalidation_list.InvalidationList.settle.Goals as goal

pub returns-in-Some : goal.returns-in-Some
returns-in-Some c = λ number at before.
    let new : InvalidationList = record { events = c.settle_event.new.events; pending = c.remove.new.self; certain = c.settle_event.new.certain } in
    on_ok_weaker c.settle_event.result
    (λ settles. settled number c.in-Some.number (line_view c.args.line.now) c.args.actor c.args.self.now new at (sym c.in-Some.ensures.line) c.remove.ensures.rest before settles)
    c.settle_event.ensures

pub returns-in-None : goal.returns-in-None
returns-in-None c = λ number at before.
    let new : InvalidationList = record { events = c.args.self.now.events; pending = c.remove.new.self; certain = c.args.self.now.certain } in
    nothing_pending number (line_view c.args.line.now) c.args.actor c.args.self.now new at (sym c.in-None.ensures.line) c.remove.ensures.rest before refl refl
