use Rattle.std.proofs.Common.{ap, sym, ◌∙◌}
use Rattle.std.specs.List.{list_any}
use Rattle.recordings.specs.declared.invalidation_list.InvalidationList.{InvalidationList}
use Rattle.recordings.specs.InvalidationList.{is_of_type}
use Rattle.recordings.proofs.KeptEvents.{left_alone, pushed}
use Rattle.recordings.proofs.invalidation_list.InvalidationList.push.Goals as goal

pub returns-then-has_type : goal.returns-then-has_type
returns-then-has_type c = λ before free. left_alone c.args.one c.args.self.now before (ap (list_any (is_of_type c.args.one.event)) (sym c.deref.ensures.value) ∙ sym c.if-has_type.ensures)

pub returns : goal.returns
returns c = λ before free.
    let new : InvalidationList = record { events = c.insert.new.self; pending = c.note_event.new.pending; certain = c.note_event.new.certain } in
    pushed c.args.one c.args.self.now new before free c.in_ok-note_event.ensures c.in_ok-insert.ensures.entries c.insert.ensures.ordered
