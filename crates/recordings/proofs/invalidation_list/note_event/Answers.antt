use Rattle.std.proofs.Common.{refl, sym}
use Rattle.std.proofs.lemmas.Result.{on_ok_weaker}
use Rattle.recordings.specs.InvalidationList.{noted_pending}
use Rattle.recordings.proofs.invalidation_list.note_event.Goals as goal

pub returns-in-Some : goal.returns-in-Some
returns-in-Some c = on_ok_weaker c.insert.result (λ lines. noted_pending c.in-Some.actor (sym c.in-Some.ensures) lines refl) c.insert.ensures
