use Rattle.std.proofs.Common.{None, refl}
use Rattle.std.proofs.lemmas.Result.{on_ok_weaker}
use Rattle.conformance.specs.declared.actor_table.UnsettledActor.{UnsettledActor}
use Rattle.conformance.proofs.actor_table.ActorTable.begin.Goals as goal

pub returns : goal.returns
returns c =
    let new_actor : UnsettledActor = record { label = c.in_ok-from_str.field-0; pool = c.in_ok-from_str-2.field-0; submitter = c.args.submitter; ended_path = None } in
    on_ok_weaker c.insert.result
    (λ later. record { kept = new_actor; label_is = c.in_ok-from_str.ensures.ok; pool_is = c.in_ok-from_str-2.ensures.ok; submitter_is = refl; going = refl; later = later })
    c.insert.ensures
