use Rattle.std.proofs.Common.{ap, sym, ◌∙◌}
use Rattle.std.proofs.lemmas.Result.{IfOk-weaker}
use Rattle.recordings.specs.Invalidations.{first_of_each}
use Rattle.recordings.proofs.KeptEvents.{invalidations_kept}
use Rattle.recordings.proofs.invalidation_list.InvalidationList.firsts.Goals as goal

pub returns : goal.returns
returns c =
    let list = c.args.self.now in
    IfOk-weaker c.firsts_of.result _ _ (λ firsts is. is ∙ sym (ap first_of_each (invalidations_kept list.pending list.events.entries))) c.firsts_of.ensures
