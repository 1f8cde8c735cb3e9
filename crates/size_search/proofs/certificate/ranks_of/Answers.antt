use Rattle.std.proofs.Common.{length, ap, ◌∙◌, arith}
use Rattle.size_search.proofs.WaitLevels.{length-wait_levels}
use Rattle.size_search.proofs.certificate.ranks_of.Goals as goal

pub halves_of-requires : goal.halves_of-requires
halves_of-requires c =
    let plan = c.args.plan.now in
    let waits = ap length (c.deref.ensures.value ∙ c.in_ok-waits.ensures.levels) in
    omega (arith, waits, length-wait_levels plan, ap length c.classes.ensures.value)
