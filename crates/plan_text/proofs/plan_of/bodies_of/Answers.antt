use Rattle.std.proofs.lemmas.Result.{err_from_is_err_and}
use Rattle.plan_text.proofs.NamedPlans.{names_first, names_fail}
use Rattle.plan_text.proofs.plan_of.bodies_of.Goals as goal

pub returns-in_err-names : goal.returns-in_err-names
returns-in_err-names c =
    let failed = err_from_is_err_and c.from_residual.result c.from_residual.ensures.1 in
    let names = rw c.deref.ensures.value at c.in_err-names.ensures in
    rw (failed.1, failed.2) (names_fail _ _ names)

pub returns : goal.returns
returns c =
    let names = rw c.deref.ensures.value at c.in_ok-names.ensures in
    rw (names_first _ _ names) (c.named_bodies.ensures c.args.pools.now)
