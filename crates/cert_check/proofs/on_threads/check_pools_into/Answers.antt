use Rattle.std.proofs.Common.{◌≡◌, Option, None, subst}
use Rattle.std.specs.Prelude.{IfSome}
use Rattle.cert_check.specs.declared.on_threads.PoolCheck.{PoolCheck}
use Rattle.cert_check.specs.OnThreads.{pool_check}
use Rattle.cert_check.proofs.on_threads.check_pools_into.Goals as goal

pub returns : goal.returns
returns g c = λ p inside.
    let changed = (c.for_each_mut.ensures p None inside).1 in
    let IsFound : Option PoolCheck → Type 0 = λ place. IfSome place (λ check. check ≡ pool_check c.args.plan.now c.args.cert.now p) in
    subst IsFound changed.left changed.call
