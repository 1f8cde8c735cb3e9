use Rattle.std.proofs.Common.{◌≡◌, ◌++◌, ℕ, List, length, take, drop, Option, arith, ap, ◌∙◌, subst, sym}
use Rattle.std.proofs.lemmas.List.{take_all, take-append-le}
use Rattle.job_bodies.specs.Plan.{Pool}
use Rattle.cert_check.specs.declared.on_threads.PoolCheck.{PoolCheck}
use Rattle.cert_check.specs.OnThreads.{AreChecked}
use Rattle.cert_check.proofs.on_threads.check_pools.Goals as goal

-- if a list begins with n written elements, its first n elements are the written ones
all_written : {X : Type 0} (n : ℕ) (written rest : List X) → length written ≡ n → take n (written ++ rest) ≡ written
all_written n written rest as_many = take-append-le n written rest (omega arith) ∙ take_all n written (omega arith)

pub returns : goal.returns
returns g c =
    let plan = c.args.plan.now in
    let found = c.in_ok-found.found in
    let places : List (Option PoolCheck) = c.check_pools_into.new.places in
    let kept : length places ≡ length c.deref_mut.result.now = c.check_pools_into.auto.places in
    let many : length c.deref_mut.result.now ≡ length plan.pools = c.deref_mut.ensures.len ∙ (c.in_ok-found.ensures ∙ ap (λ (pools : List Pool). length pools) c.pools.ensures.value) in
    let whole = all_written found.len places (drop (length places) found.items) (kept ∙ c.deref_mut.ensures.len) in
    let AreOf : List (Option PoolCheck) → Type 0 = λ l. AreChecked plan c.args.cert.now l in
    subst AreOf (sym whole) (record { as_many = kept ∙ many; each = λ p inside. c.check_pools_into.ensures p (omega arith) })
