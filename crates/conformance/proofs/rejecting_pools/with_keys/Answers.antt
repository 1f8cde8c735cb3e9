use Rattle.std.proofs.Common.{◌≡◌, ◌++◌, ◌∷◌, [], ◌+◌, Bool, List, length, take, ap, sym, ◌∙◌, arith}
use Rattle.std.proofs.lemmas.List.{take_more}
use Rattle.job_bodies.specs.Plan.{Pool}
use Rattle.conformance.specs.RejectingPools as spec
use Rattle.conformance.specs.Rejections.{only_rejected_by}
use Rattle.conformance.proofs.RejectingPools.{keys_more}
use Rattle.conformance.proofs.rejecting_pools.with_keys.Goals as goal

pub loop-pool-preserved : goal.loop-pool-preserved
loop-pool-preserved c =
    let rejects = only_rejected_by c.args.rejections.now in
    let pools = c.args.pools.now in
    let index = c.loop-pool.pool-index in
    let pool = c.pool-item.result in
    let keyed = c.loop-pool.keyed.items in
    let place = c.len.result in
    let copy : c.in_ok-with_key.field-0 ≡ spec.with_key (rejects place) pool = c.in_ok-with_key.ensures ∙ ap (λ (key : Bool). spec.with_key key pool) c.only_rejects-key.ensures in
    let long : place ≡ length keyed = omega (arith, c.len.ensures, c.loop-pool.keyed.ok) in
    let many : place ≡ length (spec.with_keys rejects (take index pools)) = long ∙ ap length c.loop-pool.invariant in
    let more : take (index + 1) pools ≡ take index pools ++ pool ∷ [] = take_more pools index pool c.loop-pool-test.true ∙ ap (λ (one : Pool). take index pools ++ one ∷ []) (sym c.pool-item.is) in
    c.in_ok-push.ensures.items
    ∙ ap (λ (one : Pool). keyed ++ one ∷ []) copy
    ∙ ap (λ (before : List Pool). before ++ spec.with_key (rejects place) pool ∷ []) c.loop-pool.invariant
    ∙ keys_more rejects (take index pools) pool place many
    ∙ ap (spec.with_keys rejects) (sym more)
