-- Proofs that a plan that was read is its own effective plan.
use Rattle.std.proofs.Common.{◌≡◌, ◌≤◌, ℕ, ◌+◌, Bool, true, false, List, map, take, slice_get, codes, Option, None, Some, Ok, refl, sym, ap, subst, ◌∙◌, arith, inl, inr}
use Rattle.std.proofs.lemmas.Bool.{cases_Bool}
use Rattle.toml.specs.Data.{Data, Members}
use Rattle.support.specs.Reading.{read_each}
use Rattle.support.proofs.Steps.{ok_injective, bind_ok_then}
use Rattle.support.proofs.ReadElements.{read_at}
use Rattle.job_bodies.specs.declared.fault.PlanFault.{PlanFault}
use Rattle.job_bodies.specs.declared.fault.Part.TheVariants as part
use Rattle.job_bodies.specs.declared.limits.TheConstants.{MAX_POOLS, MAX_CLASSES, MAX_CLIENT_KINDS, MAX_SIZE}
use Rattle.job_bodies.specs.Plan.{Pool, Plan}
use Rattle.job_bodies.specs.WellFormed.{is_within, largest_max, has_valid_sizes}
use Rattle.job_bodies.specs.Checks.{check_name, check_pool}
use Rattle.job_bodies.proofs.Bodies.{valid_sizes}
use Rattle.job_bodies.proofs.Passing.{both_passed, test_passed, each_passed}
use Rattle.plan_text.specs.Document.{document_of, list_at}
use Rattle.plan_text.specs.Entry.{entry_of, text_at, number_at, size_at, flag_at}
use Rattle.plan_text.specs.Sizes.{sizes_of}
use Rattle.plan_text.specs.Entries.{Entries, read_pool, read_class, read_client, entries_of}
use Rattle.plan_text.specs.EffectivePlan.{effective_pool, effective_plan}
use Rattle.plan_text.specs.PlanOf.{plan_of_entries, plan_of}
use Rattle.plan_text.proofs.Buildable.{is_read}
use Rattle.plan_text.proofs.EffectivePlans.{HasEffectiveSizes, effective_pool_is, effective_plan_is}

-- if the queue is unbounded, the resulting queue is the largest size
largest_queue : (core : ℕ) (core_timeout : Bool) (max queue : Option ℕ) → (sizes_of core core_timeout max queue).unbounded ≡ true → (sizes_of core core_timeout max queue).queue ≡ MAX_SIZE
largest_queue core core_timeout max (Some queue) on = absurd cc
largest_queue core core_timeout max None on = refl

-- if the queue is unbounded, core threads never end, and the resulting maximum is not above the limit, this maximum is core
max_is_core : (core : ℕ) (max queue : Option ℕ) → (sizes_of core false max queue).max ≤ MAX_SIZE → (sizes_of core false max queue).unbounded ≡ true → (sizes_of core false max queue).max ≡ core
max_is_core core max (Some queue) few on = absurd cc
max_is_core core None None few on = refl
max_is_core core (Some max) None few on =
    elim (cases_Bool (is_within core MAX_SIZE max)) [
      | inl inside ↦ rw inside refl
      | inr outside ↦ absurd (let past : MAX_SIZE + 1 ≤ MAX_SIZE = rw outside at few in omega (arith, past))
    ]

-- if a pool was read with sizes that are valid, they are those of its effective pool
effective_as_read : (pool : Pool) (core : ℕ) (core_timeout : Bool) (max queue : Option ℕ) → has_valid_sizes pool ≡ true
    → let sizes = sizes_of core core_timeout max queue in
    core ≡ pool.core → core_timeout ≡ pool.core_timeout → sizes.max ≡ pool.max → sizes.queue ≡ pool.queue → sizes.unbounded ≡ pool.unbounded → HasEffectiveSizes pool
effective_as_read pool core core_timeout max queue valid core_is timeout_is max_is queue_is unbounded_is on =
    let largest = largest_queue core core_timeout max queue (unbounded_is ∙ on) in (
      λ off.
          let most : pool.max ≤ MAX_SIZE = subst (λ (timeout : Bool). pool.max ≤ largest_max timeout pool.unbounded) off (valid_sizes pool valid).most_max in
          let as_read : core_timeout ≡ false = timeout_is ∙ off in
          let max_read : (sizes_of core false max queue).max ≡ pool.max = rw as_read at max_is in
          let unbounded_read : (sizes_of core false max queue).unbounded ≡ pool.unbounded = rw as_read at unbounded_is in
          sym max_read ∙ max_is_core core max queue (rw max_read most) (unbounded_read ∙ on) ∙ core_is,
      sym queue_is ∙ largest,
    )

-- a pool that was read is its own effective pool, if its sizes are valid
effective_if_valid : (index : ℕ) (value : Data) (pool : Pool) → read_pool index value ≡ Ok pool → has_valid_sizes pool ≡ true → effective_pool pool ≡ pool
unfolding read_pool
effective_if_valid index value pool e valid =
    bind_ok_then (entry_of part.Pool index _ value) _ pool e (λ entry _ e1.
    bind_ok_then (text_at entry (codes "name")) _ pool e1 (λ name _ e2.
    bind_ok_then (number_at entry (codes "core")) _ pool e2 (λ core _ e3.
    bind_ok_then (size_at entry (codes "max")) _ pool e3 (λ max _ e4.
    bind_ok_then (size_at entry (codes "queue")) _ pool e4 (λ queue _ e5.
    bind_ok_then (flag_at entry (codes "prestart")) _ pool e5 (λ prestart _ e6.
    bind_ok_then (flag_at entry (codes "core_timeout")) _ pool e6 (λ core_timeout _ e7.
    bind_ok_then (flag_at entry (codes "may_reject")) _ pool e7 (λ may_reject _ e8.
    let same = ok_injective {F = PlanFault} _ pool e8 in
    effective_pool_is pool (effective_as_read pool core core_timeout max queue valid (ap (λ (p : Pool). p.core) same) (ap (λ (p : Pool). p.core_timeout) same)
    (ap (λ (p : Pool). p.max) same) (ap (λ (p : Pool). p.queue) same) (ap (λ (p : Pool). p.unbounded) same))))))))))

-- if a document was read as entries, its pools were read from a list of values
pools_of : {P : Type 0} (document : Members) (entries : Entries) → entries_of document ≡ Ok entries → ((values : List Data) → read_each read_pool 0 values ≡ Ok entries.pools → P) → P
unfolding entries_of
pools_of document entries e next =
    bind_ok_then (list_at (codes "pool") MAX_POOLS document) _ entries e (λ pools _ e1.
    bind_ok_then (list_at (codes "class") MAX_CLASSES document) _ entries e1 (λ classes _ e2.
    bind_ok_then (list_at (codes "client") MAX_CLIENT_KINDS document) _ entries e2 (λ clients _ e3.
    bind_ok_then (read_each read_pool 0 pools) _ entries e3 (λ ps at e4.
    bind_ok_then (read_each read_class 0 classes) _ entries e4 (λ ks _ e5.
    bind_ok_then (read_each read_client 0 clients) _ entries e5 (λ cs _ e6.
    let same = ok_injective {F = PlanFault} _ entries e6 in
    next pools (at ∙ ap (λ (found : Entries). Ok found.pools) same)))))))

pub effective_of_entries : (document : Members) (entries : Entries) (plan : Plan) → entries_of document ≡ Ok entries → plan_of_entries entries ≡ Ok plan → effective_plan plan ≡ plan
effective_of_entries document entries plan read e =
    pools_of document entries read (λ values pools_read. is_read entries plan e (λ pools classes r. effective_plan_is plan (λ i pool here.
    let there = subst (λ (ps : List Pool). slice_get ps i ≡ Some pool) (sym r.pools_are) here in
    let from = read_at read_pool values entries.pools i pool pools_read there in
    let names = take i (map (λ (pool : Pool). pool.name) entries.pools) in
    let passed = each_passed (λ index. check_pool (take index (map (λ pool. pool.name) entries.pools)) index) entries.pools r.pools_pass i pool there in
    let valid = test_passed (has_valid_sizes pool) _ (both_passed (check_name names part.Pool i pool.name) _ tt passed).1 in
    effective_if_valid i from.0 pool from.2 valid)))

-- a plan that was read is its own effective plan
pub read_is_effective : (bytes : List ℕ) (plan : Plan) → plan_of bytes ≡ Ok plan → effective_plan plan ≡ plan
unfolding plan_of
read_is_effective bytes plan e =
    bind_ok_then (document_of bytes) _ plan e (λ document _ e1.
    bind_ok_then (entries_of document) _ plan e1 (λ entries read e2.
    effective_of_entries document entries plan read e2))
