-- A pool whose numbers and flags are read in two parts.
use Rattle.std.proofs.Common.{◌≡◌, ◌∙◌, ℕ, Bool, List, Option, Result, Ok, codes, sym, subst}
use Rattle.support.specs.declared.read_error.ReadError.{ReadError}
use Rattle.support.specs.Reading.{◌>>=◌}
use Rattle.support.specs.Results.{Fails}
use Rattle.job_bodies.specs.declared.fault.PlanFault.{PlanFault}
use Rattle.job_bodies.specs.Plan.{Pool}
use Rattle.plan_text.specs.declared.entries.PoolFlags.{PoolFlags}
use Rattle.plan_text.specs.declared.entries.PoolNumbers.{PoolNumbers}
use Rattle.plan_text.specs.Entries.{numbers_of, flags_of}
use Rattle.plan_text.specs.Entry.{Entry, number_at, size_at, flag_at}
use Rattle.plan_text.specs.Sizes.{sizes_of}
use Rattle.plan_text.proofs.JoinedSteps.{joined_ok, joined_fails}

abbrev numbers : ℕ → Option ℕ → Option ℕ → PoolNumbers
numbers core max queue = record { core = core; max = max; queue = queue }

abbrev flags : Bool → Bool → Bool → PoolFlags
flags prestart core_timeout may_reject = record { prestart = prestart; core_timeout = core_timeout; may_reject = may_reject }

-- the pool with this name, these numbers and these flags
abbrev pub pool_with : List ℕ → PoolNumbers → PoolFlags → Pool
pool_with name n f =
    let sizes = sizes_of n.core f.core_timeout n.max n.queue in
    record { name = name; core = n.core; max = sizes.max; queue = sizes.queue; prestart = f.prestart; may_reject = f.may_reject; unbounded = sizes.unbounded; core_timeout = f.core_timeout }

abbrev given_pool : Pool → Result Pool PlanFault
given_pool pool = Ok pool

abbrev with_flags : Entry → List ℕ → PoolNumbers → Result Pool PlanFault
with_flags entry name n =
    flag_at entry (codes "prestart") >>= λ prestart.
    flag_at entry (codes "core_timeout") >>= λ core_timeout.
    flag_at entry (codes "may_reject") >>= λ may_reject.
    given_pool (pool_with name n (flags prestart core_timeout may_reject))

-- the pool with this name, whose numbers and flags are read in order
abbrev pub named_pool : Entry → List ℕ → Result Pool PlanFault
named_pool entry name =
    number_at entry (codes "core") >>= λ core.
    size_at entry (codes "max") >>= λ max.
    size_at entry (codes "queue") >>= λ queue.
    with_flags entry name (numbers core max queue)

numbers_first : (entry : Entry) (name : List ℕ) (n : PoolNumbers) → numbers_of entry ≡ Ok n → named_pool entry name ≡ with_flags entry name n
numbers_first entry name n given =
    joined_ok (number_at entry (codes "core")) (λ _. size_at entry (codes "max")) (λ _ _. size_at entry (codes "queue")) numbers n (with_flags entry name) given

pub numbers_fail : (error : ReadError PlanFault) (entry : Entry) (name : List ℕ) → Fails error (numbers_of entry) → Fails error (named_pool entry name)
numbers_fail error entry name failed =
    joined_fails error (number_at entry (codes "core")) (λ _. size_at entry (codes "max")) (λ _ _. size_at entry (codes "queue")) numbers (λ core max queue. with_flags entry name (numbers core max queue)) failed

pub flags_fail : (error : ReadError PlanFault) (entry : Entry) (name : List ℕ) (n : PoolNumbers) → numbers_of entry ≡ Ok n → Fails error (flags_of entry) → Fails error (named_pool entry name)
flags_fail error entry name n given failed =
    let later = joined_fails error (flag_at entry (codes "prestart")) (λ _. flag_at entry (codes "core_timeout")) (λ _ _. flag_at entry (codes "may_reject")) flags (λ prestart core_timeout may_reject. given_pool (pool_with name n (flags prestart core_timeout may_reject))) failed in
    subst (λ (read : Result Pool PlanFault). Fails error read) (sym (numbers_first entry name n given)) later

pub pool_read : (entry : Entry) (name : List ℕ) (n : PoolNumbers) (f : PoolFlags) → numbers_of entry ≡ Ok n → flags_of entry ≡ Ok f → named_pool entry name ≡ Ok (pool_with name n f)
pool_read entry name n f given_numbers given_flags =
    numbers_first entry name n given_numbers
    ∙ joined_ok (flag_at entry (codes "prestart")) (λ _. flag_at entry (codes "core_timeout")) (λ _ _. flag_at entry (codes "may_reject")) flags f (λ f. Ok (pool_with name n f)) given_flags
