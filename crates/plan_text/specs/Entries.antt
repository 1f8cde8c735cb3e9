-- The shape of the entries in the text of a plan. Each required key must be present, and each value must have the type of its
-- key.
use Rattle.std.specs.Prelude.{◌≡◌, ℕ, Bool, true, nat_le, List, [], ◌∷◌, length, slice_get, codes, Some, Result, Ok}
use Rattle.toml.specs.Data.{Data, Members}
use Rattle.support.specs.Reading.{◌>>=◌, read_each}
use Rattle.job_bodies.specs.declared.fault.PlanFault.{PlanFault}
use Rattle.job_bodies.specs.declared.fault.Part.TheVariants as part
use Rattle.job_bodies.specs.declared.limits.TheConstants.{MAX_POOLS, MAX_CLASSES, MAX_CLIENT_KINDS, MAX_ACTIONS}
use Rattle.job_bodies.specs.Plan.{Pool}
use Rattle.plan_text.specs.Document.{list_at}
use Rattle.plan_text.specs.declared.entries.PoolNumbers.{PoolNumbers}
use Rattle.plan_text.specs.declared.entries.PoolFlags.{PoolFlags}
use Rattle.plan_text.specs.Entry.{Entry, entry_of, text_at, number_at, size_at, flag_at, texts_at}
use Rattle.plan_text.specs.Sizes.{sizes_of}

-- a class as its text gives it: the pool is a name, and the actions are texts
pub record ClassEntry : Type 0 where
  pub name : List ℕ
  pub pool : List ℕ
  pub body : List (List ℕ)

-- a client kind as its text gives it: the actions are texts
pub record ClientEntry : Type 0 where
  pub name : List ℕ
  pub count : ℕ
  pub repeat : Bool
  pub body : List (List ℕ)

-- the entries of a document, in the order of the text
pub record Entries : Type 0 where
  pub pools : List Pool
  pub classes : List ClassEntry
  pub clients : List ClientEntry

-- no list of entries and no body is longer than its limit
pub record AreWithinLimits (entries : Entries) : Type 0 where
  pub few_pools : nat_le (length entries.pools) MAX_POOLS ≡ true
  pub few_classes : nat_le (length entries.classes) MAX_CLASSES ≡ true
  pub few_clients : nat_le (length entries.clients) MAX_CLIENT_KINDS ≡ true
  pub classes : (i : ℕ) (class : ClassEntry) → slice_get entries.classes i ≡ Some class → nat_le (length class.body) MAX_ACTIONS ≡ true
  pub clients : (i : ℕ) (client : ClientEntry) → slice_get entries.clients i ≡ Some client → nat_le (length client.body) MAX_ACTIONS ≡ true

-- the core size, the maximum and the capacity of the queue of a pool, or the first fault among them
abbrev pub numbers_of : Entry → Result PoolNumbers PlanFault
numbers_of entry =
    number_at entry (codes "core") >>= λ core.
    size_at entry (codes "max") >>= λ max.
    size_at entry (codes "queue") >>= λ queue.
    Ok (record { core = core; max = max; queue = queue })

-- the flags of a pool, or the first fault among them
abbrev pub flags_of : Entry → Result PoolFlags PlanFault
flags_of entry =
    flag_at entry (codes "prestart") >>= λ prestart.
    flag_at entry (codes "core_timeout") >>= λ core_timeout.
    flag_at entry (codes "may_reject") >>= λ may_reject.
    Ok (record { prestart = prestart; core_timeout = core_timeout; may_reject = may_reject })

-- the values of a class, or the first fault among them
abbrev pub class_in : Entry → Result ClassEntry PlanFault
class_in entry =
    text_at entry (codes "name") >>= λ name.
    text_at entry (codes "pool") >>= λ pool.
    texts_at entry (codes "body") >>= λ body.
    Ok (record { name = name; pool = pool; body = body })

-- the values of a client kind, or the first fault among them
abbrev pub client_in : Entry → Result ClientEntry PlanFault
client_in entry =
    text_at entry (codes "name") >>= λ name.
    number_at entry (codes "count") >>= λ count.
    flag_at entry (codes "repeat") >>= λ repeat.
    texts_at entry (codes "body") >>= λ body.
    Ok (record { name = name; count = count; repeat = repeat; body = body })

unfoldable pub read_pool : ℕ → Data → Result Pool PlanFault
read_pool index value =
    entry_of part.Pool index (codes "name" ∷ codes "core" ∷ codes "max" ∷ codes "queue" ∷ codes "prestart" ∷ codes "core_timeout" ∷ codes "may_reject" ∷ []) value >>= λ entry.
    text_at entry (codes "name") >>= λ name.
    number_at entry (codes "core") >>= λ core.
    size_at entry (codes "max") >>= λ max.
    size_at entry (codes "queue") >>= λ queue.
    flag_at entry (codes "prestart") >>= λ prestart.
    flag_at entry (codes "core_timeout") >>= λ core_timeout.
    flag_at entry (codes "may_reject") >>= λ may_reject.
    let sizes = sizes_of core core_timeout max queue in
    Ok (record { name = name; core = core; max = sizes.max; queue = sizes.queue; prestart = prestart; may_reject = may_reject; unbounded = sizes.unbounded; core_timeout = core_timeout })

unfoldable pub read_class : ℕ → Data → Result ClassEntry PlanFault
read_class index value =
    entry_of part.Class index (codes "name" ∷ codes "pool" ∷ codes "body" ∷ []) value >>= λ entry.
    text_at entry (codes "name") >>= λ name.
    text_at entry (codes "pool") >>= λ pool.
    texts_at entry (codes "body") >>= λ body.
    Ok (record { name = name; pool = pool; body = body })

unfoldable pub read_client : ℕ → Data → Result ClientEntry PlanFault
read_client index value =
    entry_of part.Client index (codes "name" ∷ codes "count" ∷ codes "repeat" ∷ codes "body" ∷ []) value >>= λ entry.
    text_at entry (codes "name") >>= λ name.
    number_at entry (codes "count") >>= λ count.
    flag_at entry (codes "repeat") >>= λ repeat.
    texts_at entry (codes "body") >>= λ body.
    Ok (record { name = name; count = count; repeat = repeat; body = body })

-- the entries of a document, or the first fault; the lengths of the three lists are checked before the shape of each entry
unfoldable pub entries_of : Members → Result Entries PlanFault
entries_of document =
    list_at (codes "pool") MAX_POOLS document >>= λ pools.
    list_at (codes "class") MAX_CLASSES document >>= λ classes.
    list_at (codes "client") MAX_CLIENT_KINDS document >>= λ clients.
    read_each read_pool 0 pools >>= λ pools.
    read_each read_class 0 classes >>= λ classes.
    read_each read_client 0 clients >>= λ clients.
    Ok (record { pools = pools; classes = classes; clients = clients })
