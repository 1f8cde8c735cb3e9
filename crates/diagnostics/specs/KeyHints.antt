-- Hints about keys that a plan does not have. Each is the end of a message, and `letters` is the key's letters and digits in
-- lowercase.
use Rattle.std.specs.Prelude.{ℕ, Bool, if◌then◌else◌, List, [], ◌∷◌, codes, Option, Some, None}
use Rattle.std.specs.List.{list_any}
use Rattle.std.specs.Str.{bytes_eq}
use Rattle.job_bodies.specs.declared.fault.Part.{Part}
use Rattle.job_bodies.specs.declared.fault.Part.TheVariants as part

abbrev pub is_one_of : List ℕ → List (List ℕ) → Bool
is_one_of letters words = list_any (bytes_eq letters) words

abbrev pub keep_alive_hint : List ℕ
keep_alive_hint = codes "; leave it out: times do not change the answer (for core threads that time out: core_timeout = true)"

abbrev pub handler_hint : List ℕ
handler_hint = codes "; leave it out for AbortPolicy, or write may_reject = true if jobs may be rejected"

-- the hint for a key at the top level
abbrev pub list_key_hint : List ℕ → Option (List ℕ)
list_key_hint letters =
    if is_one_of letters (codes "pools" ∷ codes "executor" ∷ codes "executors" ∷ []) then Some (codes "; use [[pool]]")
    else (if is_one_of letters (codes "classes" ∷ codes "job" ∷ codes "jobs" ∷ codes "task" ∷ codes "tasks" ∷ [])
    then Some (codes "; use [[class]]")
    else (if is_one_of letters (codes "clients" ∷ []) then Some (codes "; use [[client]]")
    else None))

-- the hint for a key of Java or Spring that concerns the rules of a pool and not its sizes
abbrev pub rule_key_hint : List ℕ → Option (List ℕ)
rule_key_hint letters =
    if is_one_of letters (codes "prestartallcorethreads" ∷ []) then Some (codes "; use prestart")
    else (if is_one_of letters (codes "allowcorethreadtimeout" ∷ []) then Some (codes "; use core_timeout")
    else (if is_one_of letters (codes "keepalive" ∷ codes "keepalivetime" ∷ codes "keepaliveseconds" ∷ [])
    then Some keep_alive_hint
    else (if is_one_of letters (codes "handler" ∷ codes "rejectedexecutionhandler" ∷ codes "rejectionpolicy" ∷ [])
    then Some handler_hint
    else None)))

-- the hint for a key of a pool
abbrev pub pool_key_hint : List ℕ → Option (List ℕ)
pool_key_hint letters =
    if is_one_of letters (codes "corepoolsize" ∷ codes "coresize" ∷ codes "poolsize" ∷ codes "threads" ∷ codes "size" ∷ [])
    then Some (codes "; use core")
    else (if is_one_of letters (codes "maximumpoolsize" ∷ codes "maxpoolsize" ∷ codes "maxsize" ∷ codes "maximum" ∷ [])
    then Some (codes "; use max")
    else (if is_one_of letters (codes "queuecapacity" ∷ codes "queuesize" ∷ codes "capacity" ∷ codes "workqueue" ∷ [])
    then Some (codes "; use queue")
    else rule_key_hint letters))

-- the hint for a key of a class
abbrev pub class_key_hint : List ℕ → Option (List ℕ)
class_key_hint letters =
    if is_one_of letters (codes "executor" ∷ []) then Some (codes "; use pool")
    else (if is_one_of letters (codes "actions" ∷ codes "steps" ∷ codes "run" ∷ []) then Some (codes "; use body")
    else None)

-- the hint for a key of a client kind
abbrev pub client_key_hint : List ℕ → Option (List ℕ)
client_key_hint letters =
    if is_one_of letters (codes "threads" ∷ codes "instances" ∷ codes "number" ∷ codes "n" ∷ [])
    then Some (codes "; use count")
    else (if is_one_of letters (codes "loop" ∷ codes "forever" ∷ codes "repeats" ∷ []) then Some (codes "; use repeat")
    else (if is_one_of letters (codes "actions" ∷ codes "steps" ∷ codes "run" ∷ []) then Some (codes "; use body")
    else None))

abbrev pub key_hint : Part → List ℕ → Option (List ℕ)
key_hint part.Text letters = list_key_hint letters
key_hint part.Pool letters = pool_key_hint letters
key_hint part.Class letters = class_key_hint letters
key_hint part.Client letters = client_key_hint letters
