-- The settings of a pool in a `pool` line: its sizes, its queue and its handler.
use Rattle.std.specs.Prelude.{ℕ, Bool, true, false, ◌==◌, ◌&&◌, if◌then◌else◌, List, Option, Some, None, codes}
use Rattle.std.specs.Str.{bytes_eq}
use Rattle.support.specs.Pieces.{split_space}
use Rattle.recordings.specs.declared.pool_sizes.TheConstants.{UNBOUNDED_CAPACITY}
use Rattle.recordings.specs.declared.pool_sizes.PoolSizes.{PoolSizes}
use Rattle.recordings.specs.declared.pool_sizes.QueueKind.{QueueKind}
use Rattle.recordings.specs.declared.pool_sizes.QueueKind.TheVariants as queue
use Rattle.recordings.specs.declared.pool_sizes.HandlerKind.{HandlerKind}
use Rattle.recordings.specs.declared.pool_sizes.HandlerKind.TheVariants as handler
use Rattle.recordings.specs.Words.{◌>>=◌, parse_number, strip_word, parse_word_and_number}

-- whether the queue is a `LinkedBlockingQueue`
abbrev pub is_linked : QueueKind → Bool
is_linked queue.Array = false
is_linked queue.Linked = true
is_linked queue.Synchronous = false
is_linked queue.Priority = false
is_linked queue.Other = false

-- whether the queue counts as unbounded: it is a `LinkedBlockingQueue` with the capacity `UNBOUNDED_CAPACITY`
abbrev pub has_unbounded_queue : PoolSizes → Bool
has_unbounded_queue sizes = is_linked sizes.queue && sizes.capacity == UNBOUNDED_CAPACITY

-- the kind of queue that the word names
unfoldable pub queue_kind_of : List ℕ → Option QueueKind
queue_kind_of word =
    if bytes_eq word (codes "array") then Some queue.Array
    else (if bytes_eq word (codes "linked") then Some queue.Linked
    else (if bytes_eq word (codes "synchronous") then Some queue.Synchronous
    else (if bytes_eq word (codes "priority") then Some queue.Priority
    else (if bytes_eq word (codes "other") then Some queue.Other
    else None))))

-- the kind of handler that the word names
unfoldable pub handler_kind_of : List ℕ → Option HandlerKind
handler_kind_of word =
    if bytes_eq word (codes "abort") then Some handler.Abort
    else (if bytes_eq word (codes "caller_runs") then Some handler.CallerRuns
    else (if bytes_eq word (codes "discard") then Some handler.Discard
    else (if bytes_eq word (codes "discard_oldest") then Some handler.DiscardOldest
    else (if bytes_eq word (codes "other") then Some handler.Other
    else None))))

-- true for the word `yes`, false for the word `no`, and None for any other word
unfoldable pub yes_or_no : List ℕ → Option Bool
yes_or_no word = if bytes_eq word (codes "yes") then Some true else (if bytes_eq word (codes "no") then Some false else None)

-- the parser for `queue KIND`, which returns the kind and the other words
unfoldable pub parse_queue : List ℕ → Option (QueueKind × List ℕ)
parse_queue text = strip_word (codes "queue") text >>= λ rest. split_space rest >>= λ words. queue_kind_of words.0 >>= λ kind. Some (kind, words.1)

-- the parser for `timeout WORD`, which returns whether the word is `yes`, and the words after it
unfoldable pub parse_timeout : List ℕ → Option (Bool × List ℕ)
parse_timeout text = strip_word (codes "timeout") text >>= λ rest. split_space rest >>= λ words. yes_or_no words.0 >>= λ timeout. Some (timeout, words.1)

-- the parser for `handler KIND`
unfoldable pub handler_of : List ℕ → Option HandlerKind
handler_of text = strip_word (codes "handler") text >>= λ word. handler_kind_of word

-- the parser for `core C max C queue KIND C timeout WORD prestarted C handler KIND`
unfoldable pub pool_sizes_of : List ℕ → Option PoolSizes
pool_sizes_of text =
    parse_word_and_number (codes "core") text >>= λ core. parse_word_and_number (codes "max") core.1 >>= λ max. parse_queue max.1 >>= λ queue.
    parse_number queue.1 >>= λ capacity. parse_timeout capacity.1 >>= λ timeout. parse_word_and_number (codes "prestarted") timeout.1 >>= λ prestarted.
    handler_of prestarted.1 >>= λ handler.
    Some (record { core = core.0; max = max.0; queue = queue.0; capacity = capacity.0; timeout = timeout.0; prestarted = prestarted.0; handler = handler })
