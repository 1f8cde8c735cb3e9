-- The text of a difference between a recorded pool and the plan's pool, and equality of differences.
use Rattle.std.specs.Prelude.{ℕ, ◌==◌, ◌&&◌, ◌++◌, Bool, true, false, List, codes, decimal}
use Rattle.recordings.specs.declared.pool_sizes.QueueKind.{QueueKind}
use Rattle.recordings.specs.declared.pool_sizes.QueueKind.TheVariants as queue
use Rattle.recordings.specs.LineText.{queue_word}
use Rattle.conformance.specs.declared.difference.Difference.{Difference}
use Rattle.conformance.specs.declared.difference.Difference.TheVariants.{Core, Max, BoundedMax, KindOfQueue, Capacity, BoundedQueue, CoreTimeout, NoCoreTimeout, Prestarted}

-- The text of a difference, such as `max 20, plan 10`. It has no pool name and no newline.
abbrev pub difference_text : Difference → List ℕ
difference_text (Core recorded planned) = codes "core " ++ decimal recorded ++ codes ", plan " ++ decimal planned
difference_text (Max recorded planned) = codes "max " ++ decimal recorded ++ codes ", plan " ++ decimal planned
difference_text (BoundedMax recorded) = codes "max " ++ decimal recorded ++ codes ", plan unbounded"
difference_text (KindOfQueue kind) = codes "queue of another kind (" ++ queue_word kind ++ codes ")"
difference_text (Capacity recorded planned) = codes "queue " ++ decimal recorded ++ codes ", plan " ++ decimal planned
difference_text (BoundedQueue recorded) = codes "queue " ++ decimal recorded ++ codes ", plan unbounded"
difference_text CoreTimeout = codes "core threads may time out"
difference_text NoCoreTimeout = codes "core threads never time out, plan core_timeout = true"
difference_text (Prestarted recorded planned) = decimal recorded ++ codes " threads prestarted, plan " ++ decimal planned

-- ---- equality
-- The two queues are of the same kind.
abbrev pub is_same_kind : QueueKind → QueueKind → Bool
is_same_kind queue.Array queue.Array = true
is_same_kind queue.Linked queue.Linked = true
is_same_kind queue.Synchronous queue.Synchronous = true
is_same_kind queue.Priority queue.Priority = true
is_same_kind queue.Other queue.Other = true
is_same_kind kind beside = false

abbrev pub is_same_difference : Difference → Difference → Bool
is_same_difference (Core recorded planned) (Core other beside) = recorded == other && planned == beside
is_same_difference (Max recorded planned) (Max other beside) = recorded == other && planned == beside
is_same_difference (BoundedMax recorded) (BoundedMax other) = recorded == other
is_same_difference (KindOfQueue kind) (KindOfQueue other) = is_same_kind kind other
is_same_difference (Capacity recorded planned) (Capacity other beside) = recorded == other && planned == beside
is_same_difference (BoundedQueue recorded) (BoundedQueue other) = recorded == other
is_same_difference CoreTimeout CoreTimeout = true
is_same_difference NoCoreTimeout NoCoreTimeout = true
is_same_difference (Prestarted recorded planned) (Prestarted other beside) = recorded == other && planned == beside
is_same_difference difference beside = false
