use Rattle.std.proofs.Common.{◌≡◌, ◌<◌, ◌+◌, ◌==◌, ℕ, length, take, min, slice_index, count_by}
use Rattle.locked_runner.proofs.receipts.mark_all.Given as goal

abbrev pub invariant-loop-kept : goal.invariant-loop-kept
invariant-loop-kept l = (length l.marks ≡ length l.fn.marks) × ((k : ℕ) → k < length l.fn.marks → slice_index l.marks k ≡ min (slice_index l.fn.marks k + count_by (λ r. r.number == k) (take l.kept-index l.list)) 255)
