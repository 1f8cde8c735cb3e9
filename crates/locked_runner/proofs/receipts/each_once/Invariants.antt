-- The mark at each number is the number of receipts with this number in the lists so far, up to 255.
use Rattle.std.proofs.Common.{◌≡◌, ◌<◌, ℕ, length, map, take, min, slice_index}
use Rattle.locked_runner.specs.Receipts.{places_of}
use Rattle.locked_runner.proofs.receipts.each_once.Given as goal

abbrev pub invariant-loop-list : goal.invariant-loop-list
invariant-loop-list l = (length l.marks.items ≡ l.length) × ((k : ℕ) → k < l.length → slice_index l.marks.items k ≡ min (places_of k (map (λ list. list.items) (take l.list-index l.lists))) 255)
