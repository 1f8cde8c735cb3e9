-- The loop of `read_up_to`: the first `filled` bytes of the buffer came from the source, and no call failed.
use Rattle.std.proofs.Common.{◌≡◌, ◌-◌, ◌≤◌, take, vec_len, vec_items}
use Rattle.std.specs.Io.KnownBytes.{Consumes}
use Rattle.byte_streams.proofs.reading.read_up_to.Given as goal

abbrev pub invariant-loop-filled : goal.invariant-loop-filled
invariant-loop-filled g l = record {
  filled : l.filled ≤ vec_len l.bytes;
  within : vec_len l.bytes ≤ l.limit;
  consumed : Consumes (g.S.Source.remaining l.initial.source) (g.S.Source.remaining l.source) (take l.filled (vec_items l.bytes));
  none_failed : g.S.Source.failures l.source ≡ g.S.Source.failures l.initial.source;
}

abbrev pub decreases-loop-filled : goal.decreases-loop-filled
decreases-loop-filled g l = l.limit - l.filled
