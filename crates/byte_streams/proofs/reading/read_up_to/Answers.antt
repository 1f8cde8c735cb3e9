use Rattle.std.proofs.Common.{rules}
use Rattle.byte_streams.proofs.KnownBytes.{Consumes-filled}
use Rattle.byte_streams.proofs.reading.read_up_to.Goals as goal

pub loop-filled-preserved : goal.loop-filled-preserved
loop-filled-preserved g c =
    let read = c.in_ok-count.ensures in record {
      filled = search rules;
      within = search rules;
      consumed = Consumes-filled _ _ _ c.loop-filled.bytes.items c.read_at.new.bytes.items c.loop-filled.filled c.in_ok-count.count (search rules) c.loop-filled.invariant.consumed read.ok;
      none_failed = search rules;
    }
