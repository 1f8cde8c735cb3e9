-- The loop of `write_all`: the bytes that are no longer in `rest` were appended to the sink, and no call failed.
use Rattle.std.proofs.Common.{◌≡◌, length}
use Rattle.byte_streams.proofs.KnownBytes.{Written}
use Rattle.byte_streams.proofs.writing.write_all.Given as goal

abbrev pub invariant-loop-rest : goal.invariant-loop-rest
invariant-loop-rest g l = record {
  written : Written (g.K.Sink.written l.initial.sink) (g.K.Sink.written l.sink) l.bytes l.rest;
  none_failed : g.K.Sink.failures l.sink ≡ g.K.Sink.failures l.initial.sink;
}

abbrev pub decreases-loop-rest : goal.decreases-loop-rest
decreases-loop-rest g l = length l.rest
