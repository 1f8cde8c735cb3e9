use Rattle.std.proofs.Common.{rules}
use Rattle.byte_streams.proofs.KnownBytes.{Written-more, Written-front}
use Rattle.byte_streams.proofs.writing.write_all.Goals as goal

pub returns-in_err-count-clause-err : goal.returns-in_err-count-clause-err
returns-in_err-count-clause-err g c =
    let front = Written-front _ _ _ _ c.loop-rest.rest.now c.loop-rest.invariant.written (search rules) c.in_err-count.ensures.bytes in search (rules, front)

pub loop-rest-preserved : goal.loop-rest-preserved
loop-rest-preserved g c = record {
  written = Written-more _ _ _ _ c.loop-rest.rest.now c.in_ok-count.count c.loop-rest.invariant.written c.in_ok-count.ensures.bytes;
  none_failed = search rules;
}
