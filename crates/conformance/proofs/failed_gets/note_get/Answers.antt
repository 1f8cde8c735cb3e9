use Rattle.std.proofs.Common.{arith}
use Rattle.conformance.proofs.FailedGetsAfter.{counted_once}
use Rattle.conformance.proofs.failed_gets.note_get.Goals as goal

pub returns : goal.returns
returns c = λ few.
    let count = c.count_of.ensures in
    let more = c.saturating_add-count.ensures in
    counted_once c.args.get c.saturating_add-count.result c.args.counts.now c.insert.new.self (omega (arith, few, count, more)) c.in_ok-insert.ensures.updates.0
