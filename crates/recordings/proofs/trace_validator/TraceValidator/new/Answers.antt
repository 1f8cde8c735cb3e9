use Rattle.std.proofs.Common.{false, refl}
use Rattle.recordings.specs.declared.trace_validator.TraceValidator.{TraceValidator}
use Rattle.recordings.proofs.StateAfter.{stands_none}
use Rattle.recordings.proofs.trace_validator.TraceValidator.new.Goals as goal

pub returns : goal.returns
returns c =
    let lines : TraceValidator = record { begun = false; closed = false; pools = c.new.result; rounds = c.new-2.result; jobs = c.new-3.result } in
    stands_none lines refl refl c.new.ensures c.new-2.ensures.begun c.new-2.ensures.going c.new-3.ensures.submitted c.new-3.ensures.unfinished
