-- A line that breaks no rule keeps each rule.
use Rattle.std.proofs.Common.{◌≡◌, Bool, true, List, Option, Some, None, arith}
use Rattle.recordings.specs.RecordingLine.{RecordedLine}
use Rattle.recordings.specs.Rules.{first_broken_rule, keeps_frame, keeps_pools, keeps_numbers, keeps_rounds, keeps_jobs, keeps_refusals, keeps_gets}
use Rattle.recordings.specs.declared.rule.LineRule.{LineRule}
use Rattle.recordings.specs.declared.rule.LineRule.TheVariants.{Frame, Pools, Numbers, Rounds, Jobs, Refusals, Gets}
use Rattle.std.proofs.Common.{if◌then◌else◌, not, false}

pub record Keeps (before : List RecordedLine) (line : RecordedLine) : Type 0 where
  pub frame : keeps_frame before line ≡ true
  pub pools : keeps_pools before line ≡ true
  pub numbers : keeps_numbers before line ≡ true
  pub rounds : keeps_rounds before line ≡ true
  pub jobs : keeps_jobs before line ≡ true
  pub refusals : keeps_refusals before line ≡ true
  pub gets : keeps_gets before line ≡ true

-- if the choice results in no rule, then the first test holds and the rest results in no rule
passes : (holds : Bool) (rule : LineRule) (rest : Option LineRule) → (if not holds then Some rule else rest) ≡ None → (holds ≡ true) × (rest ≡ None)
passes true rule rest h = grind arith
passes false rule rest h = grind arith

pub keeps_all : (before : List RecordedLine) (line : RecordedLine) → first_broken_rule before line ≡ None → Keeps before line
keeps_all before line unbroken =
    let p1 = passes (keeps_frame before line) Frame _ unbroken in
    let p2 = passes (keeps_pools before line) Pools _ p1.1 in
    let p3 = passes (keeps_numbers before line) Numbers _ p2.1 in
    let p4 = passes (keeps_rounds before line) Rounds _ p3.1 in
    let p5 = passes (keeps_jobs before line) Jobs _ p4.1 in
    let p6 = passes (keeps_refusals before line) Refusals _ p5.1 in
    let p7 = passes (keeps_gets before line) Gets _ p6.1 in
    record { frame = p1.0; pools = p2.0; numbers = p3.0; rounds = p4.0; jobs = p5.0; refusals = p6.0; gets = p7.0 }
