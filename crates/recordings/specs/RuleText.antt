-- The text of a rule.
use Rattle.std.specs.Prelude.{ℕ, List, codes}
use Rattle.recordings.specs.declared.rule.LineRule.{LineRule}
use Rattle.recordings.specs.declared.rule.LineRule.TheVariants.{Frame, Pools, Numbers, Rounds, Jobs, Refusals, Gets}

abbrev pub rule_text : LineRule → List ℕ
rule_text Frame = codes "O1: the first line, and no other, is `recording 1`; no line follows `end`"
rule_text Pools = codes "O2: a `pool` line comes before each line that names the pool"
rule_text Numbers = codes "O3: `submit` lines are numbered 0, 1, 2 and so on, and so are `begin` lines; a line that names a job comes after its `submit` line"
rule_text Rounds = codes "O4: the lines of a round are between its `begin` line and its `end` line"
rule_text Jobs = codes "O5: a job has at most one `start` line; its own lines come after it, and the last of them is `end` or `threw`"
rule_text Refusals = codes "O6: `refused` follows the actor's `submit` of the job, with no other line of the actor between them, and comes before the job's `start`"
rule_text Gets = codes "O7: `got` comes after an `end`, `threw` or `cancel` line of the job"
