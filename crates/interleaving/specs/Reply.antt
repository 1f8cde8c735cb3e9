-- The replies to event lines, and the last line of a replay.
use Rattle.std.specs.Prelude.{ℕ, true, false, List, [], ◌∷◌, ◌++◌, codes, Option, Some, None}
use Rattle.std.specs.Fmt.{decimal}
use Rattle.job_bodies.specs.Plan.{Plan, pool_at}
use Rattle.pool_machine.specs.declared.event.Outcome.{Outcome}
use Rattle.pool_machine.specs.declared.event.Outcome.TheVariants.{Started, Queued, Refused, Rejected, Worked, Got, Looped, Finished, Took, Retired}
use Rattle.interleaving.specs.declared.reply.Reply.{Reply}
use Rattle.interleaving.specs.declared.reply.Reply.TheVariants.{Performed, NotPossible, Stuck}

-- the text of the reply to an event that had this outcome
abbrev pub outcome_text : Plan → Outcome → List ℕ
outcome_text plan (Started j) = codes "started job " ++ decimal j
outcome_text plan (Queued j) = codes "queued job " ++ decimal j
outcome_text plan (Refused p) = codes "refused by " ++ (pool_at plan p).name
outcome_text plan (Rejected p j) = codes "rejected by " ++ (pool_at plan p).name ++ codes " as job " ++ decimal j
outcome_text plan (Worked u) = codes "worked " ++ decimal u
outcome_text plan (Got j) = codes "got job " ++ decimal j
outcome_text plan Looped = codes "looped"
outcome_text plan (Finished j) = codes "finished job " ++ decimal j
outcome_text plan (Took j) = codes "took job " ++ decimal j
outcome_text plan Retired = codes "retired"

-- the text of a reply, without the number and the newline
abbrev pub reply_text : Plan → Reply → List ℕ
reply_text plan (Performed outcome) = outcome_text plan outcome
reply_text plan NotPossible = codes "not possible"
reply_text plan (Stuck true) = codes "stuck yes"
reply_text plan (Stuck false) = codes "stuck no"

-- a line of the output: the number of the input line, a colon, the text and a newline
abbrev pub numbered : ℕ → List ℕ → List ℕ
numbered number text = decimal number ++ codes ": " ++ text ++ 10 ∷ []

-- the part of the last line with the number of rejected submits; empty if that is None
abbrev pub rejected_text : Option ℕ → List ℕ
rejected_text None = []
rejected_text (Some rejected) = codes ", rejected " ++ decimal rejected

-- the last line of a replay: the numbers of refused submits, of rejected submits, and of unfinished jobs. If the number of
-- rejected submits is None, the line does not have it.
abbrev pub summary : ℕ → Option ℕ → ℕ → List ℕ
summary refusals rejected unfinished =
    codes "refusals " ++ decimal refusals ++ rejected_text rejected ++ codes ", unfinished " ++ decimal unfinished ++ 10 ∷ []
