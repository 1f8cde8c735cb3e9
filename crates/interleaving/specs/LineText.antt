-- The canonical text of event lines, and which lines are valid.
use Rattle.std.specs.Prelude.{ℕ, Bool, ◌&&◌, nat_lt, nat_le, List, [], ◌∷◌, ◌++◌, length, codes, decimal, flat_map}
use Rattle.std.specs.List.{list_all}
use Rattle.support.specs.LineNumber.{is_valid_number}
use Rattle.job_bodies.specs.Plan.{Plan, pool_at}
use Rattle.pool_machine.specs.declared.event.Event.{Event}
use Rattle.pool_machine.specs.declared.event.Event.TheVariants.{Client, Job, Take, Retire}
use Rattle.interleaving.specs.EventLine.{Line, Perform, Stuck}

-- the text of the line for this event, without a newline
abbrev pub event_text : Plan → Event → List ℕ
event_text plan (Client c) = codes "client " ++ decimal c
event_text plan (Job j) = codes "job " ++ decimal j
event_text plan (Take p) = codes "take " ++ (pool_at plan p).name
event_text plan (Retire p) = codes "retire " ++ (pool_at plan p).name

-- the text of a line, without a newline
abbrev pub line_text : Plan → Line → List ℕ
line_text plan (Perform event) = event_text plan event
line_text plan (Stuck members) = codes "stuck" ++ flat_map (λ n. 32 ∷ decimal n) members

-- the text of the lines, each followed by a newline
abbrev pub lines_text : Plan → List Line → List ℕ
lines_text plan lines = flat_map (λ line. line_text plan line ++ 10 ∷ []) lines

-- whether the event is valid: the number of its job or client is within the limit, or its pool exists
abbrev pub is_valid_event : Plan → Event → Bool
is_valid_event plan (Client c) = is_valid_number c
is_valid_event plan (Job j) = is_valid_number j
is_valid_event plan (Take p) = nat_lt p (length plan.pools)
is_valid_event plan (Retire p) = nat_lt p (length plan.pools)

-- whether the line is a valid event, or a question about at least one job whose numbers are within the limit
abbrev pub is_valid_line : Plan → Line → Bool
is_valid_line plan (Perform event) = is_valid_event plan event
is_valid_line plan (Stuck members) = nat_le 1 (length members) && list_all is_valid_number members
