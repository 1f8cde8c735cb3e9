-- The event lines of a witness, as `replay` reads them.
use Rattle.std.specs.Prelude.{ℕ, List, [], ◌∷◌, ◌++◌, map}
use Rattle.pool_machine.specs.declared.event.Event.{Event}
use Rattle.interleaving.specs.EventLine.{Line, Perform, Stuck}
use Rattle.counterexample.specs.declared.ending.Ending.{Ending}
use Rattle.counterexample.specs.declared.ending.Ending.TheVariants.{Refused, StuckForever, StuckNow}
use Rattle.counterexample.specs.declared.witness.Witness.{Witness}

-- the `stuck` line, which asks whether these jobs wait only for each other; no line if there are no jobs
abbrev pub question : List ℕ → List Line
question [] = []
question (j ∷ js) = Stuck (j ∷ js) ∷ []

-- the jobs that wait only for each other after the last event
abbrev pub stuck_members : Ending → List ℕ
stuck_members (Refused p) = []
stuck_members (StuckForever members reason) = members.items
stuck_members (StuckNow members) = members.items

-- a line for each event, and then the `stuck` line for these jobs, if there are any
abbrev pub lines_of : List Event → List ℕ → List Line
lines_of events members = map (λ event. Perform event) events ++ question members

abbrev pub witness_lines : Witness → List Line
witness_lines witness = lines_of witness.events.items (stuck_members witness.ending)
