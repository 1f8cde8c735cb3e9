-- The lines of the events, followed by the question, are the lines of the witness.
use Rattle.std.proofs.Common.{◌≡◌, ℕ, List, [], ◌∷◌, ◌++◌, map, refl, ap, ◌∙◌}
use Rattle.serde_json.specs.Data.{Data}
use Rattle.job_bodies.specs.Plan.{Plan}
use Rattle.pool_machine.specs.declared.event.Event.{Event}
use Rattle.interleaving.specs.EventLine.{Line, Perform}
use Rattle.counterexample.specs.EventLines.{question, lines_of}
use Rattle.report.specs.JsonWitness.{replay_line}

joined : (plan : Plan) (events : List Event) (more : List Line) → map (λ event. replay_line plan (Perform event)) events ++ map (replay_line plan) more ≡ map (replay_line plan) (map (λ event. Perform event) events ++ more)
joined plan [] more = refl
joined plan (e ∷ events) more = ap (λ (xs : List Data). replay_line plan (Perform e) ∷ xs) (joined plan events more)

pub all_lines : (plan : Plan) (events : List Event) (members : List ℕ) (front values : List Data) → front ≡ map (λ event. replay_line plan (Perform event)) events → values ≡ front ++ map (replay_line plan) (question members)
    → values ≡ map (replay_line plan) (lines_of events members)
all_lines plan events members front values is_front is_values =
    is_values ∙ ap (λ (xs : List Data). xs ++ map (replay_line plan) (question members)) is_front ∙ joined plan events (question members)
