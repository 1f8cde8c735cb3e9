-- Complete histories.
use Rattle.std.specs.Prelude.{◌≡◌, ◌<◌, ◌+◌, ◌-◌, ◌*◌, ◌==◌, ℕ, Bool, false, List, length, count_by, slice_get, slice_index, Some, if◌then◌else◌}
use Rattle.std.specs.Option.{option_map}
use Rattle.job_bodies.specs.Plan.{Plan, Client, client_at}
use Rattle.pool_machine.specs.declared.event.Event.{Event}
use Rattle.pool_machine.specs.declared.event.Event.TheVariants as event
use Rattle.pool_machine.specs.State.{State, is_unfinished}
use Rattle.locked_runner.specs.Owner.{kinds_of}

-- the number of times a client of this kind performs its body
abbrev pub rounds_of : ℕ → Client → ℕ
rounds_of rounds client = if client.repeat then rounds else 1

-- the number of events of a client: those of its rounds, and one event between two consecutive rounds
abbrev pub events_of_client : ℕ → Client → ℕ
events_of_client rounds client = rounds_of rounds client * length client.body + rounds_of rounds client - 1

abbrev pub is_of_client : ℕ → Event → Bool
is_of_client c (event.Client d) = c == d
is_of_client c _ = false

-- the list has, for each client, the number of its events in the history
abbrev pub AreMadeIn : List Event → List ℕ → Type 0
AreMadeIn history made = (c : ℕ) → c < length made → slice_index made c ≡ count_by (is_of_client c) history

-- client c has performed all events of its rounds, and is at the end of its body
pub record IsCompleteClient (rounds : ℕ) (history : List Event) (s : State) (c : ℕ) (client : Client) : Type 0 where
  pub events : count_by (is_of_client c) history ≡ events_of_client rounds client
  pub at_end : option_map (λ client. client.position) (slice_get s.clients c) ≡ Some (length client.body)

-- each client has finished, and no job is unfinished
pub record IsComplete (plan : Plan) (rounds : ℕ) (history : List Event) (s : State) : Type 0 where
  pub clients : (c kind : ℕ) → slice_get (kinds_of plan) c ≡ Some kind → IsCompleteClient rounds history s c (client_at plan kind)
  pub finished : count_by (λ job. is_unfinished job.stage) s.jobs ≡ 0
