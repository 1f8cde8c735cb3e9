-- The description of a witness.
use Rattle.std.specs.Prelude.{◌≡◌, ◌↔◌, ◌==◌, ℕ, Bool, if◌then◌else◌, List, [], ◌∷◌, ◌++◌, length, flat_map, codes, decimal, Contains}
use Rattle.std.specs.List.{list_any}
use Rattle.std.specs.List.Sorted.{IsStrictlyIncreasing}
use Rattle.job_bodies.specs.Plan.{Pool, Plan, pool_at}
use Rattle.pool_machine.specs.declared.event.Event.{Event}
use Rattle.pool_machine.specs.declared.event.Event.TheVariants.{Client, Job, Take, Retire}
use Rattle.counterexample.specs.declared.ending.Ending.{Ending}
use Rattle.counterexample.specs.declared.ending.Ending.TheVariants.{Refused, StuckForever, StuckNow}
use Rattle.counterexample.specs.declared.ending.Reason.{Reason}
use Rattle.counterexample.specs.declared.ending.Reason.TheVariants.{PoolsAreFull, PoolsStayAtCore}
use Rattle.counterexample.specs.declared.witness.Witness.{Witness}
use Rattle.counterexample.specs.EventLines.{stuck_members}
use Rattle.report.specs.Story.{story_text}

-- the text that says how many jobs wait only for each other
abbrev pub jobs_wait : List ℕ → List ℕ
jobs_wait members = decimal (length members) ++ codes " jobs wait only for each other"

-- the text of the witness's ending
abbrev pub ending_text : Plan → Ending → List ℕ
ending_text plan (Refused p) = codes "refused by " ++ (pool_at plan p).name
ending_text plan (StuckForever members reason) = codes "stuck forever: " ++ jobs_wait members.items
ending_text plan (StuckNow members) = codes "stuck now: " ++ jobs_wait members.items

-- a list of the client that performs the event; empty if no client performs it
abbrev pub active_client_of : Event → List ℕ
active_client_of (Client client) = client ∷ []
active_client_of (Job job) = []
active_client_of (Take pool) = []
active_client_of (Retire pool) = []

-- the clients that perform the events, in the order of the events; a client occurs once for each event that it performs
abbrev pub active_clients : List Event → List ℕ
active_clients = flat_map active_client_of

-- `count` is the number of different clients that act in the events
pub record IsActiveClientCount (events : List Event) (count : ℕ) : Type 0 where
  pub clients : List ℕ
  pub each_once : IsStrictlyIncreasing clients
  pub are_active_clients : (client : ℕ) → Contains clients client ↔ Contains (active_clients events) client
  pub count_is : count ≡ length clients

abbrev pub of_clients : ℕ → List ℕ
of_clients count = if count == 1 then codes " of 1 client" else codes " of " ++ decimal count ++ codes " clients"

-- the first line: the ending of the witness, the number of its events, and the number of clients that perform events
abbrev pub head : Plan → Witness → ℕ → List ℕ
head plan witness clients = (ending_text plan witness.ending ++ codes ", after " ++ decimal (length witness.events.items) ++ codes " events") ++ (of_clients clients ++ 10 ∷ [])

-- core threads of some pool may time out
abbrev pub has_timeouts : Plan → Bool
has_timeouts plan = list_any (λ (pool : Pool). pool.core_timeout) plan.pools

-- the words for the thread whose start may end a wait. If core threads may time out, this can be a core thread
abbrev pub started_words : Bool → List ℕ
started_words timeouts = if timeouts then codes "another thread" else codes "a thread above core"

-- the last line, if the start of a thread may end the wait
abbrev pub until_line : Bool → List ℕ
until_line timeouts = codes "until a pool with one of them in its queue starts " ++ (started_words timeouts ++ 10 ∷ [])

-- the last line, if the wait is permanent
abbrev pub forever_line : Reason → List ℕ
forever_line PoolsAreFull = codes "forever: each pool with one of them in its queue has all its threads" ++ 10 ∷ []
forever_line PoolsStayAtCore = codes "forever: no pool with one of them in its queue ever starts another thread" ++ 10 ∷ []

-- the last line: why the jobs wait permanently, or what may end their wait. Empty if the witness ends with a refused submit
abbrev pub why_text : Plan → Ending → List ℕ
why_text plan (Refused p) = []
why_text plan (StuckForever members reason) = forever_line reason
why_text plan (StuckNow members) = until_line (has_timeouts plan)

-- the text is the first line, the story, and the last line
pub record IsDescription (plan : Plan) (witness : Witness) (text : List ℕ) : Type 0 where
  pub clients : ℕ
  pub clients_are : IsActiveClientCount witness.events.items clients
  pub is : text ≡ (head plan witness clients ++ story_text plan witness.events.items (stuck_members witness.ending)) ++ why_text plan witness.ending
