-- The parsed bodies, action by action. A class name becomes the index of the class. The slot of a get becomes the position of
-- the submit that filled the slot.
use Rattle.std.specs.Prelude.{ℕ, nat_lt, is_none, List, length, take, Option, Result, Ok}
use Rattle.support.specs.Reading.{◌>>=◌, ensure, ok_or, read_each}
use Rattle.job_bodies.specs.declared.action.Action.{Action}
use Rattle.job_bodies.specs.declared.action.Action.TheVariants.{Work, Submit, Get}
use Rattle.job_bodies.specs.declared.fault.PlanFault.{PlanFault}
use Rattle.job_bodies.specs.declared.fault.Part.{Part}
use Rattle.job_bodies.specs.declared.fault.Part.TheVariants as part
use Rattle.support.specs.declared.number.TheConstants.{NO_SUCH_CLASS, BAD_ACTION, SLOT_OPEN, SLOT_EMPTY}
use Rattle.job_bodies.specs.Plan.{Class, Client}
use Rattle.job_bodies.specs.Checks.{at_action}
use Rattle.plan_text.specs.Entries.{ClassEntry, ClientEntry}
use Rattle.plan_text.specs.Checks.{place_of}
use Rattle.plan_text.specs.ParsedActions.{ParsedAction, work, submit, submit_as, get, parse_action}
use Rattle.plan_text.specs.Slots.{filled}

-- the index of the class with this name; the fault NO_SUCH_CLASS if no class has it
abbrev pub class_named : List (List ℕ) → (ℕ → PlanFault) → List ℕ → Result ℕ PlanFault
class_named classes fault name =
    ensure (nat_lt (place_of classes name) (length classes)) (fault NO_SUCH_CLASS) >>= λ _. Ok (place_of classes name)

-- the action for a parsed action, or its fault. `slots` maps a filled slot to the position of the submit that filled it.
-- `fault` makes the fault with a given number.
abbrev pub action_of : List (List ℕ) → (List ℕ → Option ℕ) → (ℕ → PlanFault) → ParsedAction → Result Action PlanFault
action_of classes slots fault (work units) = Ok (Work units)
action_of classes slots fault (submit class) = class_named classes fault class >>= λ k. Ok (Submit k)
action_of classes slots fault (submit_as class slot) =
    class_named classes fault class >>= λ k. ensure (is_none (slots slot)) (fault SLOT_OPEN) >>= λ _. Ok (Submit k)
action_of classes slots fault (get slot) = ok_or (slots slot) (fault SLOT_EMPTY) >>= λ t. Ok (Get t)

-- the action with this text, or its fault. `slots` maps a filled slot to the position of the submit that filled it. `fault`
-- makes the fault with a given number.
unfoldable pub action_at : List (List ℕ) → (List ℕ → Option ℕ) → (ℕ → PlanFault) → List ℕ → Result Action PlanFault
action_at classes slots fault text =
    ok_or (parse_action text) (fault BAD_ACTION) >>= λ parsed_action. action_of classes slots fault parsed_action

-- the action at position i of a body, or its fault. `text` is the text of this action, and `texts` are the texts of the whole
-- body. The texts before position i determine which slots are filled.
abbrev pub action_among : List (List ℕ) → Part → ℕ → List (List ℕ) → ℕ → List ℕ → Result Action PlanFault
action_among classes part index texts i text = action_at classes (filled (take i texts)) (at_action part index i) text

-- the actions of a body with these texts, or the first fault
unfoldable pub body_of : List (List ℕ) → Part → ℕ → List (List ℕ) → Result (List Action) PlanFault
body_of classes part index texts = read_each (action_among classes part index texts) 0 texts

-- the class of an entry, with its body parsed, or the first fault of the body
abbrev pub class_of : List (List ℕ) → List (List ℕ) → ℕ → ClassEntry → Result Class PlanFault
class_of pools classes index class =
    body_of classes part.Class index class.body >>= λ body.
    Ok (record { name = class.name; pool = place_of pools class.pool; body = body })

-- the client kind of an entry, with its body parsed, or the first fault of the body
abbrev pub client_of : List (List ℕ) → ℕ → ClientEntry → Result Client PlanFault
client_of classes index client =
    body_of classes part.Client index client.body >>= λ body.
    Ok (record { name = client.name; count = client.count; repeat = client.repeat; body = body })
