-- The checks of one entry of a plan. Each is Ok or a fault. The parser of plans makes the same checks.
use Rattle.std.specs.Prelude.{ℕ, not, nat_lt, nat_le, List, length, None, Some, Result}
use Rattle.std.specs.List.{list_any}
use Rattle.std.specs.Str.{bytes_eq}
use Rattle.support.specs.Reading.{◌>>=◌, ensure, check_each}
use Rattle.job_bodies.specs.declared.action.Action.{Action}
use Rattle.job_bodies.specs.declared.action.Action.TheVariants.{Work, Submit, Get}
use Rattle.job_bodies.specs.declared.fault.PlanFault.{PlanFault}
use Rattle.job_bodies.specs.declared.fault.Part.{Part}
use Rattle.job_bodies.specs.declared.fault.Part.TheVariants as part
use Rattle.support.specs.declared.number.TheConstants.{TOO_MANY, BAD_NAME, DOUBLE_NAME, BAD_NUMBER, NO_SUCH_POOL, NO_SUCH_CLASS, SLOT_EMPTY}
use Rattle.job_bodies.specs.declared.limits.TheConstants.{MAX_ACTIONS, MAX_SIZE, MAX_WORK}
use Rattle.job_bodies.specs.Plan.{Pool, Class, Client}
use Rattle.job_bodies.specs.WellFormed.{is_valid_name, has_valid_sizes, is_within, is_valid_get}

-- the fault with this number, of the text or of the plan as a whole
abbrev pub at_text : ℕ → PlanFault
at_text number = record { number = number; part = part.Text; index = 0; action = None }

-- the fault with this number, of the entry at `index` in the list for `part`
abbrev pub at_entry : Part → ℕ → ℕ → PlanFault
at_entry part index number = record { number = number; part = part; index = index; action = None }

-- the fault with this number, of an action at position `action` in a body; the entry with this body is at `index` in the list
-- for `part`
abbrev pub at_action : Part → ℕ → ℕ → ℕ → PlanFault
at_action part index action number = record { number = number; part = part; index = index; action = Some action }

-- the check that a name is valid and is not one of `earlier`, the earlier names of its list
abbrev pub check_name : List (List ℕ) → Part → ℕ → List ℕ → Result (Unit {0}) PlanFault
check_name earlier part index name =
    ensure (is_valid_name name) (at_entry part index BAD_NAME) >>= λ _. ensure (not (list_any (bytes_eq name) earlier)) (at_entry part index DOUBLE_NAME)

-- the check of the pool at `index`; `earlier` are the names of the pools before it
abbrev pub check_pool : List (List ℕ) → ℕ → Pool → Result (Unit {0}) PlanFault
check_pool earlier index pool =
    check_name earlier part.Pool index pool.name >>= λ _. ensure (has_valid_sizes pool) (at_entry part.Pool index BAD_NUMBER)

-- the check of the class at `index`, in a plan with `pools` pools; `earlier` are the names of the classes before it
abbrev pub check_class : ℕ → List (List ℕ) → ℕ → Class → Result (Unit {0}) PlanFault
check_class pools earlier index class =
    check_name earlier part.Class index class.name >>= λ _. ensure (nat_lt class.pool pools) (at_entry part.Class index NO_SUCH_POOL)

-- the check of the client kind at `index`; `earlier` are the names of the client kinds before it
abbrev pub check_client : List (List ℕ) → ℕ → Client → Result (Unit {0}) PlanFault
check_client earlier index client =
    check_name earlier part.Client index client.name >>= λ _. ensure (is_within 1 MAX_SIZE client.count) (at_entry part.Client index BAD_NUMBER)

-- the check that a body has at most the maximum number of actions
abbrev pub check_length : Part → ℕ → List Action → Result (Unit {0}) PlanFault
check_length part index body = ensure (nat_le (length body) MAX_ACTIONS) (at_entry part index TOO_MANY)

-- the check of the action at position i of a body, in a plan with `classes` classes
abbrev pub check_action : ℕ → Part → ℕ → List Action → ℕ → Action → Result (Unit {0}) PlanFault
check_action classes part index body i (Work u) = ensure (is_within 1 MAX_WORK u) (at_action part index i BAD_NUMBER)
check_action classes part index body i (Submit k) = ensure (nat_lt k classes) (at_action part index i NO_SUCH_CLASS)
check_action classes part index body i (Get t) = ensure (is_valid_get body i t) (at_action part index i SLOT_EMPTY)

-- the check of all actions of a body in order, in a plan with `classes` classes
abbrev pub check_body : ℕ → Part → ℕ → List Action → Result (Unit {0}) PlanFault
check_body classes part index body = check_each (check_action classes part index body) 0 body
