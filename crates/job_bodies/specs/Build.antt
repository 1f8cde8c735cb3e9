-- The result of `Plan::build`: a plan with these lists, or their first fault.
use Rattle.std.specs.Prelude.{nat_le, List, length, take, map, Result, Ok}
use Rattle.support.specs.Reading.{◌>>=◌, ensure, check_each}
use Rattle.job_bodies.specs.declared.fault.PlanFault.{PlanFault}
use Rattle.job_bodies.specs.declared.fault.Part.TheVariants as part
use Rattle.support.specs.declared.number.TheConstants.{TOO_MANY}
use Rattle.job_bodies.specs.declared.limits.TheConstants.{MAX_POOLS, MAX_CLASSES, MAX_CLIENT_KINDS}
use Rattle.job_bodies.specs.Plan.{Pool, Class, Client, Plan}
use Rattle.job_bodies.specs.Checks.{at_text, check_pool, check_class, check_client, check_length, check_body}

-- a plan with these lists; it need not be well-formed
abbrev pub plan_of_lists : List Pool → List Class → List Client → Plan
plan_of_lists pools classes clients = record { pools = pools; classes = classes; clients = clients }

-- Ok if each list has at most its maximum number of entries, and otherwise a fault
abbrev pub check_counts : Plan → Result (Unit {0}) PlanFault
check_counts plan =
    ensure (nat_le (length plan.pools) MAX_POOLS) (at_text TOO_MANY) >>= λ _.
    ensure (nat_le (length plan.classes) MAX_CLASSES) (at_text TOO_MANY) >>= λ _.
    ensure (nat_le (length plan.clients) MAX_CLIENT_KINDS) (at_text TOO_MANY)

-- Ok if each body has at most the maximum number of actions, and otherwise the first fault
abbrev pub check_lengths : Plan → Result (Unit {0}) PlanFault
check_lengths plan =
    check_each (λ index class. check_length part.Class index class.body) 0 plan.classes >>= λ _.
    check_each (λ index client. check_length part.Client index client.body) 0 plan.clients

-- Ok if the names and numbers of all pools, classes and client kinds are valid, and otherwise the first fault
abbrev pub check_entries : Plan → Result (Unit {0}) PlanFault
check_entries plan =
    check_each (λ index. check_pool (take index (map (λ pool. pool.name) plan.pools)) index) 0 plan.pools >>= λ _.
    check_each (λ index. check_class (length plan.pools) (take index (map (λ class. class.name) plan.classes)) index) 0 plan.classes >>= λ _.
    check_each (λ index. check_client (take index (map (λ client. client.name) plan.clients)) index) 0 plan.clients

-- Ok if all actions of all bodies are valid, and otherwise the first fault
abbrev pub check_bodies : Plan → Result (Unit {0}) PlanFault
check_bodies plan =
    check_each (λ index class. check_body (length plan.classes) part.Class index class.body) 0 plan.classes >>= λ _.
    check_each (λ index client. check_body (length plan.classes) part.Client index client.body) 0 plan.clients

-- the plan if it is well-formed, and otherwise its first fault
abbrev pub build : Plan → Result Plan PlanFault
build plan = check_counts plan >>= λ _. check_lengths plan >>= λ _. check_entries plan >>= λ _. check_bodies plan >>= λ _. Ok plan
