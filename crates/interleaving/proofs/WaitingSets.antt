-- The parts of the test for a waiting set make up the whole test.
use Rattle.std.proofs.Common.{◌≡◌, ℕ, ◌==◌, ◌&&◌, not, Bool, true, false, IsTrue, ◌↔◌, List, [], ◌∷◌, length, Option, Some, None, refl, sym, ap, subst, ◌∙◌, eq-eqb}
use Rattle.std.specs.List.{list_all}
use Rattle.std.proofs.lemmas.Bool.{both_ways, false_from_ne_true, and_parts, eqb-true}
use Rattle.support.specs.In.{In}
use Rattle.support.proofs.Members.{list_all_at_In, list_all_from_In, list_any_at_In, In-from_list_any}
use Rattle.job_bodies.specs.Plan.{Plan}
use Rattle.job_bodies.specs.WellFormed.{IsWellFormed}
use Rattle.pool_machine.specs.State.{pool_of}
use Rattle.pool_machine.specs.Waiting.{is_none}
use Rattle.interleaving.specs.declared.job_view.Phase.{Phase}
use Rattle.interleaving.specs.declared.job_view.Phase.TheVariants as phase
use Rattle.interleaving.specs.declared.job_view.JobView.{JobView}
use Rattle.interleaving.specs.LiveView.{View}
use Rattle.interleaving.specs.ViewStep.{live_job}
use Rattle.interleaving.specs.OfPlan.{IsReachableView}
use Rattle.interleaving.specs.Waiting.{waits_in_queue_of, waits_in_phase, waits_job, waits_in, is_waiting_set_in}
use Rattle.interleaving.specs.Stuck.{is_in_queue, is_queued_job, waits_unless_queued, job_waits_unless_queued, unqueued_wait, QueuesWait}
use Rattle.interleaving.proofs.OfPlan.{pool_of_live_job}

-- ---- one member

unless_queued_from_phase : (plan : Plan) (view : View) (members : List ℕ) (j k : ℕ) (phase : Phase) → waits_in_phase plan view members j k phase ≡ true → waits_unless_queued plan view members j k phase ≡ true
unless_queued_from_phase plan view members j k phase.Queued e = refl
unless_queued_from_phase plan view members j k (phase.At i) e = e
unless_queued_from_phase plan view members j k phase.Done e = e

unless_queued_from_waits : (plan : Plan) (view : View) (members : List ℕ) (j : ℕ) (job : Option JobView) → waits_job plan view members j job ≡ true → job_waits_unless_queued plan view members j job ≡ true
unless_queued_from_waits plan view members j None e = e
unless_queued_from_waits plan view members j (Some job) e = unless_queued_from_phase plan view members j job.class job.phase e

phase_waits : (plan : Plan) (view : View) (members : List ℕ) (j k : ℕ) (phase : Phase) → waits_unless_queued plan view members j k phase ≡ true → (is_in_queue phase ≡ true → waits_in_queue_of plan view members (pool_of plan k) ≡ true) → waits_in_phase plan view members j k phase ≡ true
phase_waits plan view members j k phase.Queued e queue = queue refl
phase_waits plan view members j k (phase.At i) e queue = e
phase_waits plan view members j k phase.Done e queue = e

queue_of_phase : (plan : Plan) (view : View) (members : List ℕ) (j k : ℕ) (phase : Phase) → is_in_queue phase ≡ true → waits_in_phase plan view members j k phase ≡ true → waits_in_queue_of plan view members (pool_of plan k) ≡ true
queue_of_phase plan view members j k phase.Queued queued e = e
queue_of_phase plan view members j k (phase.At i) queued e = absurd cc
queue_of_phase plan view members j k phase.Done queued e = absurd cc

-- if a queued job of pool p waits only for members, no worker of pool p is idle and every job that runs in it is a member
queue_of_job : (plan : Plan) (view : View) (members : List ℕ) (p j : ℕ) (job : Option JobView) → is_queued_job plan p job ≡ true → waits_job plan view members j job ≡ true → waits_in_queue_of plan view members p ≡ true
queue_of_job plan view members p j None queued e = absurd cc
queue_of_job plan view members p j (Some job) queued e =
    let parts = and_parts (is_in_queue job.phase) (pool_of plan job.class == p) queued in
    let pool : pool_of plan job.class ≡ p = eqb-true (pool_of plan job.class) p parts.1 in
    subst (λ q. waits_in_queue_of plan view members q ≡ true) pool (queue_of_phase plan view members j job.class job.phase parts.0 e)

job_waits : (plan : Plan) (view : View) (members : List ℕ) (j : ℕ) (job : Option JobView) → job_waits_unless_queued plan view members j job ≡ true
    → ((live : JobView) → job ≡ Some live → is_in_queue live.phase ≡ true → waits_in_queue_of plan view members (pool_of plan live.class) ≡ true) → waits_job plan view members j job ≡ true
job_waits plan view members j None e queue = e
job_waits plan view members j (Some job) e queue = phase_waits plan view members j job.class job.phase e (queue job refl)

-- ---- all members

member_waits : (plan : Plan) (view : View) (members : List ℕ) (j : ℕ) → IsReachableView plan view → IsWellFormed plan → QueuesWait plan view members → In j members → job_waits_unless_queued plan view members j (live_job view.jobs j) ≡ true → waits_in plan view members j ≡ true
member_waits plan view members j of w queues i e =
    job_waits plan view members j (live_job view.jobs j) e (λ live found queued.
    let p = pool_of plan live.class in
    let is_queued : is_queued_job plan p (live_job view.jobs j) ≡ true = ap (is_queued_job plan p) found ∙ ap (λ b. b && p == p) queued ∙ eq-eqb p p refl in
    queues p (pool_of_live_job plan view j live of w found) (list_any_at_In (λ n. is_queued_job plan p (live_job view.jobs n)) i is_queued))

all_wait : (plan : Plan) (view : View) (members : List ℕ) → IsReachableView plan view → IsWellFormed plan → QueuesWait plan view members → unqueued_wait plan view members ≡ true → list_all (waits_in plan view members) members ≡ true
all_wait plan view members of w queues e =
    list_all_from_In (waits_in plan view members) members (λ j i. member_waits plan view members j of w queues i (list_all_at_In (λ n. job_waits_unless_queued plan view members n (live_job view.jobs n)) e i))

queues_of_all : (plan : Plan) (view : View) (members : List ℕ) → list_all (waits_in plan view members) members ≡ true → QueuesWait plan view members
queues_of_all plan view members e p inside queued =
    let found = In-from_list_any (λ j. is_queued_job plan p (live_job view.jobs j)) members queued in
    queue_of_job plan view members p found.0 (live_job view.jobs found.0) found.2 (list_all_at_In (waits_in plan view members) e found.1)

others_of_all : (plan : Plan) (view : View) (members : List ℕ) → list_all (waits_in plan view members) members ≡ true → unqueued_wait plan view members ≡ true
others_of_all plan view members e =
    list_all_from_In (λ j. job_waits_unless_queued plan view members j (live_job view.jobs j)) members (λ j i. unless_queued_from_waits plan view members j (live_job view.jobs j) (list_all_at_In (waits_in plan view members) e i))

-- if some pool's queue contains a member and the pool fails its test, the members are not a waiting set
pub none_without_queues : (plan : Plan) (view : View) (members : List ℕ) (queues : Bool) → (IsTrue queues ↔ QueuesWait plan view members) → queues ≡ false → is_waiting_set_in plan view members ≡ false
none_without_queues plan view members queues iff e =
    false_from_ne_true _ (λ set. both_ways queues e (iff.1 (queues_of_all plan view members (and_parts (not (is_none members)) _ set).1)))

waits_at_stage_others : (plan : Plan) (view : View) (members : List ℕ) (others : Bool) → IsReachableView plan view → IsWellFormed plan → QueuesWait plan view members → unqueued_wait plan view members ≡ others → list_all (waits_in plan view members) members ≡ others
waits_at_stage_others plan view members true of w queues e = all_wait plan view members of w queues e
waits_at_stage_others plan view members false of w queues e = false_from_ne_true _ (λ all. both_ways _ e (others_of_all plan view members all))

-- if each pool whose queue contains a member passes its test, the members are a waiting set exactly when each member that is not queued is
-- at a get of a member
pub set_as_others : (plan : Plan) (view : View) (members : List ℕ) (others : Bool) → IsReachableView plan view → IsWellFormed plan → is_none members ≡ false → QueuesWait plan view members → others ≡ unqueued_wait plan view members → others ≡ is_waiting_set_in plan view members
set_as_others plan view members others of w some queues e = sym (ap (λ b. not b && list_all (waits_in plan view members) members) some ∙ waits_at_stage_others plan view members others of w queues (sym e))

-- a list whose length is not 0 is not empty
pub some_members : (members : List ℕ) → (length members == 0) ≡ false → is_none members ≡ false
some_members [] e = e
some_members (j ∷ js) e = refl
