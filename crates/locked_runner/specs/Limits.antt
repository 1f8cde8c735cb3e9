-- The limits of a run.
use Rattle.std.specs.Prelude.{ℕ, Bool, ◌||◌, nat_lt, if◌then◌else◌, sum_by}
use Rattle.std.specs.List.{list_any}
use Rattle.job_bodies.specs.Plan.{Plan}
use Rattle.weights.specs.Ranks.{Ranks}
use Rattle.locked_runner.specs.Carriers.{carriers}
use Rattle.locked_runner.specs.RunNumbers.{most_events}
use Rattle.job_bodies.specs.declared.limits.TheConstants.{MAX_RUN_CLIENTS, MAX_RUN_CARRIERS, MAX_RUN_EVENTS}
use Rattle.locked_runner.specs.declared.limits.RunLimit.{RunLimit}
use Rattle.locked_runner.specs.declared.limits.RunLimit.TheVariants.{Rejections, Clients, Threads, Events}

-- whether at least one of the pools may reject jobs
abbrev pub may_reject : Plan → Bool
may_reject plan = list_any (λ pool. pool.may_reject) plan.pools

-- the number of clients of all kinds
abbrev pub clients : Plan → ℕ
clients plan = sum_by (λ client. client.count) plan.clients

-- the number of threads that a run has for all pools together
abbrev pub workers : Plan → ℕ
workers plan = sum_by carriers plan.pools

-- whether a run of the plan exceeds a limit; `events` is the upper bound of its number of events
abbrev pub exceeds_limits : Plan → ℕ → Bool
exceeds_limits plan events = may_reject plan || nat_lt MAX_RUN_CLIENTS (clients plan) || nat_lt MAX_RUN_CARRIERS (workers plan) || nat_lt MAX_RUN_EVENTS events

abbrev pub is_too_large : Plan → Ranks → ℕ → Bool
is_too_large plan ranks rounds = exceeds_limits plan (most_events plan ranks rounds)

-- The limit to report for a run that is too large. It is the first of these limits that the plan exceeds: on rejecting pools,
-- on clients, on threads. If the plan exceeds none of them, it is the limit on events.
abbrev pub limit_of : Plan → RunLimit
limit_of plan = if may_reject plan then Rejections else if nat_lt MAX_RUN_CLIENTS (clients plan) then Clients else if nat_lt MAX_RUN_CARRIERS (workers plan) then Threads else Events
