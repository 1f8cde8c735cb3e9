-- The live view of a state: the live jobs, the pools, the clients and the number of refusals. A running world stores this part of the
-- state.
use Rattle.std.specs.Prelude.{ℕ, ◌==◌, ◌&&◌, Bool, true, false, List, map, Option, Some, None, if◌then◌else◌}
use Rattle.std.specs.List.{enumerate_from}
use Rattle.job_bodies.specs.Plan.{Plan}
use Rattle.pool_machine.specs.PoolState.{PoolView}
use Rattle.pool_machine.specs.declared.client_state.ClientState.{ClientState}
use Rattle.pool_machine.specs.declared.parent.Parent.{Parent}
use Rattle.pool_machine.specs.declared.parent.Parent.TheVariants as parent
use Rattle.interleaving.specs.declared.job_view.Phase.{Phase}
use Rattle.interleaving.specs.declared.job_view.Phase.TheVariants as phase
use Rattle.interleaving.specs.declared.job_view.JobView.{JobView}
use Rattle.pool_machine.specs.State.{Stage, CreatedJob, State, job_at, pool_seen, is_unfinished, child}
use Rattle.pool_machine.specs.State.Stage.{Queued, At, Done, Claimed}

-- the actor may still get jobs that it created: it is a client, or an unfinished job
abbrev pub may_get : State → Parent → Bool
may_get s (parent.Client c) = true
may_get s (parent.Job j) = is_unfinished (job_at s j).stage

abbrev pub is_number : Option ℕ → ℕ → Bool
is_number None j = false
is_number (Some i) j = i == j

-- the phase of job j in the live view, or None if the job is not live; a done job is live only if it is the latest of its submit and its
-- parent may still get it
abbrev pub phase_seen : State → ℕ → CreatedJob → Stage → Option Phase
phase_seen s j job Queued = Some phase.Queued
phase_seen s j job (At i) = Some (phase.At i)
phase_seen s j job Done = if may_get s job.parent && is_number (child s job.parent job.slot) j then Some phase.Done else None
phase_seen s j job Claimed = None

abbrev pub job_with : CreatedJob → Option Phase → Option JobView
job_with job None = None
job_with job (Some phase) = Some (record { class = job.class; parent = job.parent; slot = job.slot; phase = phase })

abbrev pub job_seen : State → ℕ → CreatedJob → Option JobView
job_seen s j job = job_with job (phase_seen s j job job.stage)

-- a live view: for each job number the live job, or None if that job is not live; the pools with their sizes; the clients; and the number
-- of refusals
pub record View : Type 0 where
  pub jobs : List (Option JobView)
  pub pools : List PoolView
  pub clients : List ClientState
  pub refusals : ℕ

abbrev pub live_view : Plan → State → View
live_view plan s = record {
  jobs = map (λ entry. job_seen s entry.0 entry.1) (enumerate_from 0 s.jobs);
  pools = map (λ entry. pool_seen plan s entry.0) (enumerate_from 0 plan.pools);
  clients = s.clients;
  refusals = s.refusals;
}
