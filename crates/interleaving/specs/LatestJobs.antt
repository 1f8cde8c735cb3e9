-- The abstract view of the map from submit calls to the latest jobs that they created.
use Rattle.std.specs.Prelude.{ℕ, ◌==◌, ◌&&◌, Bool, Option}
use Rattle.pool_machine.specs.declared.parent.Parent.{Parent}
use Rattle.pool_machine.specs.declared.parent.Parent.TheVariants as parent
use Rattle.pool_machine.specs.State.{same_parent}
use Rattle.interleaving.specs.SubmitMap.{SubmitMapView, number_at}

-- the latest jobs: a map for the submit calls of clients, and one for those of jobs
pub record LatestJobsView : Type 0 where
  pub of_clients : SubmitMapView
  pub of_jobs : SubmitMapView

-- the number of the latest job that the actor created by the submit at position t
abbrev pub found : LatestJobsView → Parent → ℕ → Option ℕ
found list (parent.Client c) t = number_at list.of_clients (c, t)
found list (parent.Job j) t = number_at list.of_jobs (j, t)

-- the number of further submit calls for which memory is reserved in the map of this actor: the map for clients or the map for
-- jobs
abbrev pub latest_room : LatestJobsView → Parent → ℕ
latest_room list (parent.Client c) = list.of_clients.room
latest_room list (parent.Job j) = list.of_jobs.room

-- the submit call of actor a at position t is that of actor b at position u
abbrev pub is_call : Parent → ℕ → Parent → ℕ → Bool
is_call a t b u = same_parent a b && t == u
