-- Exchanges of the jobs that an actor submitted at two positions of its body. A get of one submit then finds the job of the
-- other one, so an actor can get jobs of one class in any order.
use Rattle.std.specs.Prelude.{◌≡◌, ◌≢◌, ◌==◌, ◌&&◌, not, if◌then◌else◌, ℕ, Bool, true, false, map, Option, Some}
use Rattle.pool_machine.specs.declared.parent.Parent.{Parent}
use Rattle.pool_machine.specs.State.{Stage, CreatedJob, State, job_at, is_made_by, child}
use Rattle.pool_machine.specs.State.Stage.{Claimed}

-- the job after an exchange of positions t and u of actor a: if actor a created the job at t, its recorded position becomes u,
-- and the other way round
abbrev pub exchanged_job : Parent → ℕ → ℕ → CreatedJob → CreatedJob
exchanged_job a t u job = record job { slot = if is_made_by a t job then u else (if is_made_by a u job then t else job.slot) }

-- the state after an exchange of positions t and u of actor a. Of each job that actor a created at t or u, the recorded
-- position changes. Nothing else changes.
abbrev pub after_exchange : Parent → ℕ → ℕ → State → State
after_exchange a t u s = record s { jobs = map (exchanged_job a t u) s.jobs }

abbrev pub is_claimed : Stage → Bool
is_claimed Claimed = true
is_claimed _ = false

-- the two jobs have the same class, and neither of them was got: they are alike
abbrev pub are_alike : CreatedJob → CreatedJob → Bool
are_alike job other = job.class == other.class && (not (is_claimed job.stage) && not (is_claimed other.stage))

-- both options have a number, and the jobs with these numbers are alike
abbrev pub both_alike : State → Option ℕ → Option ℕ → Bool
both_alike s (Some i) (Some j) = are_alike (job_at s i) (job_at s j)
both_alike s _ _ = false

-- the actor submitted a job at each of the two positions, and its latest jobs there are alike
abbrev pub can_exchange : State → Parent → ℕ → ℕ → Bool
can_exchange s a t u = both_alike s (child s a t) (child s a u)

-- the effect of an exchange of positions t and u of actor a, from state s to state s'. The gets of the submits at t and u swap
-- their jobs: each of them finds in s' the job that the other finds in s. Every other get finds the same job in both states.
-- Each job has the same class, creator and stage in both states.
pub record AreExchanged (s : State) (a : Parent) (t u : ℕ) (s' : State) : Type 0 where
  pub first : child s' a t ≡ child s a u
  pub second : child s' a u ≡ child s a t
  pub positions : (w : ℕ) → w ≢ t → w ≢ u → child s' a w ≡ child s a w
  pub actors : (b : Parent) (w : ℕ) → b ≢ a → child s' b w ≡ child s b w
  pub classes : (j : ℕ) → (job_at s' j).class ≡ (job_at s j).class
  pub creators : (j : ℕ) → (job_at s' j).parent ≡ (job_at s j).parent
  pub stages : (j : ℕ) → (job_at s' j).stage ≡ (job_at s j).stage

-- each exchange has the effect `AreExchanged`: the gets of the two submits swap their jobs, and nothing else changes on which a
-- get or a pool depends
abbrev pub ExchangesSwapTwoGets : Type 0
ExchangesSwapTwoGets = (s : State) (a : Parent) (t u : ℕ) → AreExchanged s a t u (after_exchange a t u s)
