-- The state of the rule check, as it is stored.
use Rattle.std.specs.Prelude.{ℕ, ◌&&◌, nat_lt, Bool, true, false, is_none, Option, Some, None}
use Rattle.support.specs.Numbered.{value_at}
use Rattle.recordings.specs.declared.rounds.Rounds.{Rounds}
use Rattle.recordings.specs.declared.jobs.Jobs.{Jobs}
use Rattle.recordings.specs.declared.jobs.JobState.{JobState}

-- ---- the entry of an open round: the job that it submitted in its last line, if any
abbrev pub round_at : Rounds → ℕ → Option (Option ℕ)
round_at rounds r = value_at rounds.open r

abbrev pub last_submit_of_round : Option (Option ℕ) → Option ℕ
last_submit_of_round None = None
last_submit_of_round (Some last_submit) = last_submit

-- ---- the entry of a job that is not done
abbrev pub job_at : Jobs → ℕ → Option JobState
job_at jobs j = value_at jobs.unfinished j

abbrev pub last_submit_in : Option JobState → Option ℕ
last_submit_in None = None
last_submit_in (Some state) = state.last_submit

abbrev pub started_there : Option JobState → Bool
started_there None = true
started_there (Some state) = state.started

abbrev pub settled_there : Option JobState → Bool
settled_there None = true
settled_there (Some state) = state.cancelled

-- ---- the state of a job; a submitted job without an entry is done
abbrev pub has_started : Jobs → ℕ → Bool
has_started jobs j = nat_lt j jobs.submitted && started_there (job_at jobs j)

abbrev pub is_done : Jobs → ℕ → Bool
is_done jobs j = nat_lt j jobs.submitted && is_none (job_at jobs j)

abbrev pub is_settled : Jobs → ℕ → Bool
is_settled jobs j = nat_lt j jobs.submitted && settled_there (job_at jobs j)

-- ---- changes to the entry of a job
abbrev pub new_job : JobState
new_job = record { started = false; cancelled = false; last_submit = None }

abbrev pub with_start : JobState → JobState
with_start state = record state { started = true }

abbrev pub with_cancel : JobState → JobState
with_cancel state = record state { cancelled = true }

abbrev pub with_last_submit : Option ℕ → JobState → JobState
with_last_submit last_submit state = record state { last_submit = last_submit }
