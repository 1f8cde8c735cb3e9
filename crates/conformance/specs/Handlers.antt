-- The handlers of the pools of a recording, as a function of the lines read.
use Rattle.std.specs.Prelude.{◌≡◌, ℕ, ◌||◌, List, slice_index_or}
use Rattle.std.specs.List.{list_any}
use Rattle.job_bodies.specs.Plan.{Plan}
use Rattle.recordings.specs.RecordingLine.{RecordedLine}
use Rattle.conformance.specs.declared.handlers.Handlers.{Handlers}
use Rattle.conformance.specs.declared.rejection_rule.RejectionRule.{RejectionRule}
use Rattle.conformance.specs.declared.rejection_rule.RejectionRule.TheVariants.{Never}
use Rattle.conformance.specs.PoolComparison.{has_name}
use Rattle.conformance.specs.RejectionRule.{is_abort, is_caller_runs, is_discard, has_other_handler, shuts, rule_of}

-- The state has four sets of pools from these lines. For each of the handlers `abort`, `caller_runs` and `discard`, it has
-- the pools with a line that names another handler. It also has the pools that are shut down.
pub record AreHandlersOf (lines : List RecordedLine) (handlers : Handlers) : Type 0 where
  pub not_abort : (pool : List ℕ) → has_name handlers.not_abort pool ≡ list_any (has_other_handler is_abort pool) lines
  pub not_caller_runs : (pool : List ℕ) → has_name handlers.not_caller_runs pool ≡ list_any (has_other_handler is_caller_runs pool) lines
  pub not_discard : (pool : List ℕ) → has_name handlers.not_discard pool ≡ list_any (has_other_handler is_discard pool) lines
  pub shut : (pool : List ℕ) → has_name handlers.shut pool ≡ list_any (shuts pool) lines

-- `new` is the state `old` after one more line.
pub record NotesLine (old : Handlers) (line : RecordedLine) (new : Handlers) : Type 0 where
  pub not_abort : (pool : List ℕ) → has_name new.not_abort pool ≡ (has_name old.not_abort pool || has_other_handler is_abort pool line)
  pub not_caller_runs : (pool : List ℕ) → has_name new.not_caller_runs pool ≡ (has_name old.not_caller_runs pool || has_other_handler is_caller_runs pool line)
  pub not_discard : (pool : List ℕ) → has_name new.not_discard pool ≡ (has_name old.not_discard pool || has_other_handler is_discard pool line)
  pub shut : (pool : List ℕ) → has_name new.shut pool ≡ (has_name old.shut pool || shuts pool line)

-- The list has the rejection rule of each pool of the plan, in the order of the plan.
abbrev pub AreRules : Plan → List RecordedLine → List RejectionRule → Type 0
AreRules plan lines rules = (pool : ℕ) → slice_index_or rules pool Never ≡ rule_of plan lines pool
