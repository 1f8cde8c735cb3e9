-- How the state of learning depends on the lines that were read.
use Rattle.std.specs.Prelude.{◌≡◌, ◌≤◌, ℕ, ◌+◌, ◌-◌, max, if◌then◌else◌, List, length, map, slice_get, string_bytes, Option, Some, ⊤}
use Rattle.std.specs.List.{All}
use Rattle.std.specs.Option.{option_map, option_and_then}
use Rattle.job_bodies.specs.declared.limits.TheConstants.{MAX_CLASSES, MAX_POOLS}
use Rattle.job_bodies.specs.Plan.{Pool}
use Rattle.conformance.specs.Family.{IsOfFamily}
use Rattle.recordings.specs.RecordingLine.{RecordedLine}
use Rattle.recordings.specs.Before.{begins, submits}
use Rattle.learning.specs.declared.recorded_names.RecordedNames.{RecordedNames}
use Rattle.learning.specs.declared.counts.KindCount.{KindCount}
use Rattle.learning.specs.Counts.{Kinds, is_kind, begun_of, ended_of, IsMostAtOnce}
use Rattle.learning.specs.declared.entries.Entry.{Entry}
use Rattle.learning.specs.declared.entries.Entries.{Entries}
use Rattle.learning.specs.declared.learn_error.LearnError.{LearnError}
use Rattle.learning.specs.declared.learn_error.LearnError.TheVariants as learn_error
use Rattle.learning.specs.declared.inference_limit.InferenceLimit.{InferenceLimit}
use Rattle.learning.specs.declared.inference_limit.InferenceLimit.TheVariants as reason
use Rattle.learning.specs.declared.draft.PlanDraft.{PlanDraft}
use Rattle.learning.specs.Names.{HasBegun, WasSubmitted, IsLong}
use Rattle.learning.specs.Pools.{recorded_pools}
use Rattle.learning.specs.InferenceLimit.{IsReason}
use Rattle.learning.specs.Unfinished.{round_ends, job_starts, job_ends, failed_gets}

-- ---- the names in the lines
-- `names` has the pools of the lines, and the counts of their rounds and jobs.
pub record AreNamesOf (names : RecordedNames) (lines : List RecordedLine) : Type 0 where
  pub pools : names.pools.items ≡ recorded_pools lines
  pub few_pools : length names.pools.items ≤ MAX_POOLS
  pub rounds : names.rounds ≡ begins lines
  pub jobs : names.jobs ≡ submits lines
  pub ended_rounds : names.ended_rounds ≡ round_ends lines
  pub started_jobs : names.started_jobs ≡ job_starts lines
  pub ended_jobs : names.ended_jobs ≡ job_ends lines
  pub failed_gets : names.failed_gets ≡ failed_gets lines

-- ---- the rounds of each kind
-- The client kind of each round: the element of the list whose index is the round's number.
abbrev pub kinds_in : List (Option ℕ) → Kinds
kinds_in kinds round = option_and_then (λ kind. kind) (slice_get kinds round)

-- The counters count the rounds of the kind in the lines.
pub record IsCountOf (kinds : Kinds) (lines : List RecordedLine) (kind : ℕ) (count : KindCount) : Type 0 where
  pub begun : count.begun ≡ begun_of kinds kind lines
  pub ended : count.ended ≡ ended_of kinds kind lines
  pub most : IsMostAtOnce kinds kind lines count.most

-- The counters at each index count the rounds of the kind with this number.
abbrev pub AreCountsOf : Kinds → List RecordedLine → List KindCount → Type 0
AreCountsOf kinds lines counts = (kind : ℕ) (count : KindCount) → slice_get counts kind ≡ Some count → IsCountOf kinds lines kind count

-- The counters after one more round began.
abbrev pub with_begin : KindCount → KindCount
with_begin count = record count { begun = count.begun + 1; most = max count.most (count.begun + 1 - count.ended) }

-- The counters after one more round ended.
abbrev pub with_end : KindCount → KindCount
with_end count = record count { ended = count.ended + 1 }

-- `change` is applied to the counters of this kind, if the kind has any. The counters of other kinds are unchanged.
abbrev pub ChangesOne : Option ℕ → (KindCount → KindCount) → List KindCount → List KindCount → Type 0
ChangesOne kind change old new = (one : ℕ) → slice_get new one ≡ (if is_kind one kind then option_map change (slice_get old one) else slice_get old one)

-- ---- classes and kinds, while their bodies are learned
-- These pools are the first pools of the recording, in order.
abbrev pub AreFirstPools : List RecordedLine → List Pool → Type 0
AreFirstPools lines pools = (n : ℕ) (pool : Pool) → slice_get pools n ≡ Some pool → slice_get (recorded_pools lines) n ≡ Some pool

-- The lines submit a job with this label to the pool of this number.
pub record IsJobLabel (lines : List RecordedLine) (label : List ℕ) (number : ℕ) : Type 0 where
  pub pool : Pool
  pub is_pool : slice_get (recorded_pools lines) number ≡ Some pool
  pub submitted : WasSubmitted lines label pool.name

-- For the reason `Classes`, the lines submit a job with this label to this pool. For `Kinds`, the lines begin a round with
-- this label. No other reason is possible.
abbrev pub IsGiven : List RecordedLine → InferenceLimit → List ℕ → ℕ → Type 0
IsGiven lines reason.Classes label pool = IsJobLabel lines label pool
IsGiven lines reason.Kinds label pool = HasBegun lines label
IsGiven lines other label pool = ⊥

-- The lines have the label of the entry, and the entry's name belongs to the label's family.
pub record IsEntryOf (lines : List RecordedLine) (beyond : InferenceLimit) (entry : Entry) : Type 0 where
  pub given : IsGiven lines beyond (string_bytes entry.label) entry.pool
  pub named : IsOfFamily (string_bytes entry.label) (string_bytes entry.name)

-- Each entry has a label of the lines. The list may have at most `MAX_CLASSES` entries. `beyond` is the reason to report if
-- more are needed.
pub record AreEntriesOf (lines : List RecordedLine) (beyond : InferenceLimit) (entries : Entries) : Type 0 where
  pub each : All (IsEntryOf lines beyond) entries.entries.items
  pub few : entries.limit ≤ MAX_CLASSES
  pub reported : entries.beyond ≡ beyond

-- Each class and each client kind of the draft has a label of the lines.
pub record IsDraftOf (lines : List RecordedLine) (draft : PlanDraft) : Type 0 where
  pub classes : AreEntriesOf lines reason.Classes draft.classes
  pub kinds : AreEntriesOf lines reason.Kinds draft.kinds

abbrev pub names_of : List Entry → List (List ℕ)
names_of entries = map (λ entry. string_bytes entry.name) entries

-- ---- reasons to stop early
-- The error may occur for these lines: out of memory, or a reason that holds for the lines.
abbrev pub IsLearnError : List RecordedLine → LearnError → Type 0
IsLearnError lines (learn_error.Memory error) = ⊤
IsLearnError lines (learn_error.InferenceLimit why) = IsReason lines why

-- The error may occur in the search for a name of the label: out of memory, or a name that is too long.
abbrev pub IsNameError : List ℕ → LearnError → Type 0
IsNameError label (learn_error.Memory error) = ⊤
IsNameError label (learn_error.InferenceLimit why) = (why ≡ reason.Names) × IsLong label
