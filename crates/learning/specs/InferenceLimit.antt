-- The reasons why a valid recording gives no plan, and their texts.
use Rattle.std.specs.Prelude.{◌<◌, ◌⊎◌, ℕ, List, length, codes}
use Rattle.job_bodies.specs.declared.limits.TheConstants.{MAX_POOLS}
use Rattle.recordings.specs.RecordingLine.{RecordedLine}
use Rattle.learning.specs.declared.inference_limit.InferenceLimit.{InferenceLimit}
use Rattle.learning.specs.declared.inference_limit.InferenceLimit.TheVariants.{Pools, Classes, Kinds, Names, Rounds, Paths, Text}
use Rattle.learning.specs.Counts.{IsCrowded}
use Rattle.learning.specs.Names.{HasBegun, WasSubmitted, IsLong}
use Rattle.learning.specs.Pools.{recorded_pools}

-- ---- conditions
-- A round or a job of the lines has the label.
abbrev pub IsLabel : List RecordedLine → List ℕ → Type 0
IsLabel lines label = HasBegun lines label ⊎ ((pool : List ℕ) × WasSubmitted lines label pool)

-- The lines begin a round, or submit a job.
abbrev pub HasActors : List RecordedLine → Type 0
HasActors lines = (label : List ℕ) × IsLabel lines label

-- What each reason implies for the lines. `Classes`, `Kinds` and `Paths` imply only that there are jobs or rounds. How many
-- bodies these need, and which paths have no body, is not specified. `Text` never occurs, because this crate writes no text.
abbrev pub IsReason : List RecordedLine → InferenceLimit → Type 0
IsReason lines Pools = MAX_POOLS < length (recorded_pools lines)
IsReason lines Classes = (label : List ℕ) × (pool : List ℕ) × WasSubmitted lines label pool
IsReason lines Kinds = (label : List ℕ) × HasBegun lines label
IsReason lines Names = (label : List ℕ) × IsLabel lines label × IsLong label
IsReason lines Rounds = IsCrowded lines
IsReason lines Paths = HasActors lines
IsReason lines Text = ⊥

-- ---- texts

abbrev pub inference_limit_text : InferenceLimit → List ℕ
inference_limit_text Pools = codes "more pools than a plan may have"
inference_limit_text Classes = codes "more classes of jobs than a plan may have"
inference_limit_text Kinds = codes "more kinds of clients than a plan may have"
inference_limit_text Names = codes "a class or a kind needs a longer name than a plan may have"
inference_limit_text Rounds = codes "more rounds of a kind at once than a plan may have clients"
inference_limit_text Paths = codes "no body was found for what some jobs or rounds did"
inference_limit_text Text = codes "a longer text than a plan may have"
