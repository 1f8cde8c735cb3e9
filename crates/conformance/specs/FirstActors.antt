-- For each label, the actor with the smallest number.
use Rattle.std.specs.Prelude.{◌≡◌, ◌≤◌, ℕ, Bool, true, false, ◌&&◌, List, string_bytes, All, Any, Contains, count_by}
use Rattle.std.specs.Str.{bytes_eq}
use Rattle.recordings.specs.declared.recording_line.RecordedActor.{RecordedActor}
use Rattle.recordings.specs.declared.recording_line.RecordedActor.TheVariants.{Job, Round}
use Rattle.conformance.specs.declared.classified_actor.ClassifiedActor.{ClassifiedActor}

abbrev pub is_same_sort : RecordedActor → RecordedActor → Bool
is_same_sort (Job n) (Job m) = true
is_same_sort (Round n) (Round m) = true
is_same_sort a b = false

abbrev pub number_of : RecordedActor → ℕ
number_of (Job job) = job
number_of (Round round) = round

-- Both actors are jobs of the same class and pool, or both are rounds of the same kind.
abbrev pub is_same_label : ClassifiedActor → ClassifiedActor → Bool
is_same_label one other =
    is_same_sort one.actor other.actor && bytes_eq (string_bytes one.label) (string_bytes other.label) && bytes_eq (string_bytes one.pool) (string_bytes other.pool)

-- `first` has the same label as `other`, and no larger number.
pub record Represents (other first : ClassifiedActor) : Type 0 where
  pub label : is_same_label first other ≡ true
  pub before : number_of first.actor ≤ number_of other.actor

-- The list has, for each label, the actor of `all` with the smallest number.
pub record AreFirstActorsOf (all first_actors : List ClassifiedActor) : Type 0 where
  pub among : All (Contains all) first_actors
  pub each : All (λ one. Any (Represents one) first_actors) all
  pub once : (one : ClassifiedActor) → count_by (is_same_label one) first_actors ≤ 1
