-- The client kind for which each round is counted.
use Rattle.std.specs.Prelude.{◌≡◌, ℕ, if◌then◌else◌, List, [], ◌∷◌, length, slice_get, Contains, Option, Some, None}
use Rattle.recordings.specs.declared.recording_line.RecordedActor.{RecordedActor}
use Rattle.recordings.specs.declared.recording_line.RecordedActor.TheVariants.{Job, Round}
use Rattle.recordings.specs.RecordingLine.{RecordedLine}
use Rattle.recordings.specs.Before.{begins}
use Rattle.job_bodies.specs.Plan.{Plan}
use Rattle.conformance.specs.Family.{client_family}
use Rattle.conformance.specs.declared.classified_actor.ClassifiedActor.{ClassifiedActor}
use Rattle.conformance.specs.Label.{kind_of}

-- The round with the first kind of the list. It is `None` if the actor is a job, or if the list is empty.
abbrev pub has_kind : List ℕ → RecordedActor → Option (ℕ × Option ℕ)
has_kind [] actor = None
has_kind (kind ∷ more) (Job job) = None
has_kind (kind ∷ more) (Round round) = Some (round, Some kind)

-- The round without a kind. It is `None` if the actor is a job.
abbrev pub has_no_kind : RecordedActor → Option (ℕ × Option ℕ)
has_no_kind (Job job) = None
has_no_kind (Round round) = Some (round, None)

-- The round of a classified actor, with the kind for which it is counted: the first kind that it can belong to, or none if
-- this is undecided. The result is `None` for a job, and for a round that can belong to no kind.
abbrev pub round_and_kind : ClassifiedActor → Option (ℕ × Option ℕ)
round_and_kind reported = if reported.family.is_decided then has_kind reported.family.members.items reported.actor else has_no_kind reported.actor

-- The list `kinds` says for each round for which client kind it is counted. A round that can belong to some kind is counted
-- for the first of these kinds. If this is undecided, the round is not counted. Any other round is counted for the first kind
-- of its label, if there is one.
pub record AreFirstKinds (plan : Plan) (lines : List RecordedLine) (reported : List ClassifiedActor) (kinds : List (Option ℕ)) : Type 0 where
  pub many : length kinds ≡ begins lines
  pub reports_of : (one : ClassifiedActor) (round : ℕ) (kind : Option ℕ) → Contains reported one → round_and_kind one ≡ Some (round, kind) → slice_get kinds round ≡ Some kind
  pub others : (round : ℕ) (label : List ℕ) → kind_of lines round ≡ Some label → ((one : ClassifiedActor) (kind : Option ℕ) → Contains reported one → ¬ (round_and_kind one ≡ Some (round, kind)))
      → slice_get kinds round ≡ Some (slice_get (client_family plan label) 0)
