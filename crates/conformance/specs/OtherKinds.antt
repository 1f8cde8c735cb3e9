-- The rounds that are not counted for the first kind of their label.
use Rattle.std.specs.Prelude.{◌≡◌, ◌==◌, ℕ, Bool, true, false, if◌then◌else◌, List, slice_get, string_bytes, Contains, is_some, Option, Some, None}
use Rattle.support.specs.Numbered.{value_at}
use Rattle.recordings.specs.RecordingLine.{RecordedLine}
use Rattle.job_bodies.specs.Plan.{Plan}
use Rattle.conformance.specs.Family.{client_family}
use Rattle.conformance.specs.RoundExcesses as rounds
use Rattle.conformance.specs.declared.classified_actor.ClassifiedActor.{ClassifiedActor}
use Rattle.conformance.specs.Label as labels
use Rattle.conformance.specs.declared.other_kinds.OtherKinds.{OtherKinds}
use Rattle.conformance.specs.FirstKinds.{round_and_kind}

-- ---- classified rounds
-- The first client kind of the plan that rounds of this label may belong to.
abbrev pub first_of : Plan → List ℕ → Option ℕ
first_of plan label = slice_get (client_family plan label) 0

abbrev pub is_same_kind : Option ℕ → Option ℕ → Bool
is_same_kind None None = true
is_same_kind (Some kind) (Some other) = kind == other
is_same_kind one other = false

abbrev pub unless_first : Option ℕ → Option (ℕ × Option ℕ) → Option (ℕ × Option ℕ)
unless_first first None = None
unless_first first (Some (round, kind)) = if is_same_kind first kind then None else Some (round, kind)

-- The round of a classified actor, with the kind for which it is counted. The result is `None` if this is the first kind of
-- the round's label, or if `round_and_kind` has no round.
abbrev pub other_kind_of : Plan → ClassifiedActor → Option (ℕ × Option ℕ)
other_kind_of plan reported = unless_first (first_of plan (string_bytes reported.label)) (round_and_kind reported)

-- One of the classified actors is this round. It is counted for `kind`, which is not the first kind of its label. If `kind`
-- is `None`, the round is not counted.
pub record HasOtherKind (plan : Plan) (reported : List ClassifiedActor) (round : ℕ) (kind : Option ℕ) : Type 0 where
  pub one : ClassifiedActor
  pub among : Contains reported one
  pub is : other_kind_of plan one ≡ Some (round, kind)

-- The table has exactly the classified rounds that are not counted for the first kind of their label.
pub record AreOtherKinds (plan : Plan) (reported : List ClassifiedActor) (others : OtherKinds) : Type 0 where
  pub sound : (round : ℕ) (kind : Option ℕ) → value_at others.kinds round ≡ Some kind → HasOtherKind plan reported round kind
  pub complete : (round : ℕ) (kind : Option ℕ) → HasOtherKind plan reported round kind → is_some (value_at others.kinds round) ≡ true
  pub none : others.has_any ≡ false → (round : ℕ) → value_at others.kinds round ≡ None

-- ---- the kinds by which rounds are counted
-- The kind in the table entry of a round, or `first` if there is no entry.
abbrev pub kind_or : Option (Option ℕ) → Option ℕ → Option ℕ
kind_or (Some kind) first = kind
kind_or None first = first

-- The kind for which a round is counted. It is the kind in the table or, if the table does not have the round, the first kind
-- of its label.
abbrev pub kind_by : Plan → OtherKinds → ℕ → List ℕ → Option ℕ
kind_by plan others round label = kind_or (value_at others.kinds round) (first_of plan label)

-- For each round that has begun, the list `kinds` has the kind for which the round is counted (`kind_by`).
pub record AreKindsBy (plan : Plan) (others : OtherKinds) (lines : List RecordedLine) (kinds : List (Option ℕ)) : Type 0 where
  pub each : (round : ℕ) (label : List ℕ) → labels.kind_of lines round ≡ Some label → rounds.kind_of kinds round ≡ kind_by plan others round label

-- For each round that has begun, the list `kinds` has the first kind of the round's label.
pub record AreOfFirst (plan : Plan) (lines : List RecordedLine) (kinds : List (Option ℕ)) : Type 0 where
  pub each : (round : ℕ) (label : List ℕ) → labels.kind_of lines round ≡ Some label → rounds.kind_of kinds round ≡ first_of plan label
