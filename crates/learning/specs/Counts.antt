-- The number of clients of a client kind, computed from the rounds of the kind.
use Rattle.std.specs.Prelude.{◌≡◌, ◌≤◌, ◌<◌, ℕ, ◌-◌, ◌==◌, Bool, false, max, nat_lt, List, map, take, slice_get, Option, Some, None, count_by, ⊤}
use Rattle.std.specs.List.{All}
use Rattle.job_bodies.specs.declared.limits.TheConstants.{MAX_SIZE}
use Rattle.job_bodies.specs.Plan.{Client}
use Rattle.conformance.specs.Family.{IsOfFamily}
use Rattle.recordings.specs.RecordingLine.{RecordedLine, RoundBegins, RoundEnds}

-- The client kind of each round, by round number; `None` for a round without a kind.
abbrev pub Kinds : Type 0
Kinds = ℕ → Option ℕ

-- The optional kind is present and equals `kind`.
abbrev pub is_kind : ℕ → Option ℕ → Bool
is_kind kind None = false
is_kind kind (Some one) = one == kind

-- ---- one line
-- The line begins a round of the kind.
abbrev pub begins_one : Kinds → ℕ → RecordedLine → Bool
begins_one kinds kind (RoundBegins round label) = is_kind kind (kinds round)
begins_one kinds kind line = false

-- The line ends a round of the kind.
abbrev pub ends_one : Kinds → ℕ → RecordedLine → Bool
ends_one kinds kind (RoundEnds round) = is_kind kind (kinds round)
ends_one kinds kind line = false

-- ---- all lines
-- The number of rounds of the kind that began.
unfoldable pub begun_of : Kinds → ℕ → List RecordedLine → ℕ
begun_of kinds kind lines = count_by (begins_one kinds kind) lines

-- The number of rounds of the kind that ended.
unfoldable pub ended_of : Kinds → ℕ → List RecordedLine → ℕ
ended_of kinds kind lines = count_by (ends_one kinds kind) lines

-- The number of open rounds of the kind after these lines.
abbrev pub open_of : Kinds → ℕ → List RecordedLine → ℕ
open_of kinds kind lines = begun_of kinds kind lines - ended_of kinds kind lines

-- After each prefix of the lines, at most `most` rounds of the kind are open. After some prefix, exactly `most` are open.
pub record IsMostAtOnce (kinds : Kinds) (kind : ℕ) (lines : List RecordedLine) (most : ℕ) : Type 0 where
  pub never_more : (n : ℕ) → open_of kinds kind (take n lines) ≤ most
  pub once : (n : ℕ) × (open_of kinds kind (take n lines) ≡ most)

-- ---- the names of the kinds
-- The round has a kind, and the kind's name belongs to the family of `label`.
pub record IsOfKind (kinds : Kinds) (names : List (List ℕ)) (round : ℕ) (label : List ℕ) : Type 0 where
  pub kind : ℕ
  pub is_kind : kinds round ≡ Some kind
  pub name : List ℕ
  pub is_name : slice_get names kind ≡ Some name
  pub named : IsOfFamily label name

-- If the line begins a round, the round has a kind whose name belongs to the family of the round's label.
abbrev pub BeginsOfKind : Kinds → List (List ℕ) → RecordedLine → Type 0
BeginsOfKind kinds names (RoundBegins round label) = IsOfKind kinds names round label
BeginsOfKind kinds names line = ⊤

-- Each round that began has a kind whose name belongs to the family of the round's label.
abbrev pub AreOfKinds : Kinds → List (List ℕ) → List RecordedLine → Type 0
AreOfKinds kinds names lines = All (BeginsOfKind kinds names) lines

-- For some assignment of kinds to rounds, more rounds of one kind were open at once than a plan may have clients.
pub record IsCrowded (lines : List RecordedLine) : Type 0 where
  pub kinds : Kinds
  pub names : List (List ℕ)
  pub of_kinds : AreOfKinds kinds names lines
  pub kind : ℕ
  pub most : ℕ
  pub concurrent : IsMostAtOnce kinds kind lines most
  pub beyond : MAX_SIZE < most

-- ---- the clients of a kind
-- The count of the client kind is the maximum number of its rounds that were open at once, and at least 1. The client kind
-- repeats exactly when more of its rounds began than were open at once.
pub record IsCounted (kinds : Kinds) (lines : List RecordedLine) (kind : ℕ) (client : Client) : Type 0 where
  pub most : ℕ
  pub concurrent : IsMostAtOnce kinds kind lines most
  pub count : client.count ≡ max most 1
  pub repeat : client.repeat ≡ nat_lt most (begun_of kinds kind lines)

abbrev pub client_names : List Client → List (List ℕ)
client_names clients = map (λ client. client.name) clients

-- Each round has a client kind whose name belongs to the family of the round's label. The rounds of a client kind determine
-- its count and whether it repeats.
pub record AreCounted (lines : List RecordedLine) (clients : List Client) : Type 0 where
  pub kinds : Kinds
  pub of_kinds : AreOfKinds kinds (client_names clients) lines
  pub each : (kind : ℕ) (client : Client) → slice_get clients kind ≡ Some client → IsCounted kinds lines kind client
