use Rattle.std.proofs.Common.{◌≡◌, ℕ, List, Some, slice_get, length, take}
use Rattle.job_bodies.specs.Plan.{Client}
use Rattle.recordings.specs.RecordingLine.{RecordedLine}
use Rattle.learning.specs.Counts.{IsCounted, Kinds, client_names}
use Rattle.learning.specs.LearningState.{AreCountsOf, names_of}
use Rattle.learning.proofs.inference.clients_from_counts.Given as goal

abbrev pub invariant-loop-kind : goal.invariant-loop-kind
invariant-loop-kind l = record {
  many : length l.clients.items ≡ l.kind;
  names : client_names l.clients.items ≡ take l.kind (names_of l.entries);
  counted : (kinds : Kinds) (lines : List RecordedLine) → AreCountsOf kinds lines l.counts → (kind : ℕ) (client : Client) → slice_get l.clients.items kind ≡ Some client → IsCounted kinds lines kind client;
}
