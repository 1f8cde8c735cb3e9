use Rattle.std.proofs.Common.{◌≡◌, ◌<◌, ℕ, true}
use Rattle.std.specs.Prelude.{slice_get}
use Rattle.conformance.specs.ValidGets.{is_valid_at}
use Rattle.conformance.proofs.valid_gets.has_valid_gets.Given as goal

abbrev pub invariant-loop-position : goal.invariant-loop-position
invariant-loop-position l = (position : ℕ) → position < l.position → is_valid_at l.body position (slice_get l.body position) ≡ true
