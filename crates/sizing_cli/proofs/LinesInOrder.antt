-- The event lines that the iterator returns are those of the text.
use Rattle.std.specs.Prelude.{◌≡◌, ℕ, List}
use Rattle.job_bodies.specs.Plan.{Plan}
use Rattle.interleaving.specs.EventLine.{event_lines, lines_read, all_from}
use Rattle.interleaving.proofs.LineByLine.{all_read}

pub lines_in_order : (plan : Plan) (text : List ℕ) → all_from 0 (lines_read plan text) ≡ event_lines plan text
lines_in_order = all_read
