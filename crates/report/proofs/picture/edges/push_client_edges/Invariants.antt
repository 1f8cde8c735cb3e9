-- The text so far and the edges from the remaining kinds are the whole text.
use Rattle.std.proofs.Common.{◌≡◌, ◌++◌}
use Rattle.std.specs.Prelude.{string_bytes}
use Rattle.report.specs.Picture.{edges_from_client}
use Rattle.report.proofs.Rows.{rest_of}
use Rattle.report.proofs.picture.edges.push_client_edges.Given as goal

abbrev pub invariant-loop-number : goal.invariant-loop-number
invariant-loop-number l =
    string_bytes l.text ++ rest_of (edges_from_client l.plan) l.plan.clients l.number ≡ string_bytes l.fn.text ++ rest_of (edges_from_client l.plan) l.plan.clients 0
