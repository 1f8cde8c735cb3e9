-- The text so far and the edges to the remaining classes are the whole text.
use Rattle.std.proofs.Common.{◌≡◌, ◌++◌, length}
use Rattle.std.specs.Prelude.{string_bytes}
use Rattle.report.specs.Picture.{client_edges_to}
use Rattle.report.proofs.Rows.{later}
use Rattle.report.proofs.picture.edges.push_edges_from_client.Given as goal

abbrev pub invariant-loop-class : goal.invariant-loop-class
invariant-loop-class l =
    let edges = client_edges_to l.number l.client.body in
    string_bytes l.text ++ later edges (length l.plan.classes) l.class ≡ string_bytes l.fn.text ++ later edges (length l.plan.classes) 0
