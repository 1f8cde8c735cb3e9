-- The text so far and the edges from the remaining classes are the whole text.
use Rattle.std.proofs.Common.{◌≡◌, ◌++◌}
use Rattle.std.specs.Prelude.{string_bytes, option_map}
use Rattle.report.specs.Picture.{edges_from_class}
use Rattle.report.proofs.Rows.{rest_of}
use Rattle.report.proofs.picture.edges.push_class_edges.Given as goal

abbrev pub invariant-loop-number : goal.invariant-loop-number
invariant-loop-number l =
    let edges = edges_from_class l.plan (option_map (λ ranks. ranks.now) l.ranks) in
    string_bytes l.text ++ rest_of edges l.plan.classes l.number ≡ string_bytes l.fn.text ++ rest_of edges l.plan.classes 0
