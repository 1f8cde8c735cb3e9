-- The text so far and the edges to the remaining classes are the whole text.
use Rattle.std.proofs.Common.{◌≡◌, ◌++◌, length}
use Rattle.std.specs.Prelude.{string_bytes, option_map}
use Rattle.report.specs.Picture.{class_edges_to}
use Rattle.report.proofs.Rows.{later}
use Rattle.report.proofs.picture.edges.push_edges_from_class.Given as goal

abbrev pub invariant-loop-target : goal.invariant-loop-target
invariant-loop-target l =
    let edges = class_edges_to l.plan (option_map (λ ranks. ranks.now) l.ranks) l.number l.class.body in
    string_bytes l.text ++ later edges (length l.plan.classes) l.target ≡ string_bytes l.fn.text ++ later edges (length l.plan.classes) 0
