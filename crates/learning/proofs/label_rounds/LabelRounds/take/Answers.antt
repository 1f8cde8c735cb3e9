use Rattle.std.proofs.Common.{◌≡◌, ◌++◌, ◌∷◌, ap, refl, rules, arith}
use Rattle.std.proofs.lemmas.List.Elements.{Contains-append_right}
use Rattle.recordings.specs.RecordingLine.{RoundBegins, RoundEnds, line_view}
use Rattle.learning.proofs.Actors.{end_begun}
use Rattle.learning.proofs.LabelRounds.{other_after}
use Rattle.learning.proofs.label_rounds.LabelRounds.take.Goals as goal

pub returns-in_default : goal.returns-in_default
returns-in_default c = record {
  ok = λ before rounds. other_after c.args.self.now before (line_view c.args.line.now) (λ kinds kind. search rules) (λ kinds kind. search rules) (λ kinds names. search rules) rounds;
  err = λ before after kept. tt;
}

pub returns-in-RoundBegins-clause-err : goal.returns-in-RoundBegins-clause-err
returns-in-RoundBegins-clause-err c = λ before after kept.
    let line = RoundBegins c.in-RoundBegins.round c.in-RoundBegins.kind.now in
    let same : line_view c.args.line.now ≡ line = ap line_view c.in-RoundBegins.is in
    rw same (c.begin.ensures.err (before ++ line ∷ after) (c.in-RoundBegins.round, Contains-append_right before (line ∷ after) line (0, omega arith, refl)))

pub returns-in-RoundEnds-clause-err : goal.returns-in-RoundEnds-clause-err
returns-in-RoundEnds-clause-err c = λ before after kept.
    let round = c.in-RoundEnds.round in
    let same : line_view c.args.line.now ≡ RoundEnds round = ap line_view c.in-RoundEnds.is in
    let begun = end_begun before after round (rw same at kept) in
    rw same (c.end.ensures.err (before ++ RoundEnds round ∷ after) begun.0 begun.1)
