use Rattle.std.proofs.Common.{◌≡◌, ◌+◌, position, sym, ◌∙◌, rules, tests}
use Rattle.std.proofs.lemmas.Iterator.{YieldsList-from_slice}
use Rattle.std.proofs.lemmas.Iterator.Search.{position_from_yields_List}
use Rattle.std.proofs.lemmas.List.{take_rest}
use Rattle.support.specs.Pieces.{is_newline}
use Rattle.support.proofs.FirstPieces.{first_there, after_there, first_nowhere, after_nowhere}
use Rattle.support.proofs.pieces.split_line.Goals as goal

pub returns-in-Some-clause-line : goal.returns-in-Some-clause-line
returns-in-Some-clause-line c =
    let text = c.args.text.now in
    let found : c.position.result ≡ position is_newline text = position_from_yields_List is_newline _ _ c.position.result c.position.ensures.ran (YieldsList-from_slice text cc) (λ x b q k. search (rules, tests)) in
    first_there text c.in-Some.newline (sym found ∙ c.in-Some.is)

pub returns-in-Some-clause-rest_after : goal.returns-in-Some-clause-rest_after
returns-in-Some-clause-rest_after c =
    let text = c.args.text.now in
    let found : c.position.result ≡ position is_newline text = position_from_yields_List is_newline _ _ c.position.result c.position.ensures.ran (YieldsList-from_slice text cc) (λ x b q k. search (rules, tests)) in
    take_rest text (c.in-Some.newline + 1) ∙ after_there text c.in-Some.newline (sym found ∙ c.in-Some.is)

pub returns-in-None-clause-line : goal.returns-in-None-clause-line
returns-in-None-clause-line c =
    let text = c.args.text.now in
    let found : c.position.result ≡ position is_newline text = position_from_yields_List is_newline _ _ c.position.result c.position.ensures.ran (YieldsList-from_slice text cc) (λ x b q k. search (rules, tests)) in
    first_nowhere text (sym found ∙ c.in-None.is)

pub returns-in-None-clause-rest_after : goal.returns-in-None-clause-rest_after
returns-in-None-clause-rest_after c =
    let text = c.args.text.now in
    let found : c.position.result ≡ position is_newline text = position_from_yields_List is_newline _ _ c.position.result c.position.ensures.ran (YieldsList-from_slice text cc) (λ x b q k. search (rules, tests)) in
    after_nowhere text (sym found ∙ c.in-None.is)
