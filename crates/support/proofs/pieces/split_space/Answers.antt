use Rattle.std.proofs.Common.{◌≡◌, position, refl, sym, ◌∙◌, rules, tests}
use Rattle.std.proofs.lemmas.Iterator.{YieldsList-from_slice}
use Rattle.std.proofs.lemmas.Iterator.Search.{position_from_yields_List}
use Rattle.support.specs.Pieces.{is_space}
use Rattle.support.proofs.FirstSpace.{split_nowhere, split_at}
use Rattle.support.proofs.pieces.split_space.Goals as goal

pub returns-in_err-place : goal.returns-in_err-place
returns-in_err-place c =
    let text = c.args.text.now in
    let found : c.position.result ≡ position is_space text = position_from_yields_List is_space _ _ c.position.result c.position.ensures.ran (YieldsList-from_slice text cc) (λ x b q k. search (rules, tests)) in
    rw (c.from_residual.ensures, split_nowhere text (sym found ∙ c.in_err-place.was)) refl

pub returns : goal.returns
returns c =
    let text = c.args.text.now in
    let found : c.position.result ≡ position is_space text = position_from_yields_List is_space _ _ c.position.result c.position.ensures.ran (YieldsList-from_slice text cc) (λ x b q k. search (rules, tests)) in
    split_at text c.in_ok-place.place (sym found ∙ c.in_ok-place.was)
