use Rattle.std.proofs.Common.{position, sym, ap, ◌∙◌}
use Rattle.cert_search.specs.Board.{is_free}
use Rattle.cert_search.proofs.FirstFree.{never_refused}
use Rattle.cert_search.proofs.board.claim.Goals as goal

pub returns-in-None-clause-pool : goal.returns-in-None-clause-pool
returns-in-None-clause-pool c =
    let after = c.state.ensures.replayed in
    let first = ap (position is_free) (sym c.state.ensures.value) ∙ sym c.first_free.ensures ∙ c.in-Some.is in
    absurd (never_refused _ after.0 _ _ after.2 first (c.in_ok-act.ensures.made after.0 after.1) c.in-None.is)
