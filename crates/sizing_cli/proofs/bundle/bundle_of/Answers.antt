use Rattle.std.proofs.Common.{◌∷◌, [], Some, None}
use Rattle.std.proofs.lemmas.Bool.Decides.{Decides-eqb}
use Rattle.std.proofs.lemmas.Slice.Eq.{strip_suffix_is}
use Rattle.sizing_cli.proofs.Splitting.{seen_nothing, none_in_front, seen_behind_last, cut_at_line, found_at, none_at, seen_further}
use Rattle.sizing_cli.proofs.bundle.bundle_of.Goals as goal

pub loop-percent-init : goal.loop-percent-init
loop-percent-init c = seen_nothing c.args.input.now

pub returns-in_err-percent : goal.returns-in_err-percent
returns-in_err-percent c = rw c.from_residual.ensures (none_in_front c.args.input.now c.loop-percent.front.now c.in_err-percent.ensures c.loop-percent.invariant)

pub returns-in-Some : goal.returns-in-Some
returns-in-Some c =
    let cut = cut_at_line _ _ _ _ _ c.last_line_start.ensures.within c.last_line_start.ensures.behind_newline (seen_behind_last _ _ c.in_ok-percent.percent c.in_ok-percent.ensures c.loop-percent.invariant) c.split_at.ensures.front c.split_at.ensures.back in
    found_at _ _ _ cut c.in-Some.second.now c.in-Some.ensures

pub returns-in_err-front : goal.returns-in_err-front
returns-in_err-front c =
    let cut = cut_at_line _ _ _ _ _ c.last_line_start.ensures.within c.last_line_start.ensures.behind_newline (seen_behind_last _ _ c.in_ok-percent.percent c.in_ok-percent.ensures c.loop-percent.invariant) c.split_at.ensures.front c.split_at.ensures.back in
    rw c.from_residual-in_err-front.ensures (none_at _ _ _ cut c.in_default.ensures (strip_suffix_is Decides-eqb c.split_at.result.0.now (10 ∷ []) None c.in_err-front.ensures.cases))

pub loop-percent-preserved : goal.loop-percent-preserved
loop-percent-preserved c =
    let cut = cut_at_line _ _ _ _ _ c.last_line_start.ensures.within c.last_line_start.ensures.behind_newline (seen_behind_last _ _ c.in_ok-percent.percent c.in_ok-percent.ensures c.loop-percent.invariant) c.split_at.ensures.front c.split_at.ensures.back in
    seen_further _ _ _ cut c.in_ok-front.front.now c.in_default.ensures (strip_suffix_is Decides-eqb c.split_at.result.0.now (10 ∷ []) (Some c.in_ok-front.front) c.in_ok-front.ensures.cases)
