use Rattle.std.proofs.Common.{◌≡◌, ◌+◌, suc, true, false, Bool, List, length, get_or, refl, sym, ap, subst, ◌∙◌, arith}
use Rattle.std.proofs.lemmas.Bool.{false≢true, lt-ltb}
use Rattle.std.proofs.lemmas.Option.{slice_get_within, get_or_from_slice_get}
use Rattle.support.proofs.Members.{In-slice_get}
use Rattle.conformance.specs.declared.open_excess.OpenExcess.{OpenExcess}
use Rattle.conformance.specs.declared.walk_state.WalkState.{WalkState}
use Rattle.conformance.specs.Path.{count_in}
use Rattle.conformance.specs.BlockingGet.{IsFree, IsBlocked}
use Rattle.conformance.specs.OpenExcess.{IsReason}
use Rattle.conformance.proofs.StoppedStates.{none_ahead, not_free, excess_ahead}
use Rattle.conformance.proofs.stop_reasons.excess_in.Goals as goal

pub returns-in_err-ahead : goal.returns-in_err-ahead
returns-in_err-ahead c = λ kind path place at are none.
    let a = c.args in
    subst (IsReason kind a.body.now path place) (sym c.from_residual.ensures)
    (none_ahead kind a.body.now path place a.states.now are a.gets.now c.requires.gets a.classes.now at c.deref.result.now c.deref.ensures.value none c.in_err-ahead.ensures)

pub returns-in_err-state : goal.returns-in_err-state
returns-in_err-state c = λ kind path place at are none.
    let found = c.in_ok-ahead.ensures.reached in
    let within = slice_get_within c.args.states.now c.in_ok-ahead.ahead.reached.state found.state found.state_is in
    absurd (false≢true (c.in_err-state.ensures.lookup.0 ∙ lt-ltb c.in_ok-ahead.ahead.reached.state (length c.args.states.now) within))

pub blocking_get-requires-clause-row : goal.blocking_get-requires-clause-row
blocking_get-requires-clause-row c =
    let next = c.in_ok-ahead.ensures in
    let found = next.reached in
    let same : c.in_ok-state.state.now ≡ found.state = c.in_ok-state.ensures.lookup.1 ∙ get_or_from_slice_get c.args.states.now c.in_ok-ahead.ahead.reached.state found.state _ found.state_is in
    let i = In-slice_get c.args.states.now c.in_ok-ahead.ahead.reached.state found.state found.state_is in
    let long : length c.deref-2.result.now ≡ length c.args.body.now + 1 = ap length (c.deref-2.ensures.value ∙ ap (λ (s : WalkState). s.row.items) same) ∙ (c.requires.tables found.state i).row_length in
    let within = next.in_body in
    omega (arith, long, within)

pub blocking_get-requires-clause-passes : goal.blocking_get-requires-clause-passes
blocking_get-requires-clause-passes c =
    let next = c.in_ok-ahead.ensures in
    let found = next.reached in
    let same : c.in_ok-state.state.now ≡ found.state = c.in_ok-state.ensures.lookup.1 ∙ get_or_from_slice_get c.args.states.now c.in_ok-ahead.ahead.reached.state found.state _ found.state_is in
    let i = In-slice_get c.args.states.now c.in_ok-ahead.ahead.reached.state found.state found.state_is in
    let long : length c.deref-3.result.now ≡ length c.args.body.now = ap length (c.deref-3.ensures.value ∙ ap (λ (s : WalkState). s.passes.items) same) ∙ (c.requires.tables found.state i).passes_length in
    let within = next.in_body in
    omega (arith, long, within)

pub returns-in_err-get : goal.returns-in_err-get
returns-in_err-get c = λ kind path place at are none.
    let a = c.args in
    let ahead = c.in_ok-ahead.ahead in
    let next = c.in_ok-ahead.ensures in
    let found = next.reached in
    let same : c.in_ok-state.state.now ≡ found.state = c.in_ok-state.ensures.lookup.1 ∙ get_or_from_slice_get a.states.now ahead.reached.state found.state _ found.state_is in
    let i = In-slice_get a.states.now ahead.reached.state found.state found.state_is in
    let row_is : c.deref-2.result.now ≡ found.state.row.items = c.deref-2.ensures.value ∙ ap (λ (s : WalkState). s.row.items) same in
    let passes_is : c.deref-3.result.now ≡ found.state.passes.items = c.deref-3.ensures.value ∙ ap (λ (s : WalkState). s.passes.items) same in
    let before = found.last.before in
    let free = c.in_err-get.ensures ahead.reached.index (omega (arith, before)) (subst (λ (row : List Bool). get_or row ahead.reached.index false ≡ true) (sym row_is) found.last.at) in
    let in_row = subst (λ (row : List Bool). IsFree row c.deref-3.result.now a.gets.now (suc ahead.submit) ahead.submit) row_is free in
    let in_state = subst (λ (passes : List Bool). IsFree found.state.row.items passes a.gets.now (suc ahead.submit) ahead.submit) passes_is in_row in
    absurd (not_free kind a.body.now path place a.states.now are a.gets.now c.requires.gets a.classes.now at c.deref.result.now c.deref.ensures.value none ahead next i in_state)

pub returns : goal.returns
returns c = λ kind path place at are none.
    let a = c.args in
    let ahead = c.in_ok-ahead.ahead in
    let get = c.in_ok-get.get in
    let next = c.in_ok-ahead.ensures in
    let found = next.reached in
    let same : c.in_ok-state.state.now ≡ found.state = c.in_ok-state.ensures.lookup.1 ∙ get_or_from_slice_get a.states.now ahead.reached.state found.state _ found.state_is in
    let i = In-slice_get a.states.now ahead.reached.state found.state found.state_is in
    let row_is : c.deref-2.result.now ≡ found.state.row.items = c.deref-2.ensures.value ∙ ap (λ (s : WalkState). s.row.items) same in
    let passes_is : c.deref-3.result.now ≡ found.state.passes.items = c.deref-3.ensures.value ∙ ap (λ (s : WalkState). s.passes.items) same in
    let in_row = subst (λ (row : List Bool). IsBlocked row c.deref-3.result.now a.gets.now (suc ahead.submit) ahead.submit get) row_is c.in_ok-get.ensures in
    let way = subst (λ (passes : List Bool). IsBlocked found.state.row.items passes a.gets.now (suc ahead.submit) ahead.submit get) passes_is in_row in
    let excess : OpenExcess = record { class = get.class; open_jobs = c.count_in.result; limit = get.limit } in
    excess_ahead kind a.body.now path place a.states.now are a.gets.now c.requires.gets a.classes.now at c.deref.result.now c.deref.ensures.value none ahead next i get way excess refl
    (c.count_in.ensures ∙ ap (count_in get.class) (c.deref-4.ensures.value ∙ ap (λ (s : WalkState). s.jobs.items) same)) refl
