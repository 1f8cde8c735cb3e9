use Rattle.std.proofs.Common.{◌≡◌, ◌+◌, suc, Bool, List, length, None, ap, subst, ◌∙◌, arith}
use Rattle.std.proofs.lemmas.Bool.{false≢true, lt-ltb}
use Rattle.std.proofs.lemmas.Option.{slice_get_within, get_or_from_slice_get}
use Rattle.support.proofs.Members.{In-slice_get}
use Rattle.conformance.specs.declared.walk_state.WalkState.{WalkState}
use Rattle.conformance.specs.BlockingGet.{IsBlocked, IsBlocking}
use Rattle.conformance.specs.MissingJob.{first_in}
use Rattle.conformance.proofs.StoppedStates.{none_reached, not_at_end, missing_at_end}
use Rattle.conformance.proofs.stop_reasons.missing_in.Goals as goal

pub returns-in_err-reached : goal.returns-in_err-reached
returns-in_err-reached c = λ kind path place are index jobs w short.
    let a = c.args in
    absurd (none_reached kind a.body.now path place a.states.now are a.gets.now c.requires.gets short index jobs w c.in_err-reached.ensures)

pub returns-in_err-state : goal.returns-in_err-state
returns-in_err-state c = λ kind path place are index jobs w short.
    let found = c.in_ok-reached.ensures in
    let within = slice_get_within c.args.states.now c.in_ok-reached.reached.state found.state found.state_is in
    absurd (false≢true (c.in_err-state.ensures.lookup.0 ∙ lt-ltb c.in_ok-reached.reached.state (length c.args.states.now) within))

pub blocking_get-requires-clause-row : goal.blocking_get-requires-clause-row
blocking_get-requires-clause-row c =
    let found = c.in_ok-reached.ensures in
    let same : c.in_ok-state.state.now ≡ found.state = c.in_ok-state.ensures.lookup.1 ∙ get_or_from_slice_get c.args.states.now c.in_ok-reached.reached.state found.state _ found.state_is in
    let i = In-slice_get c.args.states.now c.in_ok-reached.reached.state found.state found.state_is in
    let long : length c.deref.result.now ≡ length c.args.body.now + 1 = ap length (c.deref.ensures.value ∙ ap (λ (s : WalkState). s.row.items) same) ∙ (c.requires.tables found.state i).row_length in
    omega (arith, long)

pub blocking_get-requires-clause-passes : goal.blocking_get-requires-clause-passes
blocking_get-requires-clause-passes c =
    let found = c.in_ok-reached.ensures in
    let same : c.in_ok-state.state.now ≡ found.state = c.in_ok-state.ensures.lookup.1 ∙ get_or_from_slice_get c.args.states.now c.in_ok-reached.reached.state found.state _ found.state_is in
    let i = In-slice_get c.args.states.now c.in_ok-reached.reached.state found.state found.state_is in
    let long : length c.deref-2.result.now ≡ length c.args.body.now = ap length (c.deref-2.ensures.value ∙ ap (λ (s : WalkState). s.passes.items) same) ∙ (c.requires.tables found.state i).passes_length in
    omega (arith, long)

pub returns-in_err-get : goal.returns-in_err-get
returns-in_err-get c = λ kind path place are index jobs w short.
    let a = c.args in
    let end = length a.body.now in
    let found = c.in_ok-reached.ensures in
    let same : c.in_ok-state.state.now ≡ found.state = c.in_ok-state.ensures.lookup.1 ∙ get_or_from_slice_get a.states.now c.in_ok-reached.reached.state found.state _ found.state_is in
    let i = In-slice_get a.states.now c.in_ok-reached.reached.state found.state found.state_is in
    let in_row = subst (λ (row : List Bool). IsBlocking row c.deref-2.result.now a.gets.now end None) (c.deref.ensures.value ∙ ap (λ (s : WalkState). s.row.items) same) c.in_err-get.ensures in
    let free = subst (λ (passes : List Bool). IsBlocking found.state.row.items passes a.gets.now end None) (c.deref-2.ensures.value ∙ ap (λ (s : WalkState). s.passes.items) same) in_row in
    absurd (not_at_end kind a.body.now path place a.states.now are a.gets.now c.requires.gets short c.in_ok-reached.reached found i free)

pub returns : goal.returns
returns c = λ kind path place are index jobs w short.
    let a = c.args in
    let end = length a.body.now in
    let get = c.in_ok-get.get in
    let found = c.in_ok-reached.ensures in
    let same : c.in_ok-state.state.now ≡ found.state = c.in_ok-state.ensures.lookup.1 ∙ get_or_from_slice_get a.states.now c.in_ok-reached.reached.state found.state _ found.state_is in
    let i = In-slice_get a.states.now c.in_ok-reached.reached.state found.state found.state_is in
    let in_row = subst (λ (row : List Bool). IsBlocked row c.deref-2.result.now a.gets.now (suc end) end get) (c.deref.ensures.value ∙ ap (λ (s : WalkState). s.row.items) same) c.in_ok-get.ensures in
    let way = subst (λ (passes : List Bool). IsBlocked found.state.row.items passes a.gets.now (suc end) end get) (c.deref-2.ensures.value ∙ ap (λ (s : WalkState). s.passes.items) same) in_row in
    let missing = missing_at_end kind a.body.now path place a.states.now are a.gets.now c.requires.gets short c.in_ok-reached.reached found i get way in
    (missing.0, c.first_in.ensures ∙ (ap (first_in get.class) (c.deref-3.ensures.value ∙ ap (λ (s : WalkState). s.jobs.items) same) ∙ missing.1), missing.2)
