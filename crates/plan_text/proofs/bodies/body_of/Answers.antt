use Rattle.std.proofs.Common.{◌≡◌, ◌∙◌, List, [], ℕ, Bor, Option, Some, map, take, get_or, slice_get, Ok, sym, ap, subst}
use Rattle.std.proofs.lemmas.Result.{err_from_is_err_and}
use Rattle.support.specs.Results.{Fails}
use Rattle.support.proofs.Loops.{at_index_copied, reads_begin, reads_more, reads_stop, reads_end_seen}
use Rattle.job_bodies.specs.Checks.{at_action}
use Rattle.plan_text.specs.Bodies.{action_at, body_of}
use Rattle.plan_text.specs.ParsedActions.{parse_action}
use Rattle.plan_text.specs.Slots.{position_in, filled, filled_by}
use Rattle.plan_text.proofs.SlotStates.{filled_more, same_functions}
use Rattle.plan_text.proofs.bodies.body_of.Goals as goal

abbrev now : Bor (List ℕ) → List ℕ
now text = text.now

pub loop-position-init : goal.loop-position-init
loop-position-init c = record {
  slots = λ slot. ap (λ (slots : List (List ℕ × ℕ)). position_in slots slot) c.new-slots.ensures;
  actions = rw c.new-body.ensures.items (reads_begin _ _);
}

pub loop-position-preserved : goal.loop-position-preserved
loop-position-preserved c =
    let texts = map now c.args.texts.now in
    let position = c.loop-position.position in
    let text : Bor (List ℕ) = get_or c.args.texts.now position (record { ref_ptr = (0, 0); now = [] }) in
    let here : slice_get texts position ≡ Some text.now = at_index_copied now c.args.texts.now position _ c.loop-position-test.true in
    let before : position_in c.loop-position.slots ≡ filled (take position texts) = same_functions _ _ c.loop-position.invariant.slots in
    let given = subst (λ (slots : List ℕ → Option ℕ). action_at c.args.classes.now slots (at_action c.args.part c.args.index position) text.now ≡ Ok c.in_ok-action.action) before c.in_ok-action.ensures.action in
    record {
      slots = λ slot. c.in_ok-action.ensures.slots slot ∙ ap (λ (filled : Option ℕ). filled_by slot position filled (parse_action text.now)) (c.loop-position.invariant.slots slot) ∙ sym (filled_more slot texts position text.now here);
      actions = rw c.in_ok-push.ensures.items (reads_more _ _ _ _ _ _ here given c.loop-position.invariant.actions);
    }

pub returns-in_err-action : goal.returns-in_err-action
unfolding body_of
returns-in_err-action c =
    let texts = map now c.args.texts.now in
    let position = c.loop-position.position in
    let text : Bor (List ℕ) = get_or c.args.texts.now position (record { ref_ptr = (0, 0); now = [] }) in
    let here : slice_get texts position ≡ Some text.now = at_index_copied now c.args.texts.now position _ c.loop-position-test.true in
    let before : position_in c.loop-position.slots ≡ filled (take position texts) = same_functions _ _ c.loop-position.invariant.slots in
    let failed = subst (λ (slots : List ℕ → Option ℕ). Fails c.in_err-action.field-0.0 (action_at c.args.classes.now slots (at_action c.args.part c.args.index position) text.now)) before c.in_err-action.ensures.action in
    let p = err_from_is_err_and c.from_residual.result c.from_residual.ensures.1 in
    rw (p.1, p.2) (reads_stop _ _ _ _ _ _ here failed c.loop-position.invariant.actions)

pub returns : goal.returns
unfolding body_of
returns c = reads_end_seen now _ c.args.texts.now _ _ c.loop-position-test.false c.loop-position.invariant.actions
