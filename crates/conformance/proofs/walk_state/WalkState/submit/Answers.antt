use Rattle.std.proofs.Common.{◌∙◌}
use Rattle.std.specs.Vec.{with_items}
use Rattle.std.proofs.lemmas.List.{with_items_is}
use Rattle.conformance.proofs.WalkSteps.{after_submit_by}
use Rattle.conformance.proofs.walk_state.WalkState.submit.Goals as goal

pub returns : goal.returns
returns c =
    let passes_is = with_items_is c.args.self.now.passes c.update_passes.new.passes (c.update_passes.auto.passes ∙ c.deref_mut.ensures.len) in
    let shifted_is = with_items_is c.args.self.now.row c.shift_row.new.row (c.shift_row.auto.row ∙ c.deref_mut-2.ensures.len) in
    let row_is = with_items_is (with_items c.args.self.now.row c.shift_row.new.row) c.close_row.new.row (c.close_row.auto.row ∙ c.deref_mut-3.ensures.len) in
    after_submit_by c.args.body.now c.args.gets.now c.requires.gets c.args.self.now c.requires.tables c.args.class c.count_in-count.result c.args.job
    _ c.deref.result.now c.deref_mut.result.now c.update_passes.new.passes c.deref_mut-2.result.now c.shift_row.new.row c.deref_mut-3.result.now c.close_row.new.row c.deref-2.result.now
    c.in_ok-push.ensures.items c.deref.ensures.value c.count_in-count.ensures
    c.deref_mut.ensures.value c.update_passes.auto.passes passes_is c.update_passes.ensures
    c.deref_mut-2.ensures.value c.shift_row.auto.row c.shift_row.ensures.first c.shift_row.ensures.rest
    (c.deref_mut-3.ensures.value ∙ shifted_is) c.deref-2.ensures.value c.close_row.auto.row row_is c.close_row.ensures.first c.close_row.ensures.rest
