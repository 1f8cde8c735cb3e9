use Rattle.std.proofs.Common.{sym, subst, ◌∙◌}
use Rattle.std.specs.Vec.{with_items}
use Rattle.std.proofs.lemmas.List.{with_items_is}
use Rattle.std.proofs.lemmas.Option.{none-some, same_Some}
use Rattle.conformance.specs.declared.walk_state.WalkState.{WalkState}
use Rattle.conformance.specs.WalkState.{IsAfterGetOf}
use Rattle.conformance.proofs.WalkSteps.{after_get_by}
use Rattle.conformance.proofs.walk_state.WalkState.get.Goals as goal

pub returns-in-Some : goal.returns-in-Some
returns-in-Some c =
    let passes_is = with_items_is c.args.self.now.passes c.update_passes.new.passes (c.update_passes.auto.passes ∙ c.deref_mut.ensures.len) in
    let cut_is = with_items_is c.args.self.now.row c.cut_row.new.row (c.cut_row.auto.row ∙ c.deref_mut-in-Some.ensures.len) in
    let row_is = with_items_is (with_items c.args.self.now.row c.cut_row.new.row) c.close_row.new.row (c.close_row.auto.row ∙ c.deref_mut-in-Some-2.ensures.len) in
    let new : WalkState = record { jobs = c.take_job.new.jobs; passes = with_items c.args.self.now.passes c.update_passes.new.passes; row = with_items (with_items c.args.self.now.row c.cut_row.new.row) c.close_row.new.row } in
    let got = after_get_by c.args.body.now c.args.gets.now c.requires.gets c.args.self.now c.requires.tables c.in-Some.class c.count_in-count.result c.args.kind c.args.job c.end_of_gets.result
    new c.deref.result.now c.deref_mut.result.now c.update_passes.new.passes c.deref_mut-in-Some.result.now c.cut_row.new.row c.deref_mut-in-Some-2.result.now c.close_row.new.row c.deref-in-Some.result.now
    (sym c.in-Some.ensures.class) c.in-Some.ensures.jobs c.deref.ensures.value c.count_in-count.ensures
    c.deref_mut.ensures.value c.update_passes.auto.passes passes_is c.update_passes.ensures
    (c.end_of_gets.ensures c.args.body.now c.requires.gets)
    c.deref_mut-in-Some.ensures.value c.cut_row.auto.row c.cut_row.ensures
    (c.deref_mut-in-Some-2.ensures.value ∙ cut_is) c.deref-in-Some.ensures.value c.close_row.auto.row row_is c.close_row.ensures.first c.close_row.ensures.rest in
    record {
      got = λ class e. subst (λ k. IsAfterGetOf c.args.kind c.args.body.now c.args.job k c.args.self.now new) (same_Some c.in-Some.class class (c.in-Some.ensures.class ∙ e)) got;
      missing = λ e index. absurd (none-some c.in-Some.class (sym e ∙ sym c.in-Some.ensures.class));
    }
