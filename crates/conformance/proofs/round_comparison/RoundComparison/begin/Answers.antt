use Rattle.std.proofs.Common.{◌≡◌, ◌++◌, slice_get, Some, None, ap, sym, ◌∙◌, append-nil, arith}
use Rattle.std.proofs.lemmas.Grind.{common_steps}
use Rattle.std.proofs.lemmas.Option.{gets}
use Rattle.std.proofs.lemmas.Result.{on_ok_weaker}
use Rattle.conformance.specs.RoundComparison.{after_begin, reports_of_kind}
use Rattle.conformance.proofs.KindSet.{set_changed, none_changed}
use Rattle.conformance.proofs.round_comparison.RoundComparison.begin.Goals as goal

pub returns-in-Some-clause-begun : goal.returns-in-Some-clause-begun
returns-in-Some-clause-begun c =
    let there : slice_get c.args.self.now.kinds.items c.args.kind ≡ Some c.in-Some.rounds.now = grind (arith, common_steps, gets, c.in-Some.ensures.variant, c.in-Some.ensures.value, c.in-Some.ensures.item) in
    on_ok_weaker c.note_begin.result (λ begun k. set_changed after_begin c.args.self.now.kinds.items c.args.kind k c.in-Some.rounds.now c.note_begin.new.self there begun) c.note_begin.ensures.begun

pub returns-in-Some-clause-found : goal.returns-in-Some-clause-found
returns-in-Some-clause-found c =
    let there : slice_get c.args.self.now.kinds.items c.args.kind ≡ Some c.in-Some.rounds.now = grind (arith, common_steps, gets, c.in-Some.ensures.variant, c.in-Some.ensures.value, c.in-Some.ensures.item) in
    on_ok_weaker c.note_begin.result (λ found. found ∙ sym (ap (λ kept. c.args.found.now.items ++ reports_of_kind c.args.number c.args.kind kept) there)) c.note_begin.ensures.found

pub returns-in-None-clause-begun : goal.returns-in-None-clause-begun
returns-in-None-clause-begun c =
    let none : slice_get c.args.self.now.kinds.items c.args.kind ≡ None = grind (arith, common_steps, gets, c.in-None.ensures.variant, c.in-None.ensures.value, c.in-None.ensures.item) in
    λ k. none_changed after_begin c.args.self.now.kinds.items c.args.kind k none

pub returns-in-None-clause-found : goal.returns-in-None-clause-found
returns-in-None-clause-found c =
    let none : slice_get c.args.self.now.kinds.items c.args.kind ≡ None = grind (arith, common_steps, gets, c.in-None.ensures.variant, c.in-None.ensures.value, c.in-None.ensures.item) in
    sym (ap (λ there. c.args.found.now.items ++ reports_of_kind c.args.number c.args.kind there) none ∙ append-nil c.args.found.now.items)
