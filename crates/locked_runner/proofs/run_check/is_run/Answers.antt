use Rattle.std.proofs.Common.{◌≡◌, ◌<◌, ◌↔◌, ◌∙◌, ℕ, IsTrue, List, length, take, map, sym, ap, subst, arith}
use Rattle.std.proofs.lemmas.Bool.{false≢true}
use Rattle.std.proofs.lemmas.List.{take_all}
use Rattle.std.proofs.lemmas.Result.{IfOk-weaker}
use Rattle.interleaving.specs.LiveView.{View}
use Rattle.pool_machine.specs.declared.event.Event.{Event}
use Rattle.locked_runner.specs.HeldWorld.{IsReachedBy}
use Rattle.locked_runner.specs.Owner.{lists_of}
use Rattle.locked_runner.specs.Receipts.{AreListsOf, places_of}
use Rattle.locked_runner.specs.Report.{ThreadResults}
use Rattle.locked_runner.specs.Run.{IsRun, Makes, Works, units_done}
use Rattle.locked_runner.proofs.Histories.{cut_short, jobs_of, run_of}
use Rattle.locked_runner.proofs.run_check.is_run.Goals as goal

pub returns-then-events-len-clause-run : goal.returns-then-events-len-clause-run
returns-then-events-len-clause-run c =
    let results = ap (λ (m : ThreadResults). length m.history) c.results.view_is in
    let more : length c.args.replay.now.pools.items < length c.args.results.now.history = omega (arith, c.events.ensures, results, c.results.inside.history.ok.0) in (
      λ so. absurd (false≢true so),
      λ both. absurd (cut_short c.args.plan.now c.args.rounds c.args.results.now.history c.args.results.now.receipts (length c.args.replay.now.pools.items) c.requires.part more both.0),
    )

pub returns-then-made-numbers-clause-run : goal.returns-then-made-numbers-clause-run
returns-then-made-numbers-clause-run c =
    let results = ap (λ (m : ThreadResults). length m.history) c.results.view_is in
    let all = take_all (length c.args.replay.now.pools.items) c.args.results.now.history (omega (arith, c.events.ensures, results, c.results.inside.history.ok.0)) in
    let led = subst (λ (h : List Event). IsReachedBy c.args.plan.now h c.args.replay.now.world) all c.requires.replayed.reached in (
      λ so. absurd (false≢true so),
      λ both. absurd (c.if-made-numbers.true (c.made.ensures ∙ (ap (λ (v : View). length v.jobs) c.world-world.ensures ∙ jobs_of c.args.plan.now c.args.results.now.history c.args.replay.now.world c.args.numbers.jobs led both.1))),
    )

pub returns-then-not-equals_count-clause-run : goal.returns-then-not-equals_count-clause-run
returns-then-not-equals_count-clause-run c =
    let results = ap (λ (m : ThreadResults). length m.history) c.results.view_is in
    let all = take_all (length c.args.replay.now.pools.items) c.args.results.now.history (omega (arith, c.events.ensures, results, c.results.inside.history.ok.0)) in
    let units = c.args.numbers.units in
    let counted = c.equals_count.ensures (units_done c.args.plan.now (take (length c.args.replay.now.pools.items) c.args.results.now.history)) c.requires.replayed.counted in
    let worked = subst (λ (h : List Event). IsTrue c.equals_count.result ↔ Works c.args.plan.now h units) all counted in (
      λ so. absurd (false≢true so),
      λ both. let so : IsTrue c.equals_count.result = worked.1 both.2 in absurd (false≢true (sym c.if-not-equals_count.true ∙ so)),
    )

pub returns-clause-reached : goal.returns-clause-reached
returns-clause-reached c =
    let results = ap (λ (m : ThreadResults). length m.history) c.results.view_is in
    let all = take_all (length c.args.replay.now.pools.items) c.args.results.now.history (omega (arith, c.events.ensures, results, c.results.inside.history.ok.0)) in
    let led = subst (λ (h : List Event). IsReachedBy c.args.plan.now h c.args.replay.now.world) all c.requires.replayed.reached in
    IfOk-weaker c.each_once.result
    (λ once. IsTrue once ↔ ((k : ℕ) → k < c.len-2.result → places_of k (map (λ list. list.items) c.deref-2.result.now) ≡ 1))
    (λ is_run. IsTrue is_run → IsReachedBy c.args.plan.now c.args.results.now.history c.args.replay.now.world)
    (λ once counted so. led)
    c.each_once.ensures

pub returns-clause-run : goal.returns-clause-run
returns-clause-run c =
    let results = c.args.results.now in
    let long = ap (λ (m : ThreadResults). length m.history) c.results.view_is in
    let all : take (length c.args.replay.now.pools.items) results.history ≡ results.history = take_all (length c.args.replay.now.pools.items) results.history (omega (arith, c.events.ensures, long, c.results.inside.history.ok.0)) in
    let view = c.args.replay.now.world in
    let led = subst (λ (h : List Event). IsReachedBy c.args.plan.now h view) all c.requires.replayed.reached in
    let owner_lists = subst (λ (h : List Event). AreListsOf c.args.plan.now h (lists_of c.args.plan.now) results.receipts) all c.requires.owner_lists in
    let jobs : length view.jobs ≡ c.args.numbers.jobs = sym (ap (λ (v : View). length v.jobs) c.world-world.ensures) ∙ (sym c.made.ensures ∙ c.if-made-numbers.false) in
    let units : Works c.args.plan.now results.history c.args.numbers.units = subst (λ (h : List Event). Works c.args.plan.now h c.args.numbers.units) all ((c.equals_count.ensures (units_done c.args.plan.now (take (length c.args.replay.now.pools.items) results.history)) c.requires.replayed.counted).0 c.if-not-equals_count.false) in
    let lists = ap (λ vecs. map (λ list. list.items) vecs) c.deref-2.ensures.value ∙ ap (λ (m : ThreadResults). m.receipts) c.results.view_is in
    let n : c.len-2.result ≡ length results.history = omega (arith, c.len-2.ensures, long, c.results.inside.history.ok.0) in
    IfOk-weaker c.each_once.result
    (λ once. IsTrue once ↔ ((k : ℕ) → k < c.len-2.result → places_of k (map (λ list. list.items) c.deref-2.result.now) ≡ 1))
    (λ once. IsTrue once ↔ (IsRun c.args.plan.now c.args.rounds results.history results.receipts × Makes c.args.plan.now results.history c.args.numbers.jobs × Works c.args.plan.now results.history c.args.numbers.units))
    (λ once counted. run_of c.args.plan.now c.args.rounds c.args.numbers.jobs c.args.numbers.units c.len-2.result results.history c.deref.result.now view results.receipts (map (λ list. list.items) c.deref-2.result.now) c.in_ok-is_complete.field-0 once
    led (c.deref.ensures.value ∙ ap (λ (m : ThreadResults). m.history) c.results.view_is) owner_lists jobs units
    (λ s same. c.in_ok-is_complete.ensures s (same ∙ sym c.world-world.ensures))
    c.if-not-branch.false n lists counted)
    c.each_once.ensures
