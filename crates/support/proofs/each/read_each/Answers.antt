use Rattle.std.proofs.Common.{refl}
use Rattle.std.proofs.lemmas.Result.{err_from_is_err_and}
use Rattle.support.proofs.Loops.{at_index}
use Rattle.support.proofs.ReadingEach.{read_begins, read_continues, read_stops, read_ends}
use Rattle.support.proofs.each.read_each.Goals as goal

pub loop-place-init : goal.loop-place-init
loop-place-init g c = rw c.new-given.ensures.items (read_begins _ _)

pub loop-place-preserved : goal.loop-place-preserved
loop-place-preserved g c =
    let x = c.index-elements-place.result in
    let here = at_index c.args.elements.now c.loop-place.place x c.loop-place-test.true c.index-elements-place.is in
    rw c.in_ok-push.ensures.items (read_continues _ _ _ _ _ _ here (_, refl, c.in_ok-one.ensures) c.loop-place.invariant)

pub returns-in_err-one : goal.returns-in_err-one
returns-in_err-one g c =
    let x = c.index-elements-place.result in
    let here = at_index c.args.elements.now c.loop-place.place x c.loop-place-test.true c.index-elements-place.is in
    let p = err_from_is_err_and c.from_residual.result c.from_residual.ensures.1 in
    rw (p.1, p.2) (record { outcome = read_stops _ _ _ _ _ _ here (_, refl, c.in_err-one.ensures) c.loop-place.invariant })

pub returns : goal.returns
returns g c = record { outcome = read_ends _ _ _ _ c.loop-place-test.false c.loop-place.invariant }
