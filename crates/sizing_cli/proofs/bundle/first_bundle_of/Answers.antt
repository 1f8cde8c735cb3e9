use Rattle.std.proofs.Common.{List, ℕ, ◌+◌, Some, ap, ◌∙◌, length, length-append, length-drop, arith}
use Rattle.sizing_cli.proofs.FirstSeparator.{read_nothing, found_here, none_left, line_read}
use Rattle.sizing_cli.proofs.bundle.first_bundle_of.Goals as goal

pub loop-second-init : goal.loop-second-init
loop-second-init c = read_nothing c.args.input.now

pub overflow_sub-input : goal.overflow_sub-input
overflow_sub-input c =
    let read = c.loop-second.invariant in
    let whole = ap length read.whole in
    let parts = length-append read.front c.loop-second.rest.now in
    omega (arith, whole, parts)

pub returns-in-Some : goal.returns-in-Some
returns-in-Some c =
    ap (λ (plan : List ℕ). Some (record { plan = plan; second = c.in-Some.second.now })) c.split_at.ensures.front
    ∙ found_here c.args.input.now c.loop-second.rest.now c.loop-second.invariant c.in-Some.second.now c.in-Some.ensures

pub returns-in_err-newline : goal.returns-in_err-newline
returns-in_err-newline c = rw c.from_residual.ensures (none_left c.args.input.now c.loop-second.rest.now c.loop-second.invariant c.in_default.ensures c.in_err-newline.ensures)

pub overflow_add-newline : goal.overflow_add-newline
overflow_add-newline c =
    let read = c.loop-second.invariant in
    let whole = ap length read.whole in
    let parts = length-append read.front c.loop-second.rest.now in
    let lt = c.in_ok-newline.ensures.0.high in
    omega (arith, whole, parts, lt)

pub loop-second-smaller : goal.loop-second-smaller
loop-second-smaller c =
    let lt = c.in_ok-newline.ensures.0.high in
    let after = ap length c.split_at-in-loop-second.ensures.back in
    let long = length-drop (c.in_ok-newline.newline + 1) c.loop-second.rest.now in
    omega (arith, lt, after, long)

pub loop-second-preserved : goal.loop-second-preserved
loop-second-preserved c =
    line_read c.args.input.now c.loop-second.rest.now c.loop-second.invariant c.in_ok-newline.newline _ c.in_default.ensures c.in_ok-newline.ensures c.split_at-in-loop-second.ensures.back
