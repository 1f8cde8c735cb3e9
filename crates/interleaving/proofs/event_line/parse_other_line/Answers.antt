use Rattle.std.proofs.Common.{codes, Some, None, refl}
use Rattle.std.proofs.lemmas.Bool.Decides.{Decides-eqb}
use Rattle.std.proofs.lemmas.Slice.Eq.{strip_prefix_is}
use Rattle.interleaving.proofs.Verbs.{take_line, retire_line, stuck_line, no_line}
use Rattle.interleaving.proofs.event_line.parse_other_line.Goals as goal

pub returns-in_err-pool : goal.returns-in_err-pool
returns-in_err-pool c =
    let is = strip_prefix_is Decides-eqb c.args.line.now (codes "take ") (Some c.in-Some.pool) c.in-Some.ensures.cases in
    rw (c.from_residual.ensures, take_line c.args.plan.now c.args.line.now c.in-Some.pool.now is, ← c.in_err-pool.ensures) refl

pub returns-in-Some : goal.returns-in-Some
returns-in-Some c =
    let is = strip_prefix_is Decides-eqb c.args.line.now (codes "take ") (Some c.in-Some.pool) c.in-Some.ensures.cases in
    rw (take_line c.args.plan.now c.args.line.now c.in-Some.pool.now is, ← c.in_ok-pool.ensures) refl

pub returns-in_err-pool-2 : goal.returns-in_err-pool-2
returns-in_err-pool-2 c =
    let is = strip_prefix_is Decides-eqb c.args.line.now (codes "retire ") (Some c.in-Some-strip_prefix.pool) c.in-Some-strip_prefix.ensures.cases in
    rw (c.from_residual-in_err-pool-2.ensures, retire_line c.args.plan.now c.args.line.now c.in-Some-strip_prefix.pool.now is, ← c.in_err-pool-2.ensures) refl

pub returns-in-Some-strip_prefix : goal.returns-in-Some-strip_prefix
returns-in-Some-strip_prefix c =
    let is = strip_prefix_is Decides-eqb c.args.line.now (codes "retire ") (Some c.in-Some-strip_prefix.pool) c.in-Some-strip_prefix.ensures.cases in
    rw (retire_line c.args.plan.now c.args.line.now c.in-Some-strip_prefix.pool.now is, ← c.in_ok-pool-2.ensures) refl

pub returns-in_err-strip_prefix : goal.returns-in_err-strip_prefix
returns-in_err-strip_prefix c =
    let no_take = strip_prefix_is Decides-eqb c.args.line.now (codes "take ") None c.in_default.ensures.cases in
    let no_retire = strip_prefix_is Decides-eqb c.args.line.now (codes "retire ") None c.in_default-strip_prefix.ensures.cases in
    let no_stuck = strip_prefix_is Decides-eqb c.args.line.now (codes "stuck ") None c.in_err-strip_prefix.ensures.cases in
    rw c.from_residual-in_err-strip_prefix.ensures (no_line c.args.plan.now c.args.line.now c.requires.no_client c.requires.no_job no_take no_retire no_stuck)

pub returns-in_err-members : goal.returns-in_err-members
returns-in_err-members c =
    let is = strip_prefix_is Decides-eqb c.args.line.now (codes "stuck ") (Some c.in_ok-strip_prefix.field-0) c.in_ok-strip_prefix.ensures.cases in
    rw (c.from_residual-in_err-members.ensures, stuck_line c.args.plan.now c.args.line.now c.in_ok-strip_prefix.field-0.now is, ← c.in_err-members.ensures) refl

pub returns : goal.returns
returns c =
    let is = strip_prefix_is Decides-eqb c.args.line.now (codes "stuck ") (Some c.in_ok-strip_prefix.field-0) c.in_ok-strip_prefix.ensures.cases in
    rw (stuck_line c.args.plan.now c.args.line.now c.in_ok-strip_prefix.field-0.now is, ← c.in_ok-members.ensures) refl
