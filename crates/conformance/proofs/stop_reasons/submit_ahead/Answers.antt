use Rattle.std.proofs.Common.{ℕ, slice_get, inl, inr, sym, arith}
use Rattle.std.proofs.lemmas.Bool.{cases_lt}
use Rattle.std.proofs.lemmas.Option.{slice_get_within}
use Rattle.support.proofs.Members.{In-from_list_any}
use Rattle.job_bodies.specs.declared.action.Action.TheVariants.{Submit}
use Rattle.conformance.specs.Path.{is_submit_of}
use Rattle.conformance.proofs.WalkStates.{submit_is}
use Rattle.conformance.proofs.stop_reasons.submit_ahead.Goals as goal

pub returns-in-Some : goal.returns-in-Some
returns-in-Some c = record {
  in_body = c.loop-submit-test.true;
  of_any = sym c.if-submits_any.ensures;
  reached = c.in-Some.ensures;
  next = λ submit ahead. elim (cases_lt submit c.loop-submit.submit) [
    | inl less ↦ absurd (c.loop-submit.invariant submit less ahead)
    | inr more ↦ more
  ];
}

pub returns : goal.returns
returns c = λ submit ahead.
    let found = In-from_list_any (λ (k : ℕ). is_submit_of k (slice_get c.args.body.now submit)) c.args.classes.now ahead.of_any in
    let within = slice_get_within c.args.body.now submit (Submit found.0) (submit_is found.0 (slice_get c.args.body.now submit) found.2) in
    let past = c.loop-submit-test.false in
    c.loop-submit.invariant submit (omega (arith, within, past)) ahead
