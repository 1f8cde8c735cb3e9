-- Replays up to the first job that a pool rejects.
use Rattle.std.proofs.Common.{◌≡◌, ◌≢◌, ℕ, ◌+◌, ◌<◌, true, false, List, [], length, get_or, take, Some, refl, sym, ap, subst, ◌∙◌}
use Rattle.std.proofs.lemmas.Bool.{false≢true, eqb-true, eq-eqb}
use Rattle.std.proofs.lemmas.List.{take_more}
use Rattle.support.proofs.Members.{not_In_nil}
use Rattle.job_bodies.specs.Plan.{Plan}
use Rattle.pool_machine.specs.declared.event.Event.{Event}
use Rattle.pool_machine.specs.declared.event.Event.TheVariants as event
use Rattle.pool_machine.specs.declared.event.Outcome.{Outcome}
use Rattle.pool_machine.specs.declared.event.Outcome.TheVariants as outcome
use Rattle.pool_machine.specs.Reach.{start}
use Rattle.interleaving.specs.LiveView.{View, live_view}
use Rattle.counterexample.specs.ReplayResult.{ComesTo}
use Rattle.counterexample.specs.Rejection.{is_rejection_by, NoneRejected, EndsRejected}
use Rattle.counterexample.proofs.EventReplays.{none_more, comes_to_start, AnswersAt, answer_here, goes_on}

-- ---- outcomes

-- an outcome that passes the test is a rejection by the pool
rejected_from_test : (p : ℕ) (o : Outcome) → is_rejection_by p o ≡ true → (j : ℕ) × (o ≡ outcome.Rejected p j)
rejected_from_test p (outcome.Rejected q j) passes = (j, ap (λ (n : ℕ). outcome.Rejected n j) (eqb-true q p passes))
rejected_from_test p (outcome.Started j) passes = absurd (false≢true passes)
rejected_from_test p (outcome.Queued j) passes = absurd (false≢true passes)
rejected_from_test p (outcome.Refused q) passes = absurd (false≢true passes)
rejected_from_test p (outcome.Worked u) passes = absurd (false≢true passes)
rejected_from_test p (outcome.Got j) passes = absurd (false≢true passes)
rejected_from_test p outcome.Looped passes = absurd (false≢true passes)
rejected_from_test p (outcome.Finished j) passes = absurd (false≢true passes)
rejected_from_test p (outcome.Took j) passes = absurd (false≢true passes)
rejected_from_test p outcome.Retired passes = absurd (false≢true passes)

-- an outcome that fails the test is not a rejection by the pool
no_rejection : (p : ℕ) (o : Outcome) → is_rejection_by p o ≡ false → (j : ℕ) → o ≢ outcome.Rejected p j
no_rejection p o fails j same = false≢true (sym fails ∙ ap (is_rejection_by p) same ∙ eq-eqb p p refl)

-- ---- the events so far

-- the events lead to this view, none is a refused submit, and pool p rejects no job
pub record ComesUnrejected (plan : Plan) (events : List Event) (p : ℕ) (view : View) : Type 0 where
  pub comes : ComesTo plan events view
  pub none_rejected : NoneRejected plan events p

pub unrejected_at_start : (plan : Plan) (p : ℕ) (view : View) → view ≡ live_view plan (start plan) → ComesUnrejected plan [] p view
unrejected_at_start plan p view seen = record { comes = comes_to_start plan view seen; none_rejected = λ j i. not_In_nil i }

pub goes_on_unrejected : (plan : Plan) (events : List Event) (i p : ℕ) (view after : View) (o : Outcome) → ComesUnrejected plan (take i events) p view → i < length events → AnswersAt plan events i view (Some o) after
    → ((q : ℕ) → o ≢ outcome.Refused q) → is_rejection_by p o ≡ false → ComesUnrejected plan (take (i + 1) events) p after
goes_on_unrejected plan events i p view after o held inside answered no_refusal fails =
    let e = get_or events i (event.Client 0) in
    let here = answer_here plan events i view after (Some o) held.comes answered in
    record {
      comes = goes_on plan events i view after o held.comes inside answered no_refusal;
      none_rejected = λ j.
          subst (λ (list : List Event). NoneRejected plan list p) (sym (take_more events i (event.Client 0) inside))
          (λ n. none_more plan (take i events) e o (outcome.Rejected p n) held.comes.state here.0 (held.none_rejected n) held.comes.reaches here.1 (no_rejection p o fails n))
          j;
    }

pub ends_rejected : (plan : Plan) (events : List Event) (i p : ℕ) (view after : View) (o : Outcome) → ComesUnrejected plan (take i events) p view → i < length events → AnswersAt plan events i view (Some o) after
    → is_rejection_by p o ≡ true → EndsRejected plan (take (i + 1) events) p
ends_rejected plan events i p view after o held inside answered passes =
    let here = answer_here plan events i view after (Some o) held.comes answered in
    let rejection = rejected_from_test p o passes in
    record {
      front = take i events;
      last = get_or events i (event.Client 0);
      is_last = take_more events i (event.Client 0) inside;
      none_refused = held.comes.none_refused;
      none_before = held.none_rejected;
      before = held.comes.state;
      reaches = held.comes.reaches;
      after = here.0;
      job = rejection.0;
      rejected = here.1 ∙ ap (λ (found : Outcome). Some (here.0, found)) rejection.1;
    }
