-- The steps of the code on views agree with the steps of the machine on states.
use Rattle.std.proofs.Common.{◌≡◌, ℕ, Bool, List, [], count_by, Option, Some, None, Result, Ok, Err, IfOk, OnErr, IsTrue, ◌↔◌, refl, sym, ap, subst, ◌∙◌}
use Rattle.job_bodies.specs.Plan.{Plan}
use Rattle.job_bodies.specs.WellFormed.{IsWellFormed}
use Rattle.pool_machine.specs.declared.event.Event.{Event}
use Rattle.pool_machine.specs.declared.event.Outcome.{Outcome}
use Rattle.pool_machine.specs.State.{State, is_unfinished}
use Rattle.pool_machine.specs.Reach.{start, IsReached}
use Rattle.pool_machine.specs.Waiting.{IsWaitingSet, is_waiting_set}
use Rattle.pool_machine.proofs.WaitingSets.{waiting_set_test}
use Rattle.interleaving.specs.LiveView.{View, live_view}
use Rattle.interleaving.specs.ViewStep.{is_unfinished_job}
use Rattle.interleaving.specs.Waiting.{is_waiting_set_in}
use Rattle.interleaving.specs.ViewAnswers.{AnswersAs}
use Rattle.interleaving.proofs.Reached.{unfinished, sets_seen, answers_possible, answers_impossible, reached_after}
use Rattle.interleaving.specs.World.{WorldValue}
use Rattle.interleaving.specs.OfPlan.{IsReachableView}
use Rattle.interleaving.specs.Answers.{AnswersIn}

-- ---- steps

answers_seen : (plan : Plan) (s : State) (event : Event) (answer : Option Outcome) (new : View) → IsWellFormed plan → IsReached plan s → AnswersIn plan (live_view plan s) event answer new → AnswersAs plan s event answer new
answers_seen plan s event None new w reached a = answers_impossible plan s event new w reached a.0 a.1
answers_seen plan s event (Some outcome) new w reached a = answers_possible plan s event outcome new w reached a

answers_in : (plan : Plan) (s : State) (event : Event) (answer : Option Outcome) (old new : View) → IsWellFormed plan → IsReached plan s → live_view plan s ≡ old → AnswersIn plan old event answer new → AnswersAs plan s event answer new
answers_in plan s event answer old new w reached same a = answers_seen plan s event answer new w reached (subst (λ v. AnswersIn plan v event answer new) (sym same) a)

-- an answer that is right in the view is right in each state with this view
pub raised : {E : Type 0} (plan : Plan) (event : Event) (old new : View) (answered : Result (Option Outcome) E) → IsWellFormed plan → IfOk answered (λ answer. AnswersIn plan old event answer new)
    → IfOk answered (λ answer. (s : State) → IsReached plan s → live_view plan s ≡ old → AnswersAs plan s event answer new)
raised plan event old new (Ok answer) w a = λ s reached same. answers_in plan s event answer old new w reached same a
raised plan event old new (Err e) w a = tt

of_plan_after : (plan : Plan) (event : Event) (answer : Option Outcome) (s : State) (new : View) → IsReached plan s → AnswersAs plan s event answer new → IsReachableView plan new
of_plan_after plan event None s new reached a = (s, reached, sym a.1)
of_plan_after plan event (Some outcome) s new reached a = (a.0, reached_after plan s a.0 event outcome reached a.1, sym a.2)

-- the view of the world after the event is the live view of a reachable state of the plan
pub still_of_plan : {E : Type 0} (plan : Plan) (event : Event) (old new : WorldValue) (answered : Result (Option Outcome) E) → IsWellFormed plan → IsReachableView plan old.view → IfOk answered (λ answer. AnswersIn plan old.view event answer new.view) → OnErr answered (new ≡ old)
    → IsReachableView plan new.view
still_of_plan plan event old new (Ok answer) w of a unchanged = of_plan_after plan event answer of.0 new.view of.1 (answers_in plan of.0 event answer old.view new.view w of.1 of.2 a)
still_of_plan plan event old new (Err e) w of a unchanged = subst (λ (world : WorldValue). IsReachableView plan world.view) (sym unchanged) of

-- the view of the world at the start is the live view of a reachable state of the plan
pub start_of_plan : (plan : Plan) (view : View) → view ≡ live_view plan (start plan) → IsReachableView plan view
start_of_plan plan view e = (start plan, ([], refl), sym e)

-- ---- look-ups

pub unfinished_seen : (plan : Plan) (s : State) (view : View) (n : ℕ) → n ≡ count_by is_unfinished_job view.jobs → live_view plan s ≡ view → n ≡ count_by (λ job. is_unfinished job.stage) s.jobs
unfinished_seen plan s view n e same = e ∙ ap (λ (v : View). count_by is_unfinished_job v.jobs) (sym same) ∙ unfinished plan s

pub set_seen : (plan : Plan) (s : State) (view : View) (members : List ℕ) (answer : Bool) → IsWellFormed plan → IsReached plan s → live_view plan s ≡ view → answer ≡ is_waiting_set_in plan view members → answer ≡ is_waiting_set plan s members
set_seen plan s view members answer w reached same e = e ∙ ap (λ v. is_waiting_set_in plan v members) (sym same) ∙ sym (sets_seen plan s members w reached)

-- if the answer is the value of the test, it is true exactly when the numbers are a waiting set
pub set_in_words : (plan : Plan) (s : State) (members : List ℕ) (answer : Bool) → answer ≡ is_waiting_set plan s members → IsTrue answer ↔ IsWaitingSet plan s members
set_in_words plan s members answer e = subst (λ b. IsTrue b ↔ IsWaitingSet plan s members) (sym e) (waiting_set_test plan s members)
