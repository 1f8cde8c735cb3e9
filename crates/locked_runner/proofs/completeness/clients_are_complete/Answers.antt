use Rattle.std.proofs.Common.{◌≡◌, ℕ, List, length, get_or, slice_get, Some, sym, ◌∙◌, subst, refl, arith}
use Rattle.std.proofs.lemmas.Bool.{false≢true}
use Rattle.std.proofs.lemmas.Option.{slice_get-get_or}
use Rattle.job_bodies.specs.Plan.{Client}
use Rattle.locked_runner.specs.Complete.{IsCompleteClient}
use Rattle.locked_runner.proofs.KindsOfClients.{kind_exists}
use Rattle.locked_runner.proofs.CompleteClients.{complete_clients_more, complete_clients_all}
use Rattle.locked_runner.proofs.completeness.clients_are_complete.Goals as goal

pub returns-in_default : goal.returns-in_default
returns-in_default c = λ history s are seen.
    let kinds = c.args.kinds.now in
    let n = c.loop-number.number in
    let at : slice_get kinds n ≡ Some (get_or kinds n 0) = slice_get-get_or kinds n 0 (omega arith) in
    let exists = kind_exists c.args.plan.now n (get_or kinds n 0) (subst (λ (ks : List ℕ). slice_get ks n ≡ Some (get_or kinds n 0)) c.requires.kinds at) in
    absurd (false≢true (c.in_default.ensures.exists.1 exists))

pub returns-then-not-is_complete_client : goal.returns-then-not-is_complete_client
returns-then-not-is_complete_client c = λ history s are seen. (
  λ fits. absurd (false≢true fits),
  λ through.
      let kinds = c.args.kinds.now in
      let n = c.loop-number.number in
      let at : slice_get kinds n ≡ Some (get_or kinds n 0) = slice_get-get_or kinds n 0 (omega arith) in
      let here = subst (λ (client : Client). IsCompleteClient c.args.rounds history s n client) (sym c.in-Some.ensures.found) (through n (get_or kinds n 0) at) in
      sym c.if-not-is_complete_client.true ∙ (c.is_complete_client.ensures c.args.plan.now history s (are n (omega arith)) seen).1 here,
)

pub loop-number-preserved : goal.loop-number-preserved
loop-number-preserved c =
    let n = c.loop-number.number in
    complete_clients_more c.args.plan.now c.args.kinds.now c.args.rounds c.args.made.now c.args.world.now.view n c.loop-number.invariant
    (λ history s are seen. subst (λ (client : Client). IsCompleteClient c.args.rounds history s n client) c.in-Some.ensures.found ((c.is_complete_client.ensures c.args.plan.now history s (are n (omega arith)) seen).0 c.if-not-is_complete_client.false))

pub returns : goal.returns
returns c = λ history s are seen.
    let all : length c.args.kinds.now ≡ c.loop-number.number = omega arith in (
      λ _. complete_clients_all c.args.plan.now c.args.kinds.now c.args.rounds c.args.made.now c.args.world.now.view c.loop-number.number all c.loop-number.invariant history s are seen,
      λ _. refl,
    )
