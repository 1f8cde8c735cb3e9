use Rattle.std.proofs.Common.{sym, ap, ◌∙◌, ◌≡◌, List}
use Rattle.pool_machine.specs.declared.client_state.ClientState.{ClientState}
use Rattle.pool_machine.specs.Reach.{start}
use Rattle.interleaving.specs.LiveView.{View}
use Rattle.report.specs.EventSteps.{action_of, actor_of, changed_pool, position_of, taken_class}
use Rattle.report.specs.Performed as seen
use Rattle.report.proofs.EventsSeen.{actor_shown, position_shown, pool_shown, taken_shown, step_shown}
use Rattle.report.proofs.event_steps.perform.Goals as goal

pub returns-clause-value : goal.returns-clause-value
returns-clause-value c = λ s reached is_view.
    let plan = c.args.plan.now in
    let e = c.args.event in
    let o = c.in-Some.outcome in
    let a = c.actor_of-actor.result in
    let answered = rw c.in-Some.is at c.in_ok-outcome.ensures.answered in
    let did = answered s reached is_view in
    let is_actor : a ≡ actor_of plan s e =
    c.actor_of-actor.ensures ∙ ap (λ (kinds : List ClientState). seen.actor_seen kinds c.args.world.now.view e) c.requires.kinds ∙ ap (λ (view : View). seen.actor_seen (start plan).clients view e) (sym is_view) ∙ actor_shown plan s e (did.0, o) did.1 in
    let is_action : c.action_of.result ≡ action_of o (position_of s e) = c.action_of.ensures ∙ ap (action_of o) (c.position_of-position.ensures ∙ ap (λ (view : View). seen.position_seen view e) (sym is_view) ∙ position_shown plan s e (did.0, o) did.1) in
    let is_pool : c.changed_pool-pool.result ≡ changed_pool plan did.0 a o = c.changed_pool-pool.ensures ∙ ap (λ (view : View). seen.changed_pool_seen plan view a o) did.2 ∙ pool_shown plan s did.0 e o a did.1 in
    let is_taken : c.taken_class.result ≡ taken_class did.0 o =
    c.taken_class.ensures ∙ ap (λ (view : View). seen.taken_seen view o) did.2 ∙ taken_shown plan s did.0 e o c.requires.well_formed reached did.1 in (
      did.0,
      o,
      did.1,
      did.2,
      step_shown plan s did.0 e o a c.position_of-position.result c.changed_pool-pool.result c.counts_of.result c.action_of.result c.taken_class.result did.1 is_actor is_action is_pool
          (c.counts_of.ensures ∙ ap (λ (view : View). seen.counts_seen view c.changed_pool-pool.result) did.2)
          is_taken,
    )
