use Rattle.std.proofs.Common.{◌≡◌, ◌∙◌, ◌++◌, ap, ap₂, List, ℕ, subst}
use Rattle.std.specs.Prelude.{flat_map}
use Rattle.std.specs.List.{enumerate_from}
use Rattle.support.specs.Pushed.{Pushes}
use Rattle.interleaving.specs.LiveView.{View}
use Rattle.report.specs.EventRows.{state_at_end}
use Rattle.report.specs.Performed.{PerformsAll}
use Rattle.report.specs.Story as spec
use Rattle.report.specs.StorySeen as seen
use Rattle.report.proofs.StoryState.{pools_shown, waits_shown}
use Rattle.report.proofs.story.push_story.Goals as goal

pub returns : goal.returns
returns c =
    let plan = c.args.plan.now in
    let events = c.args.events.now in
    let members = c.args.members.now in
    let view = c.perform_all.new.world.view in
    let after = state_at_end plan events in
    let did : PerformsAll plan events view c.in_ok-steps.steps.items = c.in_ok-steps.ensures.value in
    let is_steps = ap (spec.steps_text plan) (c.deref.ensures.value ∙ did.each) in
    let is_pools : flat_map (seen.pool_line_seen view) (enumerate_from 0 plan.pools) ≡ spec.pools_text plan after =
    ap (λ (v : View). flat_map (seen.pool_line_seen v) (enumerate_from 0 plan.pools)) did.seen ∙ pools_shown plan after in
    let is_waits : seen.waits_text plan view members ≡ spec.waits_text plan after members =
    ap (λ (v : View). seen.waits_text plan v members) did.seen ∙ waits_shown plan after members c.in_ok-steps.ensures.well_formed did.reached in
    subst (λ (t : List ℕ). Pushes c.push_parts.result c.args.text.now c.push_parts.new.text t)
    (ap₂ (λ (xs ys : List ℕ). xs ++ ys) (ap₂ (λ (xs ys : List ℕ). xs ++ ys) is_steps is_pools) is_waits) c.push_parts.ensures
