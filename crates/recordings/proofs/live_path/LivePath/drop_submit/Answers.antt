use Rattle.std.proofs.Common.{◌≡◌, true, length, sym, subst, ◌∙◌, arith}
use Rattle.recordings.specs.ActorPath.{ends_with_submit}
use Rattle.recordings.specs.SubmitIndex.{IsAscending}
use Rattle.recordings.proofs.SubmitIndex.{dropped, ascending_take}
use Rattle.recordings.proofs.live_path.LivePath.drop_submit.Goals as goal

pub invariant_of-self : goal.invariant_of-self
invariant_of-self c =
    let ends : ends_with_submit c.args.job c.args.self.now ≡ true = sym c.ends_with_submit.ensures ∙ c.if-ends_with_submit.true in
    let here : ends_with_submit c.args.job c.self.inside.steps.items ≡ true = subst (λ path. ends_with_submit c.args.job path ≡ true) (sym c.self.view_is) ends in
    let steps_len : c.self.inside.steps.len ≡ length c.self.inside.steps.items = omega (arith, c.self.inside.steps.ok.0) in
    let entries_len : c.self.inside.submits.entries.len ≡ length c.self.inside.submits.entries.items = omega (arith, c.self.inside.submits.entries.ok.0) in (
      dropped c.args.job _ _ _ _ _ _ here c.self.invariant.0 steps_len entries_len c.pop.ensures.rest c.pop-then-ends_with_submit.ensures.rest,
      λ ascending. subst IsAscending (sym c.pop-then-ends_with_submit.ensures.rest) (ascending_take _ _ (c.self.invariant.1 ascending)),
    )
