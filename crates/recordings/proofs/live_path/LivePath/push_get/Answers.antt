use Rattle.std.proofs.Common.{◌≡◌, ◌++◌, ◌∷◌, [], set, refl, ap, sym, subst, ◌∙◌, arith}
use Rattle.std.proofs.lemmas.Grind.{common_steps}
use Rattle.std.proofs.lemmas.List.{get_or_default}
use Rattle.recordings.specs.declared.step.RecordedStep.TheVariants.{Gets}
use Rattle.recordings.specs.declared.submit_index.SubmitEntry.{SubmitEntry}
use Rattle.recordings.specs.SubmitIndex.{unclaimed, entry_at, IsAscending}
use Rattle.recordings.proofs.SubmitIndex.{claimed, claims, ascending_set, found_nowhere, found_again, found_first}
use Rattle.recordings.proofs.live_path.LivePath.push_get.Goals as goal

pub returns-in_default-clause-got : goal.returns-in_default-clause-got
returns-in_default-clause-got c = found_nowhere _ _ _ c.args.job c.self.view_is c.self.invariant.0 (c.in_default.ensures.absent refl)

pub returns-then-index-clause-got : goal.returns-then-index-clause-got
returns-then-index-clause-got c =
    let entries = c.self.inside.submits.entries.items in
    let last = c.in-Some.ensures.found in
    let read : c.index.result.now ≡ entry_at entries c.in-Some.at = grind (arith, common_steps, c.index.ensures, get_or_default entries c.in-Some.at c.index.result.now (unclaimed 0 0) last.within) in
    found_again _ _ entries c.args.job c.in-Some.at c.index.result.now c.self.view_is c.self.invariant.0 last read c.if-index.true

pub invariant_of-self-2 : goal.invariant_of-self-2
invariant_of-self-2 c =
    let entries = c.self.inside.submits.entries.items in
    let last = c.in-Some.ensures.found in
    let read : c.index-2.result.now ≡ entry_at entries c.in-Some.at = grind (arith, common_steps, c.index-2.ensures, get_or_default entries c.in-Some.at c.index-2.result.now (unclaimed 0 0) last.within) in
    let there : c.index_mut.result.now ≡ entry_at entries c.in-Some.at = grind (arith, common_steps, c.index_mut.ensures.value, get_or_default entries c.in-Some.at c.index_mut.result.now (unclaimed 0 0) last.within) in
    let written = ap (λ (one : SubmitEntry). set entries c.in-Some.at (claimed one)) there in (
      claims c.in-Some.at _ _ entries _ c.self.invariant.0 last.within (c.in_ok-push.ensures.items ∙ ap (λ (one : SubmitEntry). c.self.inside.steps.items ++ Gets one.place ∷ []) read) written,
      λ ascending. subst IsAscending (sym written) (ascending_set entries c.in-Some.at last.within (c.self.invariant.1 ascending)),
    )

pub returns-clause-got : goal.returns-clause-got
returns-clause-got c =
    let entries = c.self.inside.submits.entries.items in
    let last = c.in-Some.ensures.found in
    let read : c.index.result.now ≡ entry_at entries c.in-Some.at = grind (arith, common_steps, c.index.ensures, get_or_default entries c.in-Some.at c.index.result.now (unclaimed 0 0) last.within) in
    let again : c.index-2.result.now ≡ entry_at entries c.in-Some.at = grind (arith, common_steps, c.index-2.ensures, get_or_default entries c.in-Some.at c.index-2.result.now (unclaimed 0 0) last.within) in
    found_first _ _ _ entries c.args.job c.in-Some.at c.index.result.now c.index-2.result.now c.self.view_is c.self.invariant.0 last read c.if-index.false again c.in_ok-push.ensures.items
