use Rattle.std.proofs.Common.{◌≤◌, List, length, ◌∷◌, ◌++◌, ◌∙◌, [], refl, ap, sym, subst, arith}
use Rattle.std.specs.List.{Contains}
use Rattle.std.proofs.lemmas.List.Elements.{Contains-append_right}
use Rattle.job_bodies.specs.declared.limits.TheConstants.{MAX_POOLS}
use Rattle.job_bodies.specs.Plan.{Pool}
use Rattle.recordings.specs.RecordingLine.{line_view}
use Rattle.learning.specs.LearningState.{AreFirstPools, IsDraftOf}
use Rattle.learning.specs.LabelRounds.{AreLabelRoundsOf}
use Rattle.learning.proofs.LabelEntries.{still_stops}
use Rattle.learning.proofs.Firsts.{first_pools}
use Rattle.learning.proofs.FirstPass.{named_after}
use Rattle.learning.proofs.recorded_names.RecordedNames.note.Goals as goal

pub returns-in_err-note-clause-err : goal.returns-in_err-note-clause-err
returns-in_err-note-clause-err c = λ before after names draft kept.
    let line = line_view c.args.line.now in
    let all = before ++ line ∷ after in
    let there : Contains all line = Contains-append_right before (line ∷ after) line (0, omega arith, refl) in
    let first : AreFirstPools all c.deref.result.now = first_pools before (line ∷ after) c.deref.result.now (c.deref.ensures.value ∙ names.pools) in
    still_stops all _ _ c.from_residual.ensures.1 (c.in_err-note.ensures.err all there first draft)

pub returns-in_err-take-clause-err : goal.returns-in_err-take-clause-err
returns-in_err-take-clause-err c = λ before after names draft kept. let all = before ++ line_view c.args.line.now ∷ after in still_stops all _ _ c.from_residual-in_err-take.ensures.1 (c.in_err-take.ensures.err before after kept)

pub returns-clause-names : goal.returns-clause-names
returns-clause-names c = λ before names.
    let counts = c.in_ok-count.ensures in
    named_after c.args.self.now c.count.new.self before (line_view c.args.line.now) names (ap (λ pools. pools.items) counts.pools ∙ c.in_ok-note_pool.ensures.ok)
    (λ few. subst (λ (pools : List Pool). length pools ≤ MAX_POOLS) (sym (ap (λ pools. pools.items) counts.pools)) (c.in_ok-note_pool.ensures.few few))
    counts.rounds counts.jobs counts.ended_rounds counts.started_jobs counts.ended_jobs counts.failed_gets

pub returns-clause-draft : goal.returns-clause-draft
returns-clause-draft c = λ before after names draft.
    let line = line_view c.args.line.now in
    let all = before ++ line ∷ after in
    let there : Contains all line = Contains-append_right before (line ∷ after) line (0, omega arith, refl) in
    let first : AreFirstPools all c.deref.result.now = first_pools before (line ∷ after) c.deref.result.now (c.deref.ensures.value ∙ names.pools) in
    subst (IsDraftOf all) (sym c.in_ok-count.ensures.draft) (c.in_ok-note.ensures.ok all there first draft)

pub returns-clause-rounds : goal.returns-clause-rounds
returns-clause-rounds c = λ before rounds. subst (λ rs. AreLabelRoundsOf rs (before ++ line_view c.args.line.now ∷ [])) (sym c.in_ok-count.ensures.label_rounds) (c.in_ok-take.ensures.ok before rounds)
