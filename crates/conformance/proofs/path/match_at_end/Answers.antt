use Rattle.std.proofs.Common.{ℕ, List, length, Option, None, sym, subst, ◌∙◌}
use Rattle.std.proofs.lemmas.Bool.{false≢true}
use Rattle.conformance.specs.declared.path_match.PathMatch.TheVariants.{Deviates}
use Rattle.conformance.specs.declared.step.PathState.TheVariants.{Whole}
use Rattle.conformance.specs.declared.open_job.OpenJob.{OpenJob}
use Rattle.conformance.specs.Path.{Walks}
use Rattle.conformance.specs.PathMatch.{IsMatch}
use Rattle.conformance.proofs.StoppedStates.{some_walk, result_if_missing}
use Rattle.conformance.proofs.path.match_at_end.Goals as goal

pub returns-else-reaches : goal.returns-else-reaches
returns-else-reaches c = λ kind are some.
    let a = c.args in
    let w = some_walk kind a.body.now a.path.now (length a.path.now) a.states.now are some in
    let short : (others : List OpenJob) → ¬ Walks kind a.body.now a.path.now (length a.body.now) (length a.path.now) others = λ others walk.
    let r = are.complete (length a.body.now) others walk in
    false≢true (sym (c.reaches.ensures.no c.if-reaches.false r.state r.is_in) ∙ r.at) in
    let missing = c.missing_in.ensures kind a.path.now (length a.path.now) are w.0 w.1 w.2 short in
    subst (λ s. IsMatch kind s a.body.now a.path.now (Deviates (record { length = length a.path.now; excess = None; missing = c.missing_in.result }))) (sym c.in-Whole.is)
    (subst (λ (job : Option ℕ). IsMatch kind Whole a.body.now a.path.now (Deviates (record { length = length a.path.now; excess = None; missing = job }))) (sym missing.1)
    (result_if_missing kind a.body.now a.path.now a.states.now are some short missing.0 missing.2))
