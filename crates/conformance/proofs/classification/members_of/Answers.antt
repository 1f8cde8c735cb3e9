use Rattle.std.proofs.Common.{sym, subst}
use Rattle.recordings.specs.declared.recording_line.RecordedActor.{RecordedActor}
use Rattle.conformance.specs.declared.step.ActorKind.TheVariants as actor_kind
use Rattle.conformance.specs.declared.family_match.FamilyMatch.{FamilyMatch}
use Rattle.conformance.specs.Family.{class_family, client_family}
use Rattle.conformance.specs.FamilyMatch.{class_body, client_body}
use Rattle.conformance.specs.PathMatch.{HasManyOpenLists}
use Rattle.conformance.specs.ClassificationResults.{IsFamilyOf}
use Rattle.conformance.proofs.AllClauses.{all_five}
use Rattle.conformance.proofs.Ambiguous.{any_mapped}
use Rattle.conformance.proofs.classification.members_of.Goals as goal

pub returns-in-Job : goal.returns-in-Job
returns-in-Job c =
    let a = c.args in
    all_five c.classes_of_path.result _ _ _ _ _ _
    (λ (family : FamilyMatch) exact explained named many ascending.
    subst (λ (actor : RecordedActor). IsFamilyOf a.plan.now actor a.label.now a.pool.now a.path_state a.steps.now family) (sym c.in-Job.is)
    (record { members = exact; explained = explained; named = named; many = λ undecided. any_mapped (class_body a.plan.now) (λ body. HasManyOpenLists actor_kind.Job body a.steps.now) (class_family a.plan.now a.label.now a.pool.now) (many undecided); ascending = ascending }))
    c.classes_of_path.ensures.exact c.classes_of_path.ensures.explained c.classes_of_path.ensures.named c.classes_of_path.ensures.many c.classes_of_path.ensures.ascending

pub returns-in-Round : goal.returns-in-Round
returns-in-Round c =
    let a = c.args in
    all_five c.kinds_of_path.result _ _ _ _ _ _
    (λ (family : FamilyMatch) exact explained named many ascending.
    subst (λ (actor : RecordedActor). IsFamilyOf a.plan.now actor a.label.now a.pool.now a.path_state a.steps.now family) (sym c.in-Round.is)
    (record { members = exact; explained = explained; named = named; many = λ undecided. any_mapped (client_body a.plan.now) (λ body. HasManyOpenLists actor_kind.Round body a.steps.now) (client_family a.plan.now a.label.now) (many undecided); ascending = ascending }))
    c.kinds_of_path.ensures.exact c.kinds_of_path.ensures.explained c.kinds_of_path.ensures.named c.kinds_of_path.ensures.many c.kinds_of_path.ensures.ascending
