use Rattle.std.proofs.Common.{sym, subst}
use Rattle.std.proofs.lemmas.Result.{on_ok_weaker}
use Rattle.recordings.specs.declared.paths.Paths.{Paths}
use Rattle.recordings.specs.PathsOfLines.{IsPathsOf}
use Rattle.conformance.specs.ClassifiedActor.{IsCorrectResult}
use Rattle.conformance.proofs.RemainingNumbers.{nobody}
use Rattle.conformance.proofs.AddsResults.{reports_then}
use Rattle.conformance.proofs.actor_classifier.ActorClassifier.classify_remaining_actors.Goals as goal

pub returns-clause-remaining : goal.returns-clause-remaining
returns-clause-remaining c = λ lines keeps paths remaining.
    let a = c.args in
    let mid = c.classify_remaining_jobs.new.self in
    let first = c.in_ok-classify_remaining_jobs.ensures.remaining lines keeps paths remaining c.in_ok-jobs.ensures.all c.in_ok-jobs.ensures.sorted in
    on_ok_weaker c.classify_remaining_rounds.result
    (λ h. reports_then (IsCorrectResult a.plan.now lines) a.self.now.actors mid.actors c.classify_remaining_rounds.new.self.actors a.reported.now.items c.classify_remaining_jobs.new.reported.items c.classify_remaining_rounds.new.reported.items first.1 h.1)
    (c.classify_remaining_rounds.ensures.remaining lines keeps (subst (λ (p : Paths). IsPathsOf p lines) (sym c.classify_remaining_jobs.ensures.paths) paths)
    first.0 (c.in_ok-classify_remaining_jobs.ensures.none c.in_ok-jobs.ensures.all))

pub returns-clause-none : goal.returns-clause-none
returns-clause-none c =
    on_ok_weaker c.classify_remaining_rounds.result
    (λ rounds. nobody c.classify_remaining_rounds.new.self.actors (c.classify_remaining_rounds.ensures.jobs (c.in_ok-classify_remaining_jobs.ensures.none c.in_ok-jobs.ensures.all)) rounds)
    (c.classify_remaining_rounds.ensures.none c.in_ok-rounds.ensures)
