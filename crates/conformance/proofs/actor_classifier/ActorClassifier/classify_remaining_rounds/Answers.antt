use Rattle.std.proofs.Common.{ℕ, List, refl, sym, subst, ◌∙◌}
use Rattle.recordings.specs.declared.paths.Paths.{Paths}
use Rattle.recordings.specs.PathsOfLines.{IsPathsOf}
use Rattle.conformance.specs.RemainingActors.{AreRoundsAmong}
use Rattle.conformance.specs.ClassifiedActor.{IsCorrectResult}
use Rattle.conformance.proofs.RemainingNumbers.{rounds_among, jobs_still_none}
use Rattle.conformance.proofs.AddsResults.{reports_none, reports_then}
use Rattle.conformance.proofs.actor_classifier.ActorClassifier.classify_remaining_rounds.Goals as goal

pub loop-round-init : goal.loop-round-init
loop-round-init c = record {
  remaining = λ lines keeps paths remaining none. (remaining, reports_none (IsCorrectResult c.args.plan.now lines) c.args.self.now.actors c.args.reported.now.items);
  among = λ h. h;
  jobs = λ h. h;
  paths = refl;
}

pub loop-round-preserved : goal.loop-round-preserved
loop-round-preserved c =
    let a = c.args in
    let l = c.loop-round in
    record {
      remaining = λ lines keeps paths remaining none.
          let current = l.invariant.remaining lines keeps paths remaining none in
          let now = (c.in_ok-classify_remaining.ensures.remaining lines keeps (subst (λ (p : Paths). IsPathsOf p lines) (sym l.invariant.paths) paths) current.0 (l.invariant.jobs none)) in
          (now.0, reports_then (IsCorrectResult a.plan.now lines) a.self.now.actors l.self.actors c.classify_remaining.new.self.actors a.reported.now.items l.reported.items c.classify_remaining.new.reported.items current.1 now.1);
      among = λ among. rounds_among l.self.actors c.classify_remaining.new.self.actors c.pop.new.self.items c.in-Some.round c.classify_remaining.ensures.goes (subst (λ (ns : List ℕ). AreRoundsAmong l.self.actors ns) c.in-Some.ensures.items (l.invariant.among among));
      jobs = λ none. jobs_still_none l.self.actors c.classify_remaining.new.self.actors c.in-Some.round c.classify_remaining.ensures.goes (l.invariant.jobs none);
      paths = c.classify_remaining.ensures.paths ∙ l.invariant.paths;
    }

pub returns-in_err-classify_remaining-clause-jobs : goal.returns-in_err-classify_remaining-clause-jobs
returns-in_err-classify_remaining-clause-jobs c = λ none. jobs_still_none c.loop-round.self.actors c.classify_remaining.new.self.actors c.in-Some.round c.classify_remaining.ensures.goes (c.loop-round.invariant.jobs none)
