use Rattle.std.proofs.Common.{ℕ, List, refl, sym, subst, ◌∙◌}
use Rattle.std.specs.List.Sorted.{IsNonDecreasing}
use Rattle.recordings.specs.declared.paths.Paths.{Paths}
use Rattle.recordings.specs.PathsOfLines.{IsPathsOf}
use Rattle.conformance.specs.RemainingActors.{AreJobsAmong}
use Rattle.conformance.specs.ClassifiedActor.{IsCorrectResult}
use Rattle.conformance.proofs.RemainingNumbers.{sorted_front, none_below, jobs_among}
use Rattle.conformance.proofs.AddsResults.{reports_none, reports_then}
use Rattle.conformance.proofs.actor_classifier.ActorClassifier.classify_remaining_jobs.Goals as goal

pub loop-job-init : goal.loop-job-init
loop-job-init c = record {
  remaining = λ lines keeps paths remaining among sorted. (remaining, reports_none (IsCorrectResult c.args.plan.now lines) c.args.self.now.actors c.args.reported.now.items);
  among = λ h. h;
  sorted = λ h. h;
  paths = refl;
}

pub loop-job-preserved : goal.loop-job-preserved
loop-job-preserved c =
    let a = c.args in
    let l = c.loop-job in
    let items = c.in-Some.ensures.items in
    record {
      remaining = λ lines keeps paths remaining among sorted.
          let current = l.invariant.remaining lines keeps paths remaining among sorted in
          let now = (c.in_ok-classify_remaining.ensures.remaining lines keeps (subst (λ (p : Paths). IsPathsOf p lines) (sym l.invariant.paths) paths) current.0
          (none_below l.self.actors c.pop.new.self.items c.in-Some.job (subst IsNonDecreasing items (l.invariant.sorted sorted)) (subst (λ (ns : List ℕ). AreJobsAmong l.self.actors ns) items (l.invariant.among among)))) in
          (now.0, reports_then (IsCorrectResult a.plan.now lines) a.self.now.actors l.self.actors c.classify_remaining.new.self.actors a.reported.now.items l.reported.items c.classify_remaining.new.reported.items current.1 now.1);
      among = λ among. jobs_among l.self.actors c.classify_remaining.new.self.actors c.pop.new.self.items c.in-Some.job c.classify_remaining.ensures.goes (subst (λ (ns : List ℕ). AreJobsAmong l.self.actors ns) items (l.invariant.among among));
      sorted = λ sorted. sorted_front c.pop.new.self.items c.in-Some.job (subst IsNonDecreasing items (l.invariant.sorted sorted));
      paths = c.classify_remaining.ensures.paths ∙ l.invariant.paths;
    }
