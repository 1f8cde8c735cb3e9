use Rattle.std.proofs.Common.{◌≡◌, ◌+◌, ℕ, if◌then◌else◌, is_some, Option, sym, subst, ap, ◌∙◌, arith}
use Rattle.support.specs.Numbered.{count_of}
use Rattle.recordings.specs.declared.recording_line.RecordedActor.{RecordedActor}
use Rattle.conformance.specs.declared.actor_table.ActorTable.{ActorTable}
use Rattle.conformance.specs.declared.actor_table.UnsettledActor.{UnsettledActor}
use Rattle.conformance.specs.ActorTables.{is_job}
use Rattle.conformance.specs.ClassificationResults.{IsStep, submitter_of}
use Rattle.conformance.proofs.Progress.{fewer_of}
use Rattle.conformance.proofs.ActorSteps.{step_taken}
use Rattle.conformance.proofs.actor_classifier.ActorClassifier.classify_ready.Goals as goal

pub returns-clause-reported : goal.returns-clause-reported
returns-clause-reported c = λ lines kept ready keeps.
    let a = c.args in
    subst (λ (next : Option RecordedActor). IsStep a.plan.now lines a.self.now.actors c.classify.new.self.actors c.classify.new.self.known next a.reported.now.items c.classify.new.reported.items) (sym c.submitter_of.ensures)
    (subst (λ (actors : ActorTable). IsStep a.plan.now lines a.self.now.actors actors c.classify.new.self.known (submitter_of a.actor c.in-Some.kept.submitter) a.reported.now.items c.classify.new.reported.items) (sym c.classify.ensures.actors)
    (step_taken a.plan.now lines a.self.now.actors c.remove.new.self a.self.now.known c.classify.new.self.known a.actor c.in-Some.kept c.in-Some-ended_path.ended_path a.reported.now.items c.classify.new.reported.items
    keeps kept ready (sym c.in-Some.ensures.value) c.in-Some-ended_path.is c.remove.ensures.later c.in_ok-classify.ensures.reported))

pub returns-clause-fewer : goal.returns-clause-fewer
returns-clause-fewer c = λ some.
    let one : is_job c.args.actor ≡ 1 = fewer_of c.args.actor c.in-Some.kept.submitter c.submitter_of.result c.submitter_of.ensures some in
    let all : count_of c.remove.new.self.jobs + is_job c.args.actor ≡ count_of c.args.self.now.actors.jobs = sym (ap (λ (n : ℕ). count_of c.remove.new.self.jobs + n) (ap (λ (o : Option UnsettledActor). if is_some o then is_job c.args.actor else 0) c.in-Some.is)) ∙ c.remove.ensures.fewer in
    let same : count_of c.classify.new.self.actors.jobs ≡ count_of c.remove.new.self.jobs = ap (λ (t : ActorTable). count_of t.jobs) c.classify.ensures.actors in
    omega (arith, one, all, same)
