use Rattle.std.proofs.Common.{[], ◌∷◌, ◌++◌, List, Option, None, refl, ap, sym, subst, ◌∙◌}
use Rattle.std.proofs.lemmas.Result.{on_ok_weaker}
use Rattle.std.specs.declared.alloc.Global.{Global}
use Rattle.std.specs.declared.vec.Vec.{Vec}
use Rattle.recordings.specs.declared.recording_line.RecordedActor.{RecordedActor}
use Rattle.recordings.specs.RecordingLine.{RecordedLine, line_view}
use Rattle.recordings.specs.declared.step.RecordedStep.{RecordedStep}
use Rattle.recordings.specs.declared.paths.Paths.{Paths}
use Rattle.recordings.specs.PathsOfLines.{KeepsRules, IsPathsOf}
use Rattle.conformance.specs.declared.actor_table.EndedPath.{EndedPath}
use Rattle.conformance.specs.Represents.{AreTablesOf, IsClassifierOf}
use Rattle.conformance.specs.ClassificationResults.{IsSettledResult, IsStep}
use Rattle.conformance.proofs.AddsResults.{reports_none}
use Rattle.conformance.proofs.ReturnedPath.{given_path}
use Rattle.conformance.proofs.StateAfterLine.{kept_line, represents, reports_line}
use Rattle.conformance.proofs.actor_classifier.ActorClassifier.take_line.Goals as goal

abbrev waits_for : Vec RecordedStep Global → EndedPath
waits_for path = record { path = path; known = 0 }

-- The line is an actor's last one.
kept_some : (c : goal.After-settle_chain) → (before : List RecordedLine) → KeepsRules (before ++ line_view c.args.line.now ∷ []) → IsClassifierOf c.args.plan.now c.args.self.now before → AreTablesOf c.args.plan.now (before ++ line_view c.args.line.now ∷ []) c.note.new.self.actors c.note.new.self.known c.ended_by.result
kept_some c before keeps stand =
    kept_line c.args.plan.now before (line_view c.args.line.now) (waits_for c.unwrap_or-path.result) c.args.self.now.actors c.note.new.self.actors c.args.self.now.known c.note.new.self.known c.ended_by.result keeps stand.kept
    c.in_ok-note.ensures.noted c.note.ensures.known c.ended_by.ensures (λ actor is live. ap (λ (p : Vec RecordedStep Global). p.items) c.unwrap_or-path.ensures ∙ given_path c.in_ok-given.given c.new.result before (line_view c.args.line.now) actor (c.in_ok-given.ensures.path before stand.paths) (sym c.ended_by.ensures ∙ is) live) refl

pub returns-in-Some-clause-taken : goal.returns-in-Some-clause-taken
returns-in-Some-clause-taken c = λ before keeps stand.
    let a = c.args in
    let lines = before ++ line_view a.line.now ∷ [] in
    on_ok_weaker c.settle_chain.result
    (represents a.plan.now c.settle_chain.new.self lines c.note.new.self.actors a.reported.now.items c.settle_chain.new.reported.items
    (subst (λ (paths : Paths). IsPathsOf paths lines) (sym (c.settle_chain.ensures.paths ∙ c.note.ensures.paths)) (c.in_ok-given.ensures.taken before keeps stand.paths)))
    (c.settle_chain.ensures.reported lines
    (subst (λ (ended : Option RecordedActor). AreTablesOf a.plan.now lines c.note.new.self.actors c.note.new.self.known ended) c.in-Some.is (kept_some c before keeps stand)) keeps)

pub returns-in-Some-clause-reported : goal.returns-in-Some-clause-reported
returns-in-Some-clause-reported c = λ before keeps stand.
    let a = c.args in
    let lines = before ++ line_view a.line.now ∷ [] in
    on_ok_weaker c.settle_chain.result
    (reports_line a.plan.now before (line_view a.line.now) (waits_for c.unwrap_or-path.result) a.self.now.actors c.note.new.self.actors c.settle_chain.new.self.actors a.self.now.known c.settle_chain.new.self.known a.reported.now.items c.settle_chain.new.reported.items keeps stand.kept c.in_ok-note.ensures.noted)
    (c.settle_chain.ensures.reported lines
    (subst (λ (ended : Option RecordedActor). AreTablesOf a.plan.now lines c.note.new.self.actors c.note.new.self.known ended) c.in-Some.is (kept_some c before keeps stand)) keeps)

pub returns-in-None-clause-taken : goal.returns-in-None-clause-taken
returns-in-None-clause-taken c = λ before keeps stand.
    let a = c.args in
    let lines = before ++ line_view a.line.now ∷ [] in
    record {
      paths = subst (λ (paths : Paths). IsPathsOf paths lines) (sym c.note.ensures.paths) (c.in_ok-given.ensures.taken before keeps stand.paths);
      kept = subst (λ (ended : Option RecordedActor). AreTablesOf a.plan.now lines c.note.new.self.actors c.note.new.self.known ended) c.in-None.is
          (kept_line a.plan.now before (line_view a.line.now) (waits_for c.unwrap_or-path.result) a.self.now.actors c.note.new.self.actors a.self.now.known c.note.new.self.known c.ended_by.result keeps stand.kept
          c.in_ok-note.ensures.noted c.note.ensures.known c.ended_by.ensures (λ actor is live. ap (λ (p : Vec RecordedStep Global). p.items) c.unwrap_or-path.ensures ∙ given_path c.in_ok-given.given c.new.result before (line_view c.args.line.now) actor (c.in_ok-given.ensures.path before stand.paths) (sym c.ended_by.ensures ∙ is) live) refl);
    }

pub returns-in-None-clause-reported : goal.returns-in-None-clause-reported
returns-in-None-clause-reported c = λ before keeps stand.
    let a = c.args in
    let lines = before ++ line_view a.line.now ∷ [] in
    let kept = subst (λ (ended : Option RecordedActor). AreTablesOf a.plan.now lines c.note.new.self.actors c.note.new.self.known ended) c.in-None.is
    (kept_line a.plan.now before (line_view a.line.now) (waits_for c.unwrap_or-path.result) a.self.now.actors c.note.new.self.actors a.self.now.known c.note.new.self.known c.ended_by.result keeps stand.kept
    c.in_ok-note.ensures.noted c.note.ensures.known c.ended_by.ensures (λ actor is live. ap (λ (p : Vec RecordedStep Global). p.items) c.unwrap_or-path.ensures ∙ given_path c.in_ok-given.given c.new.result before (line_view c.args.line.now) actor (c.in_ok-given.ensures.path before stand.paths) (sym c.ended_by.ensures ∙ is) live) refl) in
    let step : IsStep a.plan.now lines c.note.new.self.actors c.note.new.self.actors c.note.new.self.known None a.reported.now.items a.reported.now.items = record {
      kept = kept;
      tells = reports_none (IsSettledResult a.plan.now lines) c.note.new.self.actors a.reported.now.items;
    } in
    reports_line a.plan.now before (line_view a.line.now) (waits_for c.unwrap_or-path.result) a.self.now.actors c.note.new.self.actors c.note.new.self.actors a.self.now.known c.note.new.self.known a.reported.now.items a.reported.now.items keeps stand.kept c.in_ok-note.ensures.noted step
