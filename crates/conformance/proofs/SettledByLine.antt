-- The actors that become settled with a line.
use Rattle.std.proofs.Common.{◌≡◌, ◌⊎◌, true, List, [], ◌∷◌, ◌++◌, is_some, None, sym, ◌∙◌, inl, inr}
use Rattle.std.specs.List.{list_any}
use Rattle.std.proofs.lemmas.List.Elements.{All-weaker}
use Rattle.recordings.specs.declared.recording_line.RecordedActor.{RecordedActor}
use Rattle.recordings.specs.RecordingLine.{RecordedLine}
use Rattle.recordings.specs.LineParts.{is_actor}
use Rattle.recordings.specs.PathsOfLines.{KeepsRules}
use Rattle.job_bodies.specs.Plan.{Plan}
use Rattle.conformance.specs.declared.actor_table.ActorTable.{ActorTable}
use Rattle.conformance.specs.declared.actor_table.EndedPath.{EndedPath}
use Rattle.conformance.specs.declared.job_classes.ClassTable.{ClassTable}
use Rattle.conformance.specs.declared.classified_actor.ClassifiedActor.{ClassifiedActor}
use Rattle.conformance.specs.PathState.{has_ended}
use Rattle.conformance.specs.Classes.{IsSettled}
use Rattle.conformance.specs.ActorTables.{in_table}
use Rattle.recordings.specs.LastLine.{ended_by}
use Rattle.conformance.specs.Changes.{begun_by}
use Rattle.conformance.specs.ClassifiedActor.{IsCorrectResult, is_reported, AddsSettled}
use Rattle.conformance.specs.Represents.{AreTablesOf}
use Rattle.conformance.specs.ClassificationResults.{AddsResults, IsSettledResult}
use Rattle.conformance.proofs.Words.{by_bool, apart, none_some, is_none_of, some_at, some_of, or_either}
use Rattle.conformance.proofs.SettledClassesStay.{through_of}
use Rattle.conformance.proofs.AppliedLine.{AppliedLine}
use Rattle.conformance.proofs.LineActors.{through_after, begun_going, ended_live}
use Rattle.conformance.proofs.EmptyTables.{settled_gone}

not_before : (plan : Plan) (before : List RecordedLine) (line : RecordedLine) (waits : EndedPath) (old mid : ActorTable) (known : ClassTable) → KeepsRules (before ++ line ∷ []) → AreTablesOf plan before old known None → AppliedLine line waits old mid → (one : RecordedActor) → is_some (in_table mid one) ≡ true → IsSettled before one → ⊥
not_before plan before line waits old mid known keeps kept f one h is =
    by_bool (is_actor one (begun_by line))
    (λ begun. apart (has_ended before one) (through_of before one is) (begun_going before line one keeps begun))
    (λ other. some_at (in_table mid one) h
    (λ k there.
    let was = f.back one k there other in
    none_some (in_table old one) (settled_gone plan before old known kept one is) (some_of (in_table old one) was.earlier was.there)))

settled_before : (plan : Plan) (before : List RecordedLine) (line : RecordedLine) (waits : EndedPath) (old mid : ActorTable) (known : ClassTable) → KeepsRules (before ++ line ∷ []) → AreTablesOf plan before old known None → AppliedLine line waits old mid → (one : RecordedActor) → in_table mid one ≡ None → has_ended (before ++ line ∷ []) one ≡ true → IsSettled before one
settled_before plan before line waits old mid known keeps kept f one gone h =
    or_either (has_ended before one) (is_actor one (ended_by line)) (sym (through_after before line one) ∙ h)
    (λ through. kept.settled one through (by_bool (is_some (in_table old one)) (λ there. none_some (in_table mid one) gone (f.forth one there)) (is_none_of (in_table old one))))
    (λ ends. none_some (in_table mid one) gone (f.forth one (kept.live one (ended_live before line one keeps ends))))

reported_or_kept : (new : ActorTable) (more : List ClassifiedActor) (one : RecordedActor) {P : Type 0} → in_table new one ≡ None → (is_some (in_table new one) ≡ true) ⊎ (list_any (is_reported one) more ≡ true) → P ⊎ (list_any (is_reported one) more ≡ true)
reported_or_kept new more one gone (inl h) = none_some (in_table new one) gone h
reported_or_kept new more one gone (inr h) = inr h

pub reports_settled : (plan : Plan) (before : List RecordedLine) (line : RecordedLine) (waits : EndedPath) (old mid new : ActorTable) (known last : ClassTable) (x y : List ClassifiedActor) → KeepsRules (before ++ line ∷ []) → AreTablesOf plan before old known None → AppliedLine line waits old mid → AreTablesOf plan (before ++ line ∷ []) new last None
    → AddsResults (IsSettledResult plan (before ++ line ∷ [])) mid new x y → AddsSettled plan before (before ++ line ∷ []) x y
reports_settled plan before line waits old mid new known last x y keeps kept f then_kept p = record {
  more = p.more;
  after = p.after;
  reported = All-weaker (IsSettledResult plan (before ++ line ∷ [])) (IsCorrectResult plan (before ++ line ∷ [])) (λ t h. h.reported) p.more p.reported;
  settled = All-weaker (IsSettledResult plan (before ++ line ∷ [])) (λ (t : ClassifiedActor). IsSettled (before ++ line ∷ []) t.actor) (λ t h. h.settled) p.more p.reported;
  unsettled = All-weaker (λ (t : ClassifiedActor). is_some (in_table mid t.actor) ≡ true) (λ (t : ClassifiedActor). IsSettled before t.actor → ⊥) (λ t h. not_before plan before line waits old mid known keeps kept f t.actor h) p.more p.kept;
  once = p.once;
  each = λ one is. by_bool (is_some (in_table mid one))
      (λ there. reported_or_kept new p.more one (settled_gone plan (before ++ line ∷ []) new last then_kept one is) (p.each one there))
      (λ gone. inl (settled_before plan before line waits old mid known keeps kept f one (is_none_of (in_table mid one) gone) (through_of (before ++ line ∷ []) one is)));
}
