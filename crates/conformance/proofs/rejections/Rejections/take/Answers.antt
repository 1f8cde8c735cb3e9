use Rattle.std.proofs.Common.{◌≡◌, ◌++◌, ◌∷◌, [], ◌||◌, Bool, refl, ap, sym, subst, ◌∙◌}
use Rattle.std.proofs.lemmas.Result.{on_ok_weaker}
use Rattle.recordings.specs.LineParts.{refuses_job}
use Rattle.recordings.specs.RecordingLine.{RecordedLine, Refused, ShutDown, line_view}
use Rattle.conformance.specs.PoolComparison.{has_name}
use Rattle.conformance.specs.declared.rejections.Rejections.{Rejections}
use Rattle.conformance.specs.Rejections.{AreRejectionsOfPrefix}
use Rattle.conformance.proofs.RefusalsAfter.{own_refusal, refusal_after_line, other_after, is_other, or_false}
use Rattle.conformance.proofs.rejections.Rejections.take.Goals as goal

pub returns-in-Refused : goal.returns-in-Refused
returns-in-Refused c = λ lines before facts refused number so.
    let plan = c.args.plan.now in
    let actor = c.in-Refused.actor in
    let job = c.in-Refused.job in
    let is : Refused actor job ≡ line_view c.args.line.now = sym (ap line_view c.in-Refused.is) in
    let own = refused job (ap (refuses_job job) (sym is) ∙ own_refusal actor job) in
    on_ok_weaker c.note_refusal.result
    (λ notes. subst (λ (line : RecordedLine). AreRejectionsOfPrefix plan lines (before ++ line ∷ []) c.note_refusal.new.self) is
    (refusal_after_line plan lines before c.args.number actor job c.args.self.now c.note_refusal.new.self number so notes))
    (c.note_refusal.ensures lines before facts own number so)

pub returns-in-ShutDown : goal.returns-in-ShutDown
returns-in-ShutDown c = λ lines before facts refused number so.
    let plan = c.args.plan.now in
    let is : ShutDown c.in-ShutDown.pool.now ≡ line_view c.args.line.now = sym (ap line_view c.in-ShutDown.is) in
    let new : Rejections = record c.args.self.now { shut = c.insert.new.self } in
    on_ok_weaker c.insert.result
    (λ inserted. subst (λ (line : RecordedLine). AreRejectionsOfPrefix plan lines (before ++ line ∷ []) new) is
    (other_after plan lines before (ShutDown c.in-ShutDown.pool.now) c.args.self.now new refl so (record { pools = refl; refusing = refl; first = refl; shut = inserted })))
    c.insert.ensures

pub returns-in_default : goal.returns-in_default
returns-in_default c = λ lines before facts refused number so.
    let other = is_other c.args.line.now c.in_default.not-Refused c.in_default.not-ShutDown in
    other_after c.args.plan.now lines before (line_view c.args.line.now) c.args.self.now c.args.self.now other.0 so
    (record {
      pools = refl;
      refusing = refl;
      first = refl;
      shut = λ name. sym (ap (λ (b : Bool). has_name c.args.self.now.shut name || b) (other.1 name) ∙ or_false (has_name c.args.self.now.shut name));
    })
