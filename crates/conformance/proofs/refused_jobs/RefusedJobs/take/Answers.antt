use Rattle.std.proofs.Common.{refl}
use Rattle.std.proofs.lemmas.Result.{on_ok_weaker}
use Rattle.recordings.specs.RecordingLine.{line_view}
use Rattle.conformance.proofs.RefusalsAfter.{facts_after}
use Rattle.conformance.proofs.refused_jobs.RefusedJobs.take.Goals as goal

pub returns-clause-facts : goal.returns-clause-facts
returns-clause-facts c = λ before are.
    on_ok_weaker c.note_start.result
    (λ started. facts_after c.args.plan.now before (line_view c.args.line.now) c.args.self.now _ are
    (record { refused = refl; pools = c.in_ok-note_pool.ensures; acted = c.in_ok-note_act.ensures; started = started }))
    c.note_start.ensures
