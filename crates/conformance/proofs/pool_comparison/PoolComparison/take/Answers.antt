use Rattle.std.proofs.Common.{subst}
use Rattle.std.proofs.lemmas.Result.{on_ok_weaker}
use Rattle.recordings.specs.RecordingLine.{line_view}
use Rattle.conformance.specs.PoolComparison.{Adds}
use Rattle.conformance.proofs.ComparisonsAfter.{pools_after, pools_reported}
use Rattle.conformance.proofs.pool_comparison.PoolComparison.take.Goals as goal

pub returns-clause-taken : goal.returns-clause-taken
returns-clause-taken c = λ before represents. on_ok_weaker c.note.result (λ noted. pools_after c.args.plan.now c.args.self.now c.note.new.self before (line_view c.args.line.now) represents noted) c.note.ensures.noted

pub returns-clause-found : goal.returns-clause-found
returns-clause-found c = λ before represents.
    on_ok_weaker c.note.result
    (λ adds. subst (λ reported. Adds c.args.found.now.items reported c.note.new.found.items) (pools_reported c.args.plan.now c.args.self.now before c.args.number (line_view c.args.line.now) represents) adds)
    c.note.ensures.found
