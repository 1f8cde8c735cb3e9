use Rattle.std.proofs.Common.{ap, sym, subst}
use Rattle.std.specs.List.{Contains}
use Rattle.recordings.specs.RecordingLine.{line_view}
use Rattle.learning.specs.declared.inference_limit.InferenceLimit.TheVariants.{Classes, Kinds}
use Rattle.learning.proofs.LabelEntries.{on_ok, job_given}
use Rattle.learning.proofs.draft.PlanDraft.note.Goals as goal

pub returns-in-RoundBegins-clause-ok : goal.returns-in-RoundBegins-clause-ok
returns-in-RoundBegins-clause-ok c = λ lines there pools draft.
    on_ok c.note.result (λ kinds. record { classes = draft.classes; kinds = kinds })
    (c.note.ensures.ok lines Kinds (c.in-RoundBegins.round, subst (Contains lines) (ap line_view c.in-RoundBegins.is) there) draft.kinds)

pub returns-in-RoundBegins-clause-err : goal.returns-in-RoundBegins-clause-err
returns-in-RoundBegins-clause-err c = λ lines there pools draft.
    c.note.ensures.err lines Kinds (c.in-RoundBegins.round, subst (Contains lines) (ap line_view c.in-RoundBegins.is) there) draft.kinds

pub returns-in-Some-clause-ok : goal.returns-in-Some-clause-ok
returns-in-Some-clause-ok c = λ lines there pools draft.
    let given = job_given lines c.args.pools.now c.in-Submits.actor c.in-Submits.job c.in-Submits.class.now c.in-Submits.pool.now c.in-Some.pool (subst (Contains lines) (ap line_view c.in-Submits.is) there) pools (sym c.in-Some.ensures) in
    on_ok c.note-in-Some.result (λ classes. record { classes = classes; kinds = draft.kinds }) (c.note-in-Some.ensures.ok lines Classes given draft.classes)

pub returns-in-Some-clause-err : goal.returns-in-Some-clause-err
returns-in-Some-clause-err c = λ lines there pools draft.
    let given = job_given lines c.args.pools.now c.in-Submits.actor c.in-Submits.job c.in-Submits.class.now c.in-Submits.pool.now c.in-Some.pool (subst (Contains lines) (ap line_view c.in-Submits.is) there) pools (sym c.in-Some.ensures) in
    c.note-in-Some.ensures.err lines Classes given draft.classes
