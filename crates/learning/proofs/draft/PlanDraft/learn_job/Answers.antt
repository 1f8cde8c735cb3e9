use Rattle.learning.specs.declared.inference_limit.InferenceLimit.TheVariants.{Classes}
use Rattle.learning.proofs.LabelEntries.{on_ok}
use Rattle.learning.proofs.draft.PlanDraft.learn_job.Goals as goal

pub returns-clause-ok : goal.returns-clause-ok
returns-clause-ok c = λ lines draft. on_ok c.grow.result (λ classes. record { classes = classes; kinds = draft.kinds }) (c.grow.ensures.ok lines Classes draft.classes)

pub returns-clause-err : goal.returns-clause-err
returns-clause-err c = λ lines draft. c.grow.ensures.err lines Classes draft.classes
