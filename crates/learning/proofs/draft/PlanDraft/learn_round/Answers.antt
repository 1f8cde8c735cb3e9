use Rattle.learning.specs.declared.inference_limit.InferenceLimit.TheVariants.{Kinds}
use Rattle.learning.proofs.LabelEntries.{on_ok}
use Rattle.learning.proofs.draft.PlanDraft.learn_round.Goals as goal

pub returns-clause-ok : goal.returns-clause-ok
returns-clause-ok c = λ lines draft. on_ok c.grow.result (λ kinds. record { classes = draft.classes; kinds = kinds }) (c.grow.ensures.ok lines Kinds draft.kinds)

pub returns-clause-err : goal.returns-clause-err
returns-clause-err c = λ lines draft. c.grow.ensures.err lines Kinds draft.kinds
