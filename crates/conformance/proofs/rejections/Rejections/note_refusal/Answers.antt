use Rattle.std.proofs.Common.{ℕ, Option, subst, ◌∙◌}
use Rattle.std.proofs.lemmas.Result.{on_ok_weaker}
use Rattle.conformance.specs.RejectionRule.{rejecting_pool}
use Rattle.conformance.specs.Rejections.{NotesRefusal}
use Rattle.conformance.proofs.rejections.Rejections.note_refusal.Goals as goal

pub returns : goal.returns
returns c = λ lines before facts refused number so.
    let plan = c.args.plan.now in
    let of_job = c.pool_of-of_job.ensures plan lines facts.jobs (facts.refused c.args.job ∙ refused) in
    let pool = c.rejecting_pool-pool.ensures lines before facts refused so in
    on_ok_weaker c.note.result
    (λ notes. subst (λ (job : Option ℕ). NotesRefusal (rejecting_pool plan lines before c.args.job) job c.args.number c.args.actor c.args.job c.args.self.now c.note.new.self) of_job
    (subst (λ (by : Option ℕ). NotesRefusal by c.pool_of-of_job.result c.args.number c.args.actor c.args.job c.args.self.now c.note.new.self) pool notes))
    c.note.ensures
