use Rattle.std.proofs.Common.{ℕ, ◌+◌, length, ap, ◌∙◌}
use Rattle.std.specs.Prelude.{slice_get}
use Rattle.std.proofs.lemmas.List.{length_push}
use Rattle.conformance.proofs.BodyGets.{open_next, gets_next}
use Rattle.conformance.proofs.body_gets.body_gets.Goals as goal

pub loop-index-preserved : goal.loop-index-preserved
loop-index-preserved c =
    let before = c.loop-index.invariant in
    let jobs = open_next c.args.body.now c.loop-index.index c.loop-index.jobs.items c.pass_action.new.jobs.items before.open_jobs c.in_ok-get.ensures.jobs in
    let push = c.in_ok-push.ensures.items in
    record {
      open_jobs = jobs;
      same_length = ap length push ∙ (length_push c.loop-index.gets.items c.in_ok-get.get ∙ ap (λ (n : ℕ). n + 1) before.same_length);
      each = λ k lt. ap (λ gets. slice_get gets k) push ∙ gets_next c.args.body.now c.loop-index.gets.items c.in_ok-get.get c.loop-index.index c.pass_action.new.jobs.items before.same_length jobs c.in_ok-get.ensures.get before.each k lt;
    }
