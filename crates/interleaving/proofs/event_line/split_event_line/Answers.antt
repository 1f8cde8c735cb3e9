use Rattle.std.proofs.Common.{codes, Some, refl}
use Rattle.std.proofs.lemmas.Bool.Decides.{Decides-eqb}
use Rattle.std.proofs.lemmas.Slice.Eq.{strip_prefix_is}
use Rattle.interleaving.proofs.Verbs.{client_first, job_first}
use Rattle.interleaving.proofs.event_line.split_event_line.Goals as goal

pub returns-in_err-job : goal.returns-in_err-job
returns-in_err-job c =
    let is = strip_prefix_is Decides-eqb c.args.text.now (codes "job ") (Some c.in-Some.job) c.in-Some.ensures.cases in
    let none = rw c.in_err-job.was at c.split_number_line.ensures in
    rw (c.from_residual.ensures, job_first c.args.plan.now c.args.text.now c.in-Some.job.now is, ← none) refl

pub returns-in-Some : goal.returns-in-Some
returns-in-Some c =
    let is = strip_prefix_is Decides-eqb c.args.text.now (codes "job ") (Some c.in-Some.job) c.in-Some.ensures.cases in
    let some = rw c.in_ok-job.was at c.split_number_line.ensures in
    rw (job_first c.args.plan.now c.args.text.now c.in-Some.job.now is, ← some) refl

pub returns-in_err-client : goal.returns-in_err-client
returns-in_err-client c =
    let is = c.in-Some-strip_client.ensures in
    let none = rw c.in_err-client.was at c.split_number_line-in-Some-strip_client.ensures in
    rw (c.from_residual-in_err-client.ensures, client_first c.args.plan.now c.args.text.now c.in-Some-strip_client.client.now is, ← none) refl

pub returns-in-Some-strip_client : goal.returns-in-Some-strip_client
returns-in-Some-strip_client c =
    let is = c.in-Some-strip_client.ensures in
    let some = rw c.in_ok-client.was at c.split_number_line-in-Some-strip_client.ensures in
    rw (client_first c.args.plan.now c.args.text.now c.in-Some-strip_client.client.now is, ← some) refl
