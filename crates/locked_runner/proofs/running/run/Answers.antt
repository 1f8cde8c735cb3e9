use Rattle.std.proofs.Common.{rules, ◌≡◌, ◌≢◌, ◌∙◌, Bool, false, sym, ap, subst}
use Rattle.std.proofs.lemmas.Result.{IfErr-weaker}
use Rattle.support.specs.declared.number.TheConstants.{MEMORY}
use Rattle.cert_text.specs.Cert.{Cert}
use Rattle.locked_runner.specs.Report.{RunReport}
use Rattle.locked_runner.specs.Run.{IsRun, Makes, Works, IsAnswerTo, IsLegalPrefix, IsLengthOfLegal}
use Rattle.locked_runner.specs.RunNumbers.{jobs, units}
use Rattle.locked_runner.proofs.Histories.{length_of_prefix}
use Rattle.locked_runner.specs.Limits.{is_too_large}
use Rattle.locked_runner.specs.Faults.{IsFaultOf}
use Rattle.locked_runner.proofs.Faults.{answered}
use Rattle.locked_runner.proofs.Reports.{value_holds, value_holds_of_all}
use Rattle.locked_runner.proofs.running.run.Goals as goal

pub returns-in_err-numbers-clause-fault : goal.returns-in_err-numbers-clause-fault
returns-in_err-numbers-clause-fault g c =
    let ranks = ap (λ (x : Cert). x.ranks) (c.behind-certified.view_is ∙ c.cert.ensures.cert) in
    rw (← c.plan.ensures.plan, ← ranks) (search rules)

pub returns-clause-run : goal.returns-clause-run
returns-clause-run g c =
    let results = c.in-Ok.results in
    let whole : RunReport = record { jobs = c.in_ok-numbers.numbers.jobs; units = c.in_ok-numbers.numbers.units; refused = 0; history = results.history; receipts = results.receipts } in
    value_holds (λ report. IsRun c.args.certified.now.plan c.args.rounds report.history report.receipts) c.check_run.result whole c.check_run.ensures.report c.check_run.ensures.run

pub returns-clause-made : goal.returns-clause-made
returns-clause-made g c =
    let results = c.in-Ok.results in
    let whole : RunReport = record { jobs = c.in_ok-numbers.numbers.jobs; units = c.in_ok-numbers.numbers.units; refused = 0; history = results.history; receipts = results.receipts } in
    value_holds (λ report. Makes c.args.certified.now.plan report.history report.jobs) c.check_run.result whole c.check_run.ensures.report c.check_run.ensures.made

pub returns-clause-worked : goal.returns-clause-worked
returns-clause-worked g c =
    let results = c.in-Ok.results in
    let whole : RunReport = record { jobs = c.in_ok-numbers.numbers.jobs; units = c.in_ok-numbers.numbers.units; refused = 0; history = results.history; receipts = results.receipts } in
    value_holds (λ report. Works c.args.certified.now.plan report.history report.units) c.check_run.result whole c.check_run.ensures.report c.check_run.ensures.worked

pub returns-clause-jobs : goal.returns-clause-jobs
returns-clause-jobs g c =
    let results = c.in-Ok.results in
    let whole : RunReport = record { jobs = c.in_ok-numbers.numbers.jobs; units = c.in_ok-numbers.numbers.units; refused = 0; history = results.history; receipts = results.receipts } in
    let ranks = ap (λ (x : Cert). x.ranks) (c.behind-certified.view_is ∙ c.cert.ensures.cert) in
    rw (← c.plan.ensures.plan, ← ranks) (value_holds_of_all (λ report. report.jobs ≡ jobs c.plan.result.now c.behind-certified.inside.ranks c.args.rounds) c.check_run.result whole c.check_run.ensures.report c.in_ok-numbers.ensures.jobs)

pub returns-clause-units : goal.returns-clause-units
returns-clause-units g c =
    let results = c.in-Ok.results in
    let whole : RunReport = record { jobs = c.in_ok-numbers.numbers.jobs; units = c.in_ok-numbers.numbers.units; refused = 0; history = results.history; receipts = results.receipts } in
    let ranks = ap (λ (x : Cert). x.ranks) (c.behind-certified.view_is ∙ c.cert.ensures.cert) in
    rw (← c.plan.ensures.plan, ← ranks) (value_holds_of_all (λ report. report.units ≡ units c.plan.result.now c.behind-certified.inside.ranks c.args.rounds) c.check_run.result whole c.check_run.ensures.report c.in_ok-numbers.ensures.units)

pub returns-clause-within : goal.returns-clause-within
returns-clause-within g c =
    let results = c.in-Ok.results in
    let whole : RunReport = record { jobs = c.in_ok-numbers.numbers.jobs; units = c.in_ok-numbers.numbers.units; refused = 0; history = results.history; receipts = results.receipts } in
    let ranks = ap (λ (x : Cert). x.ranks) (c.behind-certified.view_is ∙ c.cert.ensures.cert) in
    rw (← c.plan.ensures.plan, ← ranks) (value_holds_of_all (λ _. is_too_large c.plan.result.now c.behind-certified.inside.ranks c.args.rounds ≡ false) c.check_run.result whole c.check_run.ensures.report c.in_ok-numbers.ensures.within)

pub returns-clause-fault : goal.returns-clause-fault
returns-clause-fault g c =
    let results = c.in-Ok.results in
    let ranks = ap (λ (x : Cert). x.ranks) (c.behind-certified.view_is ∙ c.cert.ensures.cert) in
    let large = is_too_large c.plan.result.now c.behind-certified.inside.ranks c.args.rounds in
    rw (← c.plan.ensures.plan, ← ranks)
    (IfErr-weaker c.check_run.result (λ fault. fault.number ≢ MEMORY → IsAnswerTo c.args.certified.now.plan c.args.rounds c.in_ok-numbers.numbers.jobs c.in_ok-numbers.numbers.units results.history results.receipts results.fault fault) (IsFaultOf large)
    (λ fault is. subst (λ (b : Bool). IsFaultOf b fault) (sym c.in_ok-numbers.ensures.within) (answered c.args.certified.now.plan c.args.rounds c.in_ok-numbers.numbers.jobs c.in_ok-numbers.numbers.units results.history results.receipts results.fault fault is))
    c.check_run.ensures.fault)

pub returns-clause-events : goal.returns-clause-events
returns-clause-events g c =
    IfErr-weaker c.check_run.result (λ fault. IsLegalPrefix c.args.certified.now.plan c.in-Ok.results.history fault.events) (λ fault. IsLengthOfLegal c.args.certified.now.plan fault.events)
    (λ fault front. length_of_prefix c.args.certified.now.plan c.in-Ok.results.history fault.events front) c.check_run.ensures.events
