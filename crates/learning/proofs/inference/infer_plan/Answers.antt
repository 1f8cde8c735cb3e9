use Rattle.std.proofs.Common.{◌∙◌, ap, sym, subst, arith}
use Rattle.std.specs.List.{All}
use Rattle.job_bodies.specs.Plan.{Plan}
use Rattle.learning.specs.declared.recorded_names.RecordedNames.{RecordedNames}
use Rattle.learning.specs.Counts.{AreCounted}
use Rattle.learning.specs.LabelRounds.{AreLabelRoundsOf}
use Rattle.learning.specs.InferenceResult.{lines_of}
use Rattle.learning.specs.Names.{IsNamedClass, IsNamedClient}
use Rattle.learning.proofs.LabelEntries.{still_stops}
use Rattle.learning.proofs.FirstPass.{same_names}
use Rattle.learning.proofs.ValidPools.{unplanned_actors}
use Rattle.learning.proofs.PushedElements.{clients_named}
use Rattle.learning.proofs.inference.infer_plan.Goals as goal

pub returns-in_err-kinds-clause-err : goal.returns-in_err-kinds-clause-err
returns-in_err-kinds-clause-err c = λ all. let lines = lines_of c.args.recording.now in still_stops lines _ _ c.from_residual.ensures.1 (c.in_err-kinds.ensures.err lines all.draft)

pub returns-in_err-clients-clause-err : goal.returns-in_err-clients-clause-err
returns-in_err-clients-clause-err c = λ all.
    let lines = lines_of c.args.recording.now in
    let rounds = subst (λ rs. AreLabelRoundsOf rs lines) (sym (ap (λ (names : RecordedNames). names.label_rounds) c.in_ok-kinds.ensures.same)) all.rounds in
    still_stops lines _ _ c.from_residual-in_err-clients.ensures.1 (c.in_err-clients.ensures.err rounds (c.in_ok-kinds.ensures.ok lines all.draft))

pub returns-clause-err : goal.returns-clause-err
returns-clause-err c = λ all.
    let lines = lines_of c.args.recording.now in
    let names = c.learn_round_kinds.new.names in
    let named = same_names c.args.names names lines c.in_ok-kinds.ensures.same all.named in
    let draft = c.in_ok-kinds.ensures.ok lines all.draft in
    let clients = clients_named lines names.draft.kinds.entries.items c.in_ok-clients.clients.items c.in_ok-clients.ensures.names draft.kinds.each in
    unplanned_actors c.args.recording.now names.pools.items c.in_ok-classes.classes.items c.in_ok-clients.clients.items named.pools named.few_pools (c.in_ok-classes.ensures lines draft) clients
    (λ is. grind (arith, c.in-Err.ensures.well_formed.1 is))

pub returns-in-Ok-clause-ok : goal.returns-in-Ok-clause-ok
returns-in-Ok-clause-ok c = λ all.
    let lines = lines_of c.args.recording.now in
    let names = c.learn_round_kinds.new.names in
    let same = c.in_ok-kinds.ensures.same in
    let draft = c.in_ok-kinds.ensures.ok lines all.draft in
    let named = same_names c.args.names names lines same all.named in
    let rounds = subst (λ rs. AreLabelRoundsOf rs lines) (sym (ap (λ (names : RecordedNames). names.label_rounds) same)) all.rounds in
    let lists = c.in-Ok.ensures.lists in
    let clients = clients_named lines names.draft.kinds.entries.items c.in_ok-clients.clients.items c.in_ok-clients.ensures.names draft.kinds.each in
    record {
      pools = ap (λ (plan : Plan). plan.pools) lists ∙ named.pools;
      counts = subst (AreCounted lines) (sym (ap (λ (plan : Plan). plan.clients) lists)) (c.in_ok-clients.ensures.counts rounds);
      classes = subst (All (IsNamedClass lines)) (sym (ap (λ (plan : Plan). plan.classes) lists)) (c.in_ok-classes.ensures lines draft);
      clients = subst (All (IsNamedClient lines)) (sym (ap (λ (plan : Plan). plan.clients) lists)) clients;
      rounds = named.rounds;
      jobs = named.jobs;
      unfinished_rounds = grind (arith, c.saturating_sub.ensures, named.rounds, named.ended_rounds);
      unfinished_jobs = grind (arith, c.saturating_sub-in-Ok.ensures, named.started_jobs, named.ended_jobs);
      failed_gets = named.failed_gets;
    }
