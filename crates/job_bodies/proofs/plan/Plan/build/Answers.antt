use Rattle.std.proofs.Common.{rules, refl}
use Rattle.job_bodies.specs.Build.{plan_of_lists}
use Rattle.job_bodies.proofs.BuildLaws.{well_formed, answered_exactly}
use Rattle.job_bodies.proofs.plan.Plan.build.Goals as goal

pub returns-in_err-check_lengths-clause-well_formed : goal.returns-in_err-check_lengths-clause-well_formed
returns-in_err-check_lengths-clause-well_formed c =
    answered_exactly (plan_of_lists c.args.pools.items c.args.classes.items c.args.clients.items) _ (search rules)

pub returns-in_err-check_entries-clause-well_formed : goal.returns-in_err-check_entries-clause-well_formed
returns-in_err-check_entries-clause-well_formed c =
    answered_exactly (plan_of_lists c.args.pools.items c.args.classes.items c.args.clients.items) _ (search rules)

pub returns-in_err-check_bodies-clause-well_formed : goal.returns-in_err-check_bodies-clause-well_formed
returns-in_err-check_bodies-clause-well_formed c =
    answered_exactly (plan_of_lists c.args.pools.items c.args.classes.items c.args.clients.items) _ (search rules)

pub of_well_formed-requires : goal.of_well_formed-requires
of_well_formed-requires c =
    let lists = plan_of_lists c.args.pools.items c.args.classes.items c.args.clients.items in
    well_formed lists lists (search rules)

pub returns-clause-well_formed : goal.returns-clause-well_formed
returns-clause-well_formed c =
    let lists = plan_of_lists c.args.pools.items c.args.classes.items c.args.clients.items in
    (λ _. well_formed lists lists (search rules), λ _. refl)
