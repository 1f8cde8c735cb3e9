use Rattle.locked_runner.proofs.Traces.{seen_reached}
use Rattle.locked_runner.proofs.Worlds.{none_refused, refuses_nothing}
use Rattle.locked_runner.proofs.world_laws.held_worlds_refuse_nothing.Goals as goal

pub returns-clause-reached : goal.returns-clause-reached
returns-clause-reached c =
    seen_reached c.args.held.now.machine.certified.now.plan c.args.held.now.history c.args.held.now.state c.history-history.ensures.replayed

pub returns-clause-none_refused : goal.returns-clause-none_refused
returns-clause-none_refused c =
    let machine = c.args.held.now.machine in
    none_refused machine.certified.now.plan machine.certified.now.cert c.args.held.now.history c.args.held.now.state.world machine.well_formed machine.accepted (returns-clause-reached c)

pub returns-clause-refuses_nothing : goal.returns-clause-refuses_nothing
returns-clause-refuses_nothing c =
    let machine = c.args.held.now.machine in
    refuses_nothing machine.certified.now.plan machine.certified.now.cert c.args.held.now.history machine.well_formed machine.accepted
