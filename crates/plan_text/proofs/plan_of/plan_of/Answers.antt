use Rattle.std.proofs.Common.{◌≡◌, ◌∙◌, List, ap, sym, subst}
use Rattle.job_bodies.specs.Build.{plan_of_lists}
use Rattle.job_bodies.specs.Plan.{Pool}
use Rattle.job_bodies.specs.WellFormed.{IsWellFormed}
use Rattle.plan_text.specs.Entries.{AreWithinLimits, ClassEntry, ClientEntry, Entries}
use Rattle.plan_text.proofs.Buildable.{are_within_limits, well_formed_read}
use Rattle.plan_text.proofs.plan_of.plan_of.Goals as goal

abbrev with_lists : List Pool → List ClassEntry → List ClientEntry → Entries
with_lists pools classes clients = record { pools = pools; classes = classes; clients = clients }

pub of_well_formed-requires : goal.of_well_formed-requires
of_well_formed-requires c =
    let inside = c.pools.inside in
    let pools : c.deref.result.now ≡ inside.pools.items = c.deref.ensures.value in
    let clients : c.deref-2.result.now ≡ inside.clients.items = c.deref-2.ensures.value in
    let whole : with_lists c.deref.result.now inside.classes.items c.deref-2.result.now ≡ c.in_ok-pools.field-0 =
    ap (λ (ps : List Pool). with_lists ps inside.classes.items c.deref-2.result.now) pools ∙ (ap (with_lists inside.pools.items inside.classes.items) clients ∙ c.pools.view_is) in
    subst (λ (ps : List Pool). IsWellFormed (plan_of_lists ps c.in_ok-bodies.bodies.classes.items c.in_ok-bodies.bodies.clients.items)) pools
    (well_formed_read _ _ (subst AreWithinLimits (sym whole) (are_within_limits _ _ c.in_ok-pools.ensures)) c.in_ok-bodies.ensures)
