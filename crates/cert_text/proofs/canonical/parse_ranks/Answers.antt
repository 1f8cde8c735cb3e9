use Rattle.std.proofs.Common.{length, codes, ap, ◌∙◌}
use Rattle.std.proofs.lemmas.Bool.{and_from, eq-eqb}
use Rattle.serde_json.proofs.OnLiterals.{serde_json_on_literals}
use Rattle.cert_text.specs.CertText.{numbers_data, ranks_data}
use Rattle.cert_text.proofs.Prefixes.{triple_read}
use Rattle.cert_text.proofs.canonical.parse_ranks.Goals as goal

pub returns-clause-text : goal.returns-clause-text
unfolding ranks_data serde_json_on_literals
returns-clause-text c =
    triple_read (codes "levels") (codes "pools") (codes "reach")
    (numbers_data c.in_ok-levels.levels.items) (numbers_data c.in_ok-pools.pools.items) (numbers_data c.in_ok-reach.reach.items) _ _ _ _ _ _ _ _
    c.in_ok-rest.ensures c.in_ok-levels.ensures.text c.in_ok-rest-2.ensures c.in_ok-pools.ensures.text c.in_ok-rest-3.ensures c.in_ok-reach.ensures.text c.in_ok-rest-4.ensures

pub returns-clause-fit : goal.returns-clause-fit
returns-clause-fit c =
    let pools = c.in_ok-pools.ensures.count ∙ ap length c.pools.ensures.value in
    let reach = c.in_ok-reach.ensures.count ∙ ap length c.classes-2.ensures.value in
    let levels = c.in_ok-levels.ensures.count ∙ ap length c.classes.ensures.value in
    and_from _ _ (and_from _ _ (and_from _ _ (and_from _ _ (and_from _ _ (eq-eqb _ _ pools) (eq-eqb _ _ reach)) (eq-eqb _ _ levels))
    c.in_ok-pools.ensures.small) c.in_ok-reach.ensures.small) c.in_ok-levels.ensures.small
