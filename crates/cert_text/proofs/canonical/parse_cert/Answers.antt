use Rattle.std.proofs.Common.{◌≡◌, ℕ, List, [], ◌∷◌, ◌++◌, codes, decimal, refl, ap, ◌∙◌, append_assoc}
use Rattle.std.proofs.lemmas.Bool.{and_from, eq-eqb}
use Rattle.serde_json.proofs.OnLiterals.{serde_json_on_literals}
use Rattle.cert_text.specs.Cert.{Cert}
use Rattle.cert_text.specs.CertText.{list_data, number_data, pool_data, ranks_data, version_number, cert_data}
use Rattle.cert_text.specs.Canonical.{BeginsAs, version_text}
use Rattle.cert_text.proofs.Prefixes.{first_key, next_key, triple_read}
use Rattle.std.specs.Prelude.{map}
use Rattle.cert_text.proofs.canonical.parse_cert.Goals as goal

-- if the pools, the ranks and the version of a certificate were parsed in order, the certificate was parsed
cert_read : (cert : Cert) (text at_pools after_pools at_ranks after_ranks rest : List ℕ) → text ≡ first_key (codes "pools") ++ at_pools → BeginsAs at_pools (list_data (map pool_data cert.pools)) after_pools
    → after_pools ≡ next_key (codes "ranks") ++ at_ranks → BeginsAs at_ranks (ranks_data cert.ranks) after_ranks → after_ranks ≡ version_text cert ++ rest → BeginsAs text (cert_data cert) rest
unfolding cert_data serde_json_on_literals
cert_read cert text at_pools after_pools at_ranks after_ranks rest a b c d e =
    let version = decimal (version_number cert) in
    let key = codes ",\"version\":" in
    let last : after_ranks ≡ key ++ (version ++ 125 ∷ rest) = e ∙ ap (λ (t : List ℕ). key ++ t) (append_assoc version (125 ∷ []) rest) in
    triple_read (codes "pools") (codes "ranks") (codes "version") (list_data (map pool_data cert.pools)) (ranks_data cert.ranks) (number_data (version_number cert))
    text at_pools after_pools at_ranks after_ranks (version ++ 125 ∷ rest) (125 ∷ rest) rest a b c d last refl refl

pub returns-clause-text : goal.returns-clause-text
unfolding serde_json_on_literals
returns-clause-text c = cert_read _ _ _ _ _ _ _ c.in_ok-rest.ensures c.in_ok-pools.ensures.text c.in_ok-rest-2.ensures c.in_ok-ranks.ensures.text c.in_ok-rest-3.ensures

pub returns-clause-fits : goal.returns-clause-fits
returns-clause-fits c = and_from _ _ (and_from _ _ (eq-eqb _ _ c.in_ok-pools.ensures.count) c.in_ok-ranks.ensures.fit) c.in_ok-pools.ensures.fit
