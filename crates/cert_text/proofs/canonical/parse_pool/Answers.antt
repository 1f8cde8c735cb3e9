use Rattle.std.proofs.Common.{◌≡◌, ℕ, List, ◌∷◌, ◌++◌, Option, Some, None, codes, ◌∙◌}
use Rattle.std.proofs.lemmas.Bool.{and_from}
use Rattle.serde_json.proofs.OnLiterals.{serde_json_on_literals}
use Rattle.weights.specs.declared.bound.Bound.{Bound}
use Rattle.weights.specs.declared.bound.Bound.TheVariants.{Standing, Lifetime}
use Rattle.weights.specs.Vector.{Vector}
use Rattle.cert_text.specs.CertText.{vector_data, bounded_data}
use Rattle.cert_text.specs.Canonical.{BeginsAs, bound_text}
use Rattle.cert_text.proofs.Prefixes.{first_key, single_read, pair_read}
use Rattle.cert_text.proofs.canonical.parse_pool.Goals as goal

-- if the vectors of a pool's part were parsed in order, the part was parsed
pool_read : (blocked : Vector) (bound : Option Bound) (text at_blocked at_bound remaining rest : List ℕ) → text ≡ first_key (codes "blocked") ++ at_blocked → BeginsAs at_blocked (vector_data blocked) at_bound
    → at_bound ≡ bound_text bound ++ remaining → remaining ≡ 125 ∷ rest → BeginsAs text (bounded_data (vector_data blocked) bound) rest
unfolding bounded_data serde_json_on_literals
pool_read blocked None text at_blocked at_bound remaining rest a b c d = single_read (codes "blocked") (vector_data blocked) text at_blocked at_bound rest a b (c ∙ d)
pool_read blocked (Some (Standing v)) text at_blocked at_bound remaining rest a b c d = pair_read (codes "blocked") (codes "standing") (vector_data blocked) (vector_data v) text at_blocked at_bound remaining rest a b c d
pool_read blocked (Some (Lifetime v)) text at_blocked at_bound remaining rest a b c d = pair_read (codes "blocked") (codes "lifetime") (vector_data blocked) (vector_data v) text at_blocked at_bound remaining rest a b c d

pub returns-clause-text : goal.returns-clause-text
unfolding serde_json_on_literals
returns-clause-text c = pool_read _ _ _ _ _ _ _ c.in_ok-rest.ensures c.in_ok-blocked.ensures.text c.in_ok-bound.ensures.text c.in_ok-rest-2.ensures

pub returns-clause-fits : goal.returns-clause-fits
returns-clause-fits c = and_from _ _ c.in_ok-bound.ensures.fits c.in_ok-blocked.ensures.fits
