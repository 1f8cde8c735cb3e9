-- The inequalities that an accepted certificate satisfies, rule by rule.
use Rattle.std.proofs.Common.{◌≡◌, ℕ, ◌<◌, true, ltb, List, [], ◌∷◌, length, flat_map, IsTrue, Option, Some, None, refl, zero-add}
use Rattle.std.specs.List.{enumerate_from}
use Rattle.std.proofs.lemmas.Bool.{and_parts, ltb-false}
use Rattle.std.proofs.lemmas.Option.{slice_get-get_or}
use Rattle.support.specs.In.{In}
use Rattle.support.proofs.Members.{In-append_left, In-append_right, In-map, In-flat_map, In-enumerate_from, test_of_none}
use Rattle.job_bodies.specs.Plan.{Pool, Plan, no_pool, pool_at}
use Rattle.weights.specs.declared.row.Row.{Row}
use Rattle.weights.specs.Row.{AllHold}
use Rattle.weights.specs.declared.bound.Bound.{Bound}
use Rattle.weights.specs.Bound.{bound_rows}
use Rattle.weights.specs.Blocked.{blocked_rows}
use Rattle.weights.specs.Ranks.{is_counted, rank_rows}
use Rattle.cert_text.specs.Cert.{Cert, pool_cert_at, bound_fits, cert_fits}
use Rattle.cert_text.proofs.Fitting.{parts_fit}
use Rattle.soundness.proofs.BoundLaws.{PoolBoundLaws, bound_laws}
use Rattle.soundness.proofs.BlockedLaws.{BlockedLaws, blocked_laws}
use Rattle.soundness.proofs.RankLaws.{RankLaws, rank_laws}
use Rattle.soundness.specs.declared.note.Section.{Section}
use Rattle.soundness.specs.declared.note.Section.TheVariants as section
use Rattle.soundness.specs.declared.note.Note.{Note}
use Rattle.soundness.specs.Conditions.{note, in_section, bound_section, bound_conditions, pool_conditions, conditions, failing}
use Rattle.soundness.specs.Accepted.{is_nil, accepted}

-- the inequalities of each pool's vectors and of the ranks
pub record CertLaws (plan : Plan) (cert : Cert) : Type 0 where
  pub bound : (p : ℕ) → p < length plan.pools → PoolBoundLaws plan p (pool_cert_at cert p).bound
  pub blocked : (p : ℕ) → p < length plan.pools → BlockedLaws plan (is_counted plan cert.ranks) p (pool_cert_at cert p).blocked
  pub ranks : RankLaws plan cert.ranks

-- if is_nil holds, the list is empty
pub is_nil_means : (notes : List Note) → is_nil notes ≡ true → notes ≡ []
is_nil_means [] nil = refl
is_nil_means (x ∷ xs) nil = absurd cc

-- if no condition of the certificate fails, each row of a section holds
pub section_holds : (plan : Plan) (cert : Cert) (part : Section) (rows : List Row) → failing plan cert ≡ [] → ((x : Note) → In x (in_section part rows) → In x (conditions plan cert)) → AllHold rows
section_holds plan cert part rows none among x i =
    ltb-false x.right x.left (test_of_none (λ (y : Note). ltb y.right y.left) (conditions plan cert) (note part x) none (among (note part x) (In-map (note part) i)))

-- each condition of a pool is one of the conditions of the certificate
pub pool_inside : (plan : Plan) (cert : Cert) (p : ℕ) (x : Note) → p < length plan.pools → In x (pool_conditions plan cert p) → In x (conditions plan cert)
pool_inside plan cert p x inside i =
    In-append_right (in_section section.Ranks (rank_rows plan cert.ranks))
    (In-flat_map (λ (entry : ℕ × Pool). pool_conditions plan cert entry.0) (In-enumerate_from 0 plan.pools p (pool_at plan p) p (slice_get-get_or plan.pools p no_pool inside) (zero-add p)) i)

-- if the bound fits pool p and no condition fails, the inequalities of the bound hold
bound_holds : (plan : Plan) (cert : Cert) (p : ℕ) (bound : Option Bound) → bound_fits plan p bound ≡ true → failing plan cert ≡ [] → ((x : Note) → In x (bound_conditions plan p bound) → In x (conditions plan cert)) → PoolBoundLaws plan p bound
bound_holds plan cert p None fits none among = fits
bound_holds plan cert p (Some bound) fits none among = bound_laws plan p bound fits (section_holds plan cert (bound_section p bound) (bound_rows plan p bound) none among)

-- if the certificate is accepted, the inequalities of its vectors and of its ranks hold
pub cert_laws : (plan : Plan) (cert : Cert) → IsTrue (accepted plan cert) → CertLaws plan cert
cert_laws plan cert is_accepted =
    let parts = and_parts (cert_fits plan cert) (is_nil (failing plan cert)) is_accepted in
    let none = is_nil_means (failing plan cert) parts.1 in
    record {
      bound = λ p inside.
          let pool = pool_cert_at cert p in
          let of_blocked = in_section (section.Blocked p) (blocked_rows plan p (is_counted plan cert.ranks) pool.blocked) in
          bound_holds plan cert p pool.bound ((parts_fit plan cert parts.0).pools p inside).bound none (λ x i. pool_inside plan cert p x inside (In-append_left of_blocked i));
      blocked = λ p inside.
          let pool = pool_cert_at cert p in
          let of_bound = bound_conditions plan p pool.bound in
          blocked_laws plan (is_counted plan cert.ranks) p pool.blocked
          (section_holds plan cert (section.Blocked p) (blocked_rows plan p (is_counted plan cert.ranks) pool.blocked) none (λ x i. pool_inside plan cert p x inside (In-append_right of_bound i)));
      ranks = rank_laws plan cert.ranks (section_holds plan cert section.Ranks (rank_rows plan cert.ranks) none (λ x i. In-append_left (flat_map (λ (entry : ℕ × Pool). pool_conditions plan cert entry.0) (enumerate_from 0 plan.pools)) i));
    }
