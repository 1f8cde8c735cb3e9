-- A certificate has no failing condition exactly when the conditions of its ranks and of each pool hold.
use Rattle.std.proofs.Common.{◌≡◌, ℕ, Bool, true, false, cond, ◌&&◌, not, ltb, List, [], ◌∷◌, ◌++◌, filter, flat_map, Option, Some, None, is_some, refl, sym, ap, ap₂, ◌∙◌}
use Rattle.std.specs.List.{list_all, enumerate_from}
use Rattle.job_bodies.specs.Plan.{Pool, Plan}
use Rattle.weights.specs.declared.bound.Bound.{Bound}
use Rattle.weights.specs.declared.row.Row.{Row}
use Rattle.weights.specs.Row.{fails, first_failing}
use Rattle.weights.specs.Bound.{bound_rows}
use Rattle.weights.specs.Blocked.{blocked_rows}
use Rattle.weights.specs.Ranks.{is_counted, rank_rows}
use Rattle.cert_text.specs.Cert.{Cert, pool_cert_at}
use Rattle.soundness.specs.declared.note.Section.{Section}
use Rattle.soundness.specs.declared.note.Section.TheVariants as section
use Rattle.soundness.specs.declared.note.Note.{Note}
use Rattle.soundness.specs.Conditions.{note, in_section, bound_section, bound_conditions, pool_conditions, failing}
use Rattle.soundness.specs.Accepted.{is_nil}
use Rattle.cert_check.specs.PoolConditions.{bound_holds, pool_holds}

-- the note fails: its left side is greater than its right side
abbrev is_failing : Note → Bool
is_failing x = ltb x.right x.left

-- none of the notes fails
abbrev none_failing : List Note → Bool
none_failing notes = is_nil (filter is_failing notes)

none_failing-cons : (x : Note) (notes : List Note) → none_failing (x ∷ notes) ≡ (not (is_failing x) && none_failing notes)
none_failing-cons x notes =
    elim (is_failing x) as (λ b. is_nil (cond b (x ∷ filter is_failing notes) (filter is_failing notes)) ≡ (not b && none_failing notes)) [
      | true ↦ refl
      | false ↦ refl
    ]

-- no note of two lists together fails exactly when no note of either list fails
none_failing-append : (xs ys : List Note) → none_failing (xs ++ ys) ≡ (none_failing xs && none_failing ys)
none_failing-append [] ys = refl
none_failing-append (x ∷ xs) ys =
    none_failing-cons x (xs ++ ys)
    ∙ (ap (λ b. not (is_failing x) && b) (none_failing-append xs ys)
    ∙ (and-assoc (not (is_failing x)) (none_failing xs) (none_failing ys)
    ∙ sym (ap (λ b. b && none_failing ys) (none_failing-cons x xs))))
  where
    and-assoc : (a b c : Bool) → (a && (b && c)) ≡ ((a && b) && c)
    and-assoc true b c = refl
    and-assoc false b c = refl

-- no note of a section fails exactly when the section has no first failing row
none_failing-section : (part : Section) (rows : List Row) → none_failing (in_section part rows) ≡ not (is_some (first_failing rows))
none_failing-section part [] = refl
none_failing-section part (x ∷ rows) =
    none_failing-cons (note part x) (in_section part rows)
    ∙ (ap (λ b. not (fails x) && b) (none_failing-section part rows)
    ∙ elim (fails x) as (λ b. (not b && not (is_some (first_failing rows))) ≡ not (is_some (cond b (Some x) (first_failing rows)))) [
      | true ↦ refl
      | false ↦ refl
    ])

-- no note of a flat_map fails exactly when no note of any element's list fails
none_failing-flat_map : {X : Type 0} (f : X → List Note) (xs : List X) → none_failing (flat_map f xs) ≡ list_all (λ x. none_failing (f x)) xs
none_failing-flat_map f [] = refl
none_failing-flat_map f (x ∷ xs) = none_failing-append (f x) (flat_map f xs) ∙ ap (λ b. none_failing (f x) && b) (none_failing-flat_map f xs)

list_all-same : {X : Type 0} (f g : X → Bool) (xs : List X) → ((x : X) → f x ≡ g x) → list_all f xs ≡ list_all g xs
list_all-same f g [] same = refl
list_all-same f g (x ∷ xs) same = ap₂ (λ a b. a && b) (same x) (list_all-same f g xs same)

-- no condition of a bound fails exactly when `bound_holds` is true
bound_holds-means : (plan : Plan) (p : ℕ) (bound : Option Bound) → none_failing (bound_conditions plan p bound) ≡ bound_holds plan p bound
bound_holds-means plan p None = refl
bound_holds-means plan p (Some bound) = none_failing-section (bound_section p bound) (bound_rows plan p bound)

-- no condition of pool p fails exactly when `pool_holds` is true
pool_holds-means : (plan : Plan) (cert : Cert) (p : ℕ) → none_failing (pool_conditions plan cert p) ≡ pool_holds plan cert p
pool_holds-means plan cert p =
    let pool = pool_cert_at cert p in
    let of_blocked = blocked_rows plan p (is_counted plan cert.ranks) pool.blocked in
    none_failing-append (bound_conditions plan p pool.bound) (in_section (section.Blocked p) of_blocked)
    ∙ ap₂ (λ a b. a && b) (bound_holds-means plan p pool.bound) (none_failing-section (section.Blocked p) of_blocked)

-- no condition of the certificate fails exactly when no condition of the ranks fails and `pool_holds` is true for each pool
pub conditions_hold : (plan : Plan) (cert : Cert)
    → is_nil (failing plan cert) ≡ (not (is_some (first_failing (rank_rows plan cert.ranks))) && list_all (λ entry. pool_holds plan cert entry.0) (enumerate_from 0 plan.pools))
conditions_hold plan cert =
    let of_ranks = rank_rows plan cert.ranks in
    let conditions_of = λ (entry : ℕ × Pool). pool_conditions plan cert entry.0 in
    let numbered = enumerate_from 0 plan.pools in
    none_failing-append (in_section section.Ranks of_ranks) (flat_map conditions_of numbered)
    ∙ ap₂ (λ a b. a && b) (none_failing-section section.Ranks of_ranks)
    (none_failing-flat_map conditions_of numbered
    ∙ list_all-same (λ entry. none_failing (conditions_of entry)) (λ entry. pool_holds plan cert entry.0) numbered (λ entry. pool_holds-means plan cert entry.0))

-- if no condition of the ranks fails, a condition of the certificate fails exactly when some pool fails its test
pub held : (plan : Plan) (cert : Cert) (all : Bool) → is_some (first_failing (rank_rows plan cert.ranks)) ≡ false
    → all ≡ list_all (λ entry. pool_holds plan cert entry.0) (enumerate_from 0 plan.pools) → all ≡ is_nil (failing plan cert)
held plan cert all ranks pools =
    pools ∙ sym (conditions_hold plan cert ∙ ap (λ (b : Bool). not b && list_all (λ entry. pool_holds plan cert entry.0) (enumerate_from 0 plan.pools)) ranks)

-- if a condition of the ranks fails, a condition of the certificate fails
pub ranks_fail : (plan : Plan) (cert : Cert) → is_some (first_failing (rank_rows plan cert.ranks)) ≡ true → false ≡ is_nil (failing plan cert)
ranks_fail plan cert ranks =
    sym (conditions_hold plan cert ∙ ap (λ (b : Bool). not b && list_all (λ entry. pool_holds plan cert entry.0) (enumerate_from 0 plan.pools)) ranks)
