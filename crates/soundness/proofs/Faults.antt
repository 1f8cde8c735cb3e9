-- A list of rows has no failing row exactly when all its rows hold, and a certificate without a failing condition is accepted.
use Rattle.std.specs.Prelude.{⊤}
use Rattle.std.proofs.Common.{◌≡◌, ℕ, ◌+◌, ◌<◌, ◌≤◌, ⊎_elim, Bool, true, false, cond, ltb, List, [], ◌∷◌, length, filter, flat_map, Option, Some, None, refl, sym, ap, subst, ◌∙◌, arith}
use Rattle.std.specs.List.{enumerate_from}
use Rattle.std.proofs.lemmas.Bool.{and_from, ltb-false, le-ltb}
use Rattle.support.specs.In.{In, here, there}
use Rattle.support.proofs.Members.{not_In_nil, In-cons_cases, In-append_cases, In-map_from, In-flat_map_from}
use Rattle.job_bodies.specs.Plan.{Pool, Plan}
use Rattle.weights.specs.declared.row.Row.{Row}
use Rattle.weights.specs.Row.{fails, first_failing, AllHold}
use Rattle.weights.specs.declared.bound.Bound.{Bound}
use Rattle.weights.specs.Bound.{bound_rows}
use Rattle.weights.specs.Blocked.{blocked_rows}
use Rattle.weights.specs.Ranks.{is_counted, rank_rows}
use Rattle.cert_text.specs.Cert.{Cert, pool_cert_at, cert_fits}
use Rattle.soundness.specs.declared.note.Section.{Section}
use Rattle.soundness.specs.declared.note.Section.TheVariants as section
use Rattle.soundness.specs.declared.note.Note.{Note}
use Rattle.soundness.specs.Conditions.{note, in_section, bound_section, bound_conditions, pool_conditions, conditions, failing}
use Rattle.soundness.specs.Accepted.{is_nil, accepted}

-- ---- the first row that fails

-- if no row of a list fails, its first row holds and none of the others fails
first_holds : (b : Bool) (x : Row) (rest : Option Row) → cond b (Some x) rest ≡ None → (b ≡ false) × (rest ≡ None)
first_holds true x rest none = absurd cc
first_holds false x rest none = (refl, none)

-- if a list of rows has no failing row, all its rows hold
pub all_hold : (rows : List Row) → first_failing rows ≡ None → AllHold rows
all_hold [] none x i = absurd (not_In_nil i)
all_hold (y ∷ rows) none x i =
    let parts = first_holds (fails y) y (first_failing rows) none in
    ⊎_elim
    (λ (same : x ≡ y). subst (λ (z : Row). z.left ≤ z.right) (sym same) (ltb-false y.right y.left parts.0))
    (λ later. all_hold rows parts.1 x later)
    (In-cons_cases i)

-- if all rows of a list hold, it has no failing row
pub none_fails : (rows : List Row) → AllHold rows → first_failing rows ≡ None
none_fails [] hold = refl
none_fails (y ∷ rows) hold =
    ap (λ (b : Bool). cond b (Some y) (first_failing rows)) (le-ltb y.right y.left (hold y here)) ∙ none_fails rows (λ x i. hold x (there i))

-- ---- the failing conditions

-- in a list that is numbered from n, the number of an element is at least n and below n plus the length
pub pool_numbers : {X : Type 0} (n : ℕ) (xs : List X) (entry : ℕ × X) → In entry (enumerate_from n xs) → (n ≤ entry.0) × (entry.0 < n + length xs)
pool_numbers n [] entry i = absurd (not_In_nil i)
pool_numbers {X} n (x ∷ xs) entry i =
    ⊎_elim
    (λ (same : ◌≡◌ {A = ℕ × X} entry (n, x)). let number : entry.0 ≡ n = ap (λ (e : ℕ × X). e.0) same in (omega arith, omega arith))
    (λ later. let within = pool_numbers (n + 1) xs entry later in (omega (arith, within.0), omega (arith, within.1)))
    (In-cons_cases i)

-- if no element passes the test, the filtered list is empty
filter_none : {X : Type 0} (test : X → Bool) (xs : List X) → ((x : X) → In x xs → test x ≡ false) → filter test xs ≡ []
filter_none test [] each = refl
filter_none test (x ∷ xs) each = ap (λ (b : Bool). cond b (x ∷ filter test xs) (filter test xs)) (each x here) ∙ filter_none test xs (λ y i. each y (there i))

-- if the rows of a section hold, none of the section's conditions fails
holds_in_section : (part : Section) (rows : List Row) (x : Note) → AllHold rows → In x (in_section part rows) → ltb x.right x.left ≡ false
holds_in_section part rows x hold i =
    let found = In-map_from (note part) rows i in
    subst (λ (y : Note). ltb y.right y.left ≡ false) found.2 (le-ltb found.0.right found.0.left (hold found.0 found.1))

-- the rows of the bound of pool p hold, if it has a bound
abbrev pub BoundRowsHold : Plan → ℕ → Option Bound → Type 0
BoundRowsHold plan p None = ⊤
BoundRowsHold plan p (Some bound) = AllHold (bound_rows plan p bound)

-- none of the conditions of a bound fails if its rows hold
holds_in_bound : (plan : Plan) (p : ℕ) (bound : Option Bound) (x : Note) → BoundRowsHold plan p bound → In x (bound_conditions plan p bound) → ltb x.right x.left ≡ false
holds_in_bound plan p None x hold i = absurd (not_In_nil i)
holds_in_bound plan p (Some bound) x hold i = holds_in_section (bound_section p bound) (bound_rows plan p bound) x hold i

-- a certificate is accepted if it fits the plan and all its conditions hold
pub accepted_from_parts : (plan : Plan) (cert : Cert) → cert_fits plan cert ≡ true → AllHold (rank_rows plan cert.ranks)
    → ((p : ℕ) → p < length plan.pools → BoundRowsHold plan p (pool_cert_at cert p).bound)
    → ((p : ℕ) → p < length plan.pools → AllHold (blocked_rows plan p (is_counted plan cert.ranks) (pool_cert_at cert p).blocked))
    → accepted plan cert ≡ true
accepted_from_parts plan cert fits ranks bound blocked =
    and_from (cert_fits plan cert) (is_nil (failing plan cert)) fits (ap is_nil (filter_none (λ (x : Note). ltb x.right x.left) (conditions plan cert) each))
  where
    of_pool : (x : Note) (p : ℕ) → p < length plan.pools → In x (pool_conditions plan cert p) → ltb x.right x.left ≡ false
    of_pool x p inside i =
        let pool = pool_cert_at cert p in
        let of_blocked = blocked_rows plan p (is_counted plan cert.ranks) pool.blocked in
        ⊎_elim (λ first. holds_in_bound plan p pool.bound x (bound p inside) first) (λ second. holds_in_section (section.Blocked p) of_blocked x (blocked p inside) second)
        (In-append_cases (bound_conditions plan p pool.bound) (in_section (section.Blocked p) of_blocked) i)

    each : (x : Note) → In x (conditions plan cert) → ltb x.right x.left ≡ false
    each x i =
        let of_ranks = in_section section.Ranks (rank_rows plan cert.ranks) in
        let conditions_of = λ (entry : ℕ × Pool). pool_conditions plan cert entry.0 in
        let numbered = enumerate_from 0 plan.pools in
        ⊎_elim (λ first. holds_in_section section.Ranks (rank_rows plan cert.ranks) x ranks first)
        (λ later.
        let found = In-flat_map_from conditions_of numbered later in
        let within = pool_numbers 0 plan.pools found.0 found.1 in
        of_pool x found.0.0 (omega (arith, within.1)) found.2)
        (In-append_cases of_ranks (flat_map conditions_of numbered) i)
