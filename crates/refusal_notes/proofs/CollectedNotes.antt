-- The failing conditions that the loop over the pools has collected.
use Rattle.std.proofs.Common.{◌≡◌, ℕ, Bool, zero, suc, ◌+◌, ◌<◌, true, false, cond, ltb, IsTrue, List, [], ◌∷◌, ◌++◌, length, take, filter, flat_map, get_or, Option, Some, None, refl, sym, ap, ap₂, ◌∙◌, append_assoc, add-one, zero-add, arith}
use Rattle.std.specs.List.{enumerate_from}
use Rattle.std.proofs.lemmas.List.{append-nil, get_or_default}
use Rattle.std.proofs.lemmas.List.Elements.{filter-append}
use Rattle.job_bodies.specs.Plan.{Plan}
use Rattle.weights.specs.declared.bound.Bound.{Bound}
use Rattle.weights.specs.declared.row.Row.{Row}
use Rattle.weights.specs.Row.{fails}
use Rattle.weights.specs.Bound.{bound_rows}
use Rattle.weights.specs.Blocked.{blocked_rows}
use Rattle.weights.specs.Ranks.{is_counted, rank_rows}
use Rattle.cert_text.specs.Cert.{PoolCert, Cert, no_pool_cert, pool_cert_at, pool_cert_fits, cert_fits}
use Rattle.cert_text.proofs.Fitting.{as_many_parts, pool_fits}
use Rattle.soundness.specs.declared.note.Section.{Section}
use Rattle.soundness.specs.declared.note.Section.TheVariants as section
use Rattle.soundness.specs.declared.note.Note.{Note}
use Rattle.soundness.specs.Conditions.{note, in_section, bound_section, bound_conditions, pool_conditions}
use Rattle.refusal_notes.specs.FailingRows.{failing_of_bound}

-- the note fails: its left side is greater than its right side
abbrev pub note_fails : Note → Bool
note_fails x = ltb x.right x.left

-- the failing notes of a section are its failing rows
failing_of_section : (part : Section) (rows : List Row) → filter note_fails (in_section part rows) ≡ in_section part (filter fails rows)
failing_of_section part [] = refl
failing_of_section part (x ∷ rows) =
    let others = filter note_fails (in_section part rows) in
    elim (fails x) as (λ b. cond b (note part x ∷ others) others ≡ in_section part (cond b (x ∷ filter fails rows) (filter fails rows))) [
      | true ↦ ap (λ (notes : List Note). note part x ∷ notes) (failing_of_section part rows)
      | false ↦ failing_of_section part rows
    ]

-- the failing conditions of a bound are its failing rows
failing_of_bound-is : (plan : Plan) (p : ℕ) (bound : Option Bound) → filter note_fails (bound_conditions plan p bound) ≡ failing_of_bound plan p bound
failing_of_bound-is plan p None = refl
failing_of_bound-is plan p (Some bound) = failing_of_section (bound_section p bound) (bound_rows plan p bound)

-- the failing conditions of a bound and of another section are the failing rows of the bound and then those of the section
failing_of_pool : (plan : Plan) (p : ℕ) (bound : Option Bound) (other : Section) (rows : List Row)
    → filter note_fails (bound_conditions plan p bound ++ in_section other rows) ≡ failing_of_bound plan p bound ++ in_section other (filter fails rows)
failing_of_pool plan p bound other rows =
    filter-append note_fails (bound_conditions plan p bound) (in_section other rows)
    ∙ ap₂ (λ (ns ms : List Note). ns ++ ms) (failing_of_bound-is plan p bound) (failing_of_section other rows)

-- the conditions of the ranks and of the first i pools
abbrev pub conditions_to : Plan → Cert → ℕ → List Note
conditions_to plan cert i =
    in_section section.Ranks (rank_rows plan cert.ranks)
    ++ flat_map (λ entry. pool_conditions plan cert entry.0) (enumerate_from 0 (take i plan.pools))

-- the notes are those conditions of the ranks and of the first i pools that fail
pub record NotesTo (plan : Plan) (cert : Cert) (notes : List Note) (i : ℕ) : Type 0 where
  pub collected : notes ≡ filter note_fails (conditions_to plan cert i)

pub notes_begin : (plan : Plan) (cert : Cert) (notes : List Note) → notes ≡ in_section section.Ranks (filter fails (rank_rows plan cert.ranks)) → NotesTo plan cert notes 0
notes_begin plan cert notes ranks =
    let rows = rank_rows plan cert.ranks in
    record { collected = ranks ∙ sym (ap (filter note_fails) (append-nil (in_section section.Ranks rows)) ∙ failing_of_section section.Ranks rows) }

-- the notes of the first i + 1 elements are those of the first i elements, followed by those of the element at index i
one_more : {X : Type 0} (notes_at : ℕ → List Note) (n : ℕ) (xs : List X) (i : ℕ) → i < length xs
    → flat_map (λ (entry : ℕ × X). notes_at entry.0) (enumerate_from n (take (suc i) xs)) ≡ flat_map (λ (entry : ℕ × X). notes_at entry.0) (enumerate_from n (take i xs)) ++ notes_at (n + i)
one_more notes_at n [] i inside = absurd (omega (arith, inside))
one_more notes_at n (x ∷ xs) zero inside =
    let place : n + 0 ≡ n = omega arith in
    append-nil (notes_at n) ∙ rw place refl
one_more notes_at n (x ∷ xs) (suc i) inside =
    let place : n + suc i ≡ n + 1 + i = omega arith in
    ap (λ (ns : List Note). notes_at n ++ ns) (one_more notes_at (n + 1) xs i (omega arith)) ∙ rw place (sym (append_assoc (notes_at n) _ _))

-- after some other notes, the notes of the first i + 1 elements are those of the first i elements, followed by those of the
-- element at index i
one_more_after : {X : Type 0} (prefix : List Note) (notes_at : ℕ → List Note) (xs : List X) (i : ℕ) → i < length xs
    → prefix ++ flat_map (λ (entry : ℕ × X). notes_at entry.0) (enumerate_from 0 (take (i + 1) xs)) ≡ prefix ++ flat_map (λ (entry : ℕ × X). notes_at entry.0) (enumerate_from 0 (take i xs)) ++ notes_at i
one_more_after prefix notes_at xs i inside =
    rw add-one (ap (λ (ns : List Note). prefix ++ ns) (one_more notes_at 0 xs i inside) ∙ rw zero-add (sym (append_assoc prefix _ _)))

-- if a certificate fits the plan, each of its pool parts fits the plan, and the number of the part is that of a pool of the
-- plan
pub part_fits : (plan : Plan) (cert : Cert) (i : ℕ) (pool : PoolCert) → IsTrue (cert_fits plan cert) → i < length cert.pools → pool ≡ get_or cert.pools i pool
    → IsTrue (pool_cert_fits plan i pool) × (i < length plan.pools)
part_fits plan cert i pool fits inside here =
    let within : i < length plan.pools = omega (arith, as_many_parts plan cert fits) in
    let same : pool_cert_at cert i ≡ pool = get_or_default cert.pools i no_pool_cert pool inside ∙ sym here in
    (rw same at (pool_fits plan cert i fits within), within)

pub notes_continue : (plan : Plan) (cert : Cert) (notes more : List Note) (i : ℕ) (pool : PoolCert) → IsTrue (cert_fits plan cert) → i < length cert.pools → pool ≡ get_or cert.pools i pool
    → more
    ≡ notes ++ failing_of_bound plan i pool.bound
    ++ in_section (section.Blocked i) (filter fails (blocked_rows plan i (is_counted plan cert.ranks) pool.blocked))
    → NotesTo plan cert notes i → NotesTo plan cert more (i + 1)
notes_continue plan cert notes more i pool fits inside here added prior =
    let of_blocked = blocked_rows plan i (is_counted plan cert.ranks) pool.blocked in
    let conditions = bound_conditions plan i pool.bound ++ in_section (section.Blocked i) of_blocked in
    let same : pool_conditions plan cert i ≡ conditions =
    ap (λ (p : PoolCert). bound_conditions plan i p.bound ++ in_section (section.Blocked i) (blocked_rows plan i (is_counted plan cert.ranks) p.blocked))
    (get_or_default cert.pools i no_pool_cert pool inside ∙ sym here) in
    let grown = one_more_after (in_section section.Ranks (rank_rows plan cert.ranks)) (pool_conditions plan cert) plan.pools i (part_fits plan cert i pool fits inside here).1 in
    let collected : filter note_fails (conditions_to plan cert (i + 1)) ≡ filter note_fails (conditions_to plan cert i) ++ filter note_fails conditions =
    ap (filter note_fails) (grown ∙ ap (λ (ns : List Note). conditions_to plan cert i ++ ns) same) ∙ filter-append note_fails (conditions_to plan cert i) conditions in
    record { collected = added ∙ append_assoc notes _ _ ∙ ap₂ (λ (ns ms : List Note). ns ++ ms) prior.collected (sym (failing_of_pool plan i pool.bound (section.Blocked i) of_blocked)) ∙ sym collected }
