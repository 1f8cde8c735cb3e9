-- A pool with an unbounded queue never gets the key `may_reject`.
use Rattle.std.proofs.Common.{◌≡◌, ◌≢◌, ℕ, zero, suc, ◌+◌, ◌==◌, ◌&&◌, ◌||◌, not, Bool, true, false, List, [], ◌∷◌, get_or, map, Option, Some, None, refl, ap, sym, subst, ◌∙◌, arith}
use Rattle.std.specs.List.{cons_option, enumerate_from, filter_map}
use Rattle.std.proofs.lemmas.Bool.{false≢true, and_parts, eqb-true, not-true}
use Rattle.job_bodies.specs.Plan.{Plan, Pool, no_pool, pool_at}
use Rattle.recordings.specs.RecordingLine.{RecordedLine}
use Rattle.recordings.specs.LineSteps.{with_lines_before}
use Rattle.conformance.specs.RejectingPools.{with_key, with_all_keys, is_among, only_rejects}
use Rattle.conformance.specs.RejectionRule.{can_reject, pool_of_rejection, pools_in}
use Rattle.conformance.specs.RejectionLaws.{UnboundedPoolsGetNoKey}
use Rattle.conformance.proofs.RejectionsAllowed.{pool_can_reject}

-- ---- the pools that reject jobs
here_or_later : (plan : Plan) (one pool : ℕ) (rest : List ℕ) (same : Bool) → (one == pool) ≡ same → can_reject (pool_at plan one) ≡ true → (is_among pool rest ≡ true → can_reject (pool_at plan pool) ≡ true) → (same || is_among pool rest) ≡ true
    → can_reject (pool_at plan pool) ≡ true
here_or_later plan one pool rest true is here later h = subst (λ (p : ℕ). can_reject (pool_at plan p) ≡ true) (eqb-true one pool is) here
here_or_later plan one pool rest false is here later h = later h

one_more : (plan : Plan) (found : Option ℕ) (rest : List ℕ) (pool : ℕ) → ((one : ℕ) → found ≡ Some one → can_reject (pool_at plan one) ≡ true) → (is_among pool rest ≡ true → can_reject (pool_at plan pool) ≡ true) → is_among pool (cons_option found rest) ≡ true
    → can_reject (pool_at plan pool) ≡ true
one_more plan None rest pool here later h = later h
one_more plan (Some one) rest pool here later h = here_or_later plan one pool rest (one == pool) refl (here one refl) later h

among_rejecting : (plan : Plan) (lines : List RecordedLine) (steps : List (List RecordedLine × RecordedLine)) (pool : ℕ) → is_among pool (filter_map (λ (before, line). pool_of_rejection plan lines before line) steps) ≡ true → can_reject (pool_at plan pool) ≡ true
among_rejecting plan lines [] pool h = absurd (false≢true h)
among_rejecting plan lines ((before, line) ∷ steps) pool h =
    one_more plan (pool_of_rejection plan lines before line) (filter_map (λ (before, line). pool_of_rejection plan lines before line) steps) pool (λ one is. pool_can_reject plan lines before line one is) (among_rejecting plan lines steps pool) h

rejecting_can : (plan : Plan) (lines : List RecordedLine) (pool : ℕ) → is_among pool (pools_in plan lines lines) ≡ true → can_reject (pool_at plan pool) ≡ true
unfolding pools_in
rejecting_can plan lines pool h = among_rejecting plan lines (with_lines_before lines) pool h

-- ---- the key
same_bound : (pools : List Pool) (pool : ℕ) → (get_or (map (with_key true) pools) pool no_pool).unbounded ≡ (get_or pools pool no_pool).unbounded
same_bound [] pool = refl
same_bound (one ∷ pools) zero = refl
same_bound (one ∷ pools) (suc pool) = same_bound pools pool

neither : (a b : Bool) → (a ≡ true → ⊥) → (a && b) ≡ false
neither true b none = absurd (none refl)
neither false b none = refl

never_only : (plan : Plan) (lines : List RecordedLine) (pool : ℕ) → (pool_at plan pool).unbounded ≡ true → only_rejects plan lines pool ≡ false
never_only plan lines pool unbounded =
    let all = with_all_keys plan in
    neither (is_among pool (pools_in all lines lines)) _ (λ h.
    let parts = and_parts (pool_at all pool).may_reject (not (pool_at all pool).unbounded) (rejecting_can all lines pool h) in
    false≢true (sym (not-true (pool_at all pool).unbounded parts.1) ∙ (same_bound plan.pools pool ∙ unbounded)))

abbrev key_by : (ℕ → Bool) → ℕ × Pool → Pool
key_by rejects (number, pool) = with_key (rejects number) pool

no_key : (key : Bool) (queue : ℕ) → key ≡ false → queue ≢ 0 → (key || queue == 0) ≡ false
no_key key zero none some = absurd (some refl)
no_key key (suc queue) none some = grind (arith, none)

no_key_from : (rejects : ℕ → Bool) (first : ℕ) (pools : List Pool) (pool : ℕ) → rejects (first + pool) ≡ false → (get_or pools pool no_pool).queue ≢ 0 → (get_or (map (key_by rejects) (enumerate_from first pools)) pool no_pool).may_reject ≡ false
no_key_from rejects first [] pool none some = refl
no_key_from rejects first (one ∷ pools) zero none some =
    let here : first + 0 ≡ first = omega arith in
    no_key (rejects first) one.queue (sym (ap rejects here) ∙ none) some
no_key_from rejects first (one ∷ pools) (suc pool) none some =
    let later : first + suc pool ≡ (first + 1) + pool = omega arith in
    no_key_from rejects (first + 1) pools pool (sym (ap rejects later) ∙ none) some

pub unbounded_pools_get_no_key : UnboundedPoolsGetNoKey
unbounded_pools_get_no_key plan lines pool unbounded some =
    let here : 0 + pool ≡ pool = omega arith in
    no_key_from (only_rejects plan lines) 0 plan.pools pool (ap (only_rejects plan lines) here ∙ never_only plan lines pool unbounded) some
