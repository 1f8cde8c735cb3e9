-- A plan allows only rejections by pools that may reject jobs and have a bounded queue.
use Rattle.std.proofs.Common.{◌≡◌, ℕ, zero, suc, Bool, true, false, if◌then◌else◌, List, [], ◌∷◌, ◌++◌, get_or, Contains, is_some, Option, Some, None, refl, ap, sym, ◌∙◌, not, inl, inr}
use Rattle.std.specs.List.{list_any}
use Rattle.std.specs.Option.{option_and_then}
use Rattle.std.proofs.lemmas.Bool.{false≢true, and_parts, not-true}
use Rattle.std.proofs.lemmas.Option.{none-some, same_Some}
use Rattle.job_bodies.specs.Plan.{Plan, Pool, no_pool, pool_at}
use Rattle.recordings.specs.RecordingLine.{RecordedLine, Refused}
use Rattle.conformance.specs.declared.rejection_rule.RejectionRule.{RejectionRule}
use Rattle.conformance.specs.declared.rejection_rule.RejectionRule.TheVariants as rule
use Rattle.conformance.specs.Conforms.{invalidates}
use Rattle.conformance.specs.RejectionRule.{can_reject, has_rejecting_pool, rule_for, rule_of, is_allowed_by, is_allowed_at, pool_if_allowed, pool_of_rejection, submit_pool}
use Rattle.conformance.specs.PoolDeviations.{pool_named}
use Rattle.conformance.specs.RejectionLaws.{RejectionsNeedTheKey, UnboundedPoolsRejectNothing, WithoutTheKeyAllCount}
use Rattle.conformance.proofs.Among.{head_or_later, is_among_none}
use Rattle.conformance.proofs.Times.{none_of_both}

-- ---- one pool
needs_key : (can : Bool) (by : RejectionRule) (acted started closed : Bool) → is_allowed_by (if can then by else rule.Never) acted started closed ≡ true → can ≡ true
needs_key true by acted started closed h = refl
needs_key false by acted started closed h = absurd (false≢true h)

allowed_pool : (plan : Plan) (allowed : Bool) (one pool : ℕ) → (allowed ≡ true → can_reject (pool_at plan one) ≡ true) → (if allowed then Some one else None) ≡ Some pool → can_reject (pool_at plan pool) ≡ true
allowed_pool plan true one pool can h = ap (λ (p : ℕ). can_reject (pool_at plan p)) (sym (same_Some one pool h)) ∙ can refl
allowed_pool plan false one pool can h = absurd (none-some pool h)

of_pool : (plan : Plan) (lines before : List RecordedLine) (job : ℕ) (found : Option ℕ) (pool : ℕ) → pool_if_allowed plan lines before job found ≡ Some pool → can_reject (pool_at plan pool) ≡ true
of_pool plan lines before job None pool h = absurd (none-some pool h)
of_pool plan lines before job (Some one) pool h =
    allowed_pool plan (is_allowed_at plan lines before job (rule_of plan lines one) one) one pool
    (needs_key (can_reject (pool_at plan one)) (rule_for plan lines one) _ _ _) h

pub pool_can_reject : (plan : Plan) (lines before : List RecordedLine) (line : RecordedLine) (pool : ℕ) → pool_of_rejection plan lines before line ≡ Some pool → can_reject (pool_at plan pool) ≡ true
pool_can_reject plan lines before (Refused actor job) pool h = of_pool plan lines before job (option_and_then (pool_named plan) (submit_pool lines job)) pool h
pool_can_reject plan lines before line pool h = absurd (none-some pool h)

pub rejections_need_the_key : RejectionsNeedTheKey
rejections_need_the_key plan lines before line pool h = (and_parts (pool_at plan pool).may_reject (not (pool_at plan pool).unbounded) (pool_can_reject plan lines before line pool h)).0

pub unbounded_pools_reject_nothing : UnboundedPoolsRejectNothing
unbounded_pools_reject_nothing plan lines before line pool h =
    not-true (pool_at plan pool).unbounded (and_parts (pool_at plan pool).may_reject (not (pool_at plan pool).unbounded) (pool_can_reject plan lines before line pool h)).1

-- ---- all pools
none_may : (pools : List Pool) (pool : ℕ) → list_any (λ (one : Pool). one.may_reject) pools ≡ false → (get_or pools pool no_pool).may_reject ≡ false
none_may [] pool none = refl
none_may (one ∷ pools) zero none = (none_of_both one.may_reject (list_any (λ (other : Pool). other.may_reject) pools) none).0
none_may (one ∷ pools) (suc pool) none = none_may pools pool (none_of_both one.may_reject (list_any (λ (other : Pool). other.may_reject) pools) none).1

no_pool_may : (plan : Plan) → has_rejecting_pool plan ≡ false → (pool : ℕ) → (pool_at plan pool).may_reject ≡ false
unfolding has_rejecting_pool
no_pool_may plan none pool = none_may plan.pools pool none

record IsAt {X : Type 0} (xs : List X) (x : X) : Type 0 where
  before : List X
  after : List X
  is : before ++ x ∷ after ≡ xs

place_of : {X : Type 0} (xs : List X) (x : X) → Contains xs x → IsAt xs x
place_of [] x among = absurd (is_among_none x among)
place_of (y ∷ xs) x among =
    elim (head_or_later y x xs among) [
      | inl is ↦ record { before = []; after = xs; is = ap (λ z. z ∷ xs) (sym is) }
      | inr more ↦ let rest = place_of xs x more in record { before = y ∷ rest.before; after = rest.after; is = ap (λ zs. y ∷ zs) rest.is }
    ]

not_allowed : (plan : Plan) (lines before : List RecordedLine) (line : RecordedLine) → has_rejecting_pool plan ≡ false → (found : Option ℕ) → pool_of_rejection plan lines before line ≡ found → is_some found ≡ true → ⊥
not_allowed plan lines before line none None is h = false≢true h
not_allowed plan lines before line none (Some pool) is h = false≢true (sym (no_pool_may plan none pool) ∙ rejections_need_the_key plan lines before line pool is)

not_true : (b : Bool) → (b ≡ true → ⊥) → b ≡ false
not_true true h = absurd (h refl)
not_true false h = refl

pub without_the_key : WithoutTheKeyAllCount
without_the_key plan lines none has line among =
    not_true (invalidates line) (λ h.
    let at = place_of lines line among in
    not_allowed plan lines at.before line none (pool_of_rejection plan lines at.before line) refl (has at.before at.after line at.is h))
