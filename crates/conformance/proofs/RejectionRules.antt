-- The rule for a pool.
use Rattle.std.proofs.Common.{◌≡◌, ◌≤◌, ◌<◌, ◌+◌, ◌⊎◌, inl, inr, ℕ, Bool, true, false, ◌&&◌, not, if◌then◌else◌, List, [], ◌∷◌, ◌++◌, length, get_or, ap, sym, ◌∙◌, arith}
use Rattle.std.proofs.Math.ListN.{get_or-eq_default}
use Rattle.std.proofs.lemmas.Bool.{cases_lt}
use Rattle.std.proofs.lemmas.List.{length_push, get_or_push, get_or_append_left}
use Rattle.job_bodies.specs.Plan.{Plan, Pool, no_pool, pool_at}
use Rattle.recordings.specs.RecordingLine.{RecordedLine}
use Rattle.conformance.specs.declared.handlers.Handlers.{Handlers}
use Rattle.conformance.specs.declared.rejection_rule.RejectionRule.{RejectionRule}
use Rattle.conformance.specs.declared.rejection_rule.RejectionRule.TheVariants as rule
use Rattle.conformance.specs.Handlers.{AreHandlersOf, AreRules}
use Rattle.conformance.specs.PoolComparison.{has_name}
use Rattle.conformance.specs.RejectionRule.{can_reject, rule_by, rule_for, rule_of, has_handler, is_shut, is_got, is_abort, is_caller_runs, is_discard, is_allowed_by}

same_rule : (a a' b b' c c' d d' g g' : Bool) → a ≡ a' → b ≡ b' → c ≡ c' → d ≡ d' → g ≡ g' → rule_by (not a) (not b) c (not d && not g) ≡ rule_by (not a') (not b') c' (not d' && not g')
same_rule a a' b b' c c' d d' g g' e1 e2 e3 e4 e5 =
    ap (λ (x : Bool). rule_by (not x) (not b) c (not d && not g)) e1
    ∙ ap (λ (x : Bool). rule_by (not a') (not x) c (not d && not g)) e2
    ∙ ap (λ (x : Bool). rule_by (not a') (not b') x (not d && not g)) e3
    ∙ ap (λ (x : Bool). rule_by (not a') (not b') c' (not x && not g)) e4
    ∙ ap (λ (x : Bool). rule_by (not a') (not b') c' (not d' && not x)) e5

pub rule_is : (plan : Plan) (lines : List RecordedLine) (pool : ℕ) (handlers : Handlers) → AreHandlersOf lines handlers → (name : List ℕ) (aborts caller_runs closes drops got unclaimed : Bool)
    → name ≡ (pool_at plan pool).name → aborts ≡ has_name handlers.not_abort name → caller_runs ≡ has_name handlers.not_caller_runs name → closes ≡ has_name handlers.shut name → drops ≡ has_name handlers.not_discard name → got ≡ is_got plan pool → unclaimed ≡ (not drops && not got)
    → rule_by (not aborts) (not caller_runs) closes unclaimed ≡ rule_for plan lines pool
unfolding rule_for has_handler is_shut
rule_is plan lines pool handlers are name aborts caller_runs closes drops got unclaimed named e1 e2 e3 e4 e5 e6 =
    ap (rule_by (not aborts) (not caller_runs) closes) e6
    ∙ same_rule aborts _ caller_runs _ closes _ drops _ got _ (e1 ∙ are.not_abort name) (e2 ∙ are.not_caller_runs name) (e3 ∙ are.shut name) (e4 ∙ are.not_discard name) e5
    ∙ ap (λ (n : List ℕ). rule_by (has_handler lines is_abort n) (has_handler lines is_caller_runs n) (is_shut lines n) (has_handler lines is_discard n && not (is_got plan pool))) named

pub rule_if : (plan : Plan) (lines : List RecordedLine) (pool : ℕ) → can_reject (pool_at plan pool) ≡ true → rule_for plan lines pool ≡ rule_of plan lines pool
rule_if plan lines pool may = ap (λ (b : Bool). if b then rule_for plan lines pool else rule.Never) (sym may)

pub no_rule_if : (plan : Plan) (lines : List RecordedLine) (pool : ℕ) → can_reject (pool_at plan pool) ≡ false → rule.Never ≡ rule_of plan lines pool
no_rule_if plan lines pool may = ap (λ (b : Bool). if b then rule_for plan lines pool else rule.Never) (sym may)

pub allowed_is : (by by' : RejectionRule) (acted acted' started started' closed : Bool) → by ≡ by' → acted ≡ acted' → started ≡ started' → is_allowed_by by acted started closed ≡ is_allowed_by by' acted' started' closed
allowed_is by by' acted acted' started started' closed e1 e2 e3 =
    ap (λ (r : RejectionRule). is_allowed_by r acted started closed) e1 ∙ ap (λ (a : Bool). is_allowed_by by' a started closed) e2 ∙ ap (λ (s : Bool). is_allowed_by by' acted' s closed) e3

-- ---- the rules of all pools
-- The list has the rules of the first `count` pools.
pub record AreFirstRules (plan : Plan) (lines : List RecordedLine) (count : ℕ) (rules : List RejectionRule) : Type 0 where
  pub long : length rules ≡ count
  pub rules_so : (pool : ℕ) → pool < count → get_or rules pool rule.Never ≡ rule_of plan lines pool

pub no_rules : (plan : Plan) (lines : List RecordedLine) (rules : List RejectionRule) → rules ≡ [] → AreFirstRules plan lines 0 rules
no_rules plan lines rules none = record { long = ap length none; rules_so = λ pool below. absurd (omega (arith, below)) }

rule_if_new : (plan : Plan) (lines : List RecordedLine) (count : ℕ) (rules : List RejectionRule) (one : RejectionRule) (pool : ℕ) → AreFirstRules plan lines count rules → one ≡ rule_of plan lines count → pool < count + 1 → (pool < count) ⊎ (count ≤ pool)
    → get_or (rules ++ one ∷ []) pool rule.Never ≡ rule_of plan lines pool
rule_if_new plan lines count rules one pool are is below (inl early) = get_or_append_left rules (one ∷ []) rule.Never pool (omega (arith, early, are.long)) ∙ are.rules_so pool early
rule_if_new plan lines count rules one pool are is below (inr late) =
    let same : count ≡ pool = omega (arith, below, late) in
    get_or_push rules one rule.Never pool (are.long ∙ same) ∙ is ∙ ap (rule_of plan lines) same

pub one_rule : (plan : Plan) (lines : List RecordedLine) (count : ℕ) (rules : List RejectionRule) (one : RejectionRule) → AreFirstRules plan lines count rules → one ≡ rule_of plan lines count → AreFirstRules plan lines (count + 1) (rules ++ one ∷ [])
one_rule plan lines count rules one are is = record {
  long = let grown = length_push rules one in let long = are.long in omega (arith, grown, long);
  rules_so = λ pool below. rule_if_new plan lines count rules one pool are is below (cases_lt pool count);
}

no_pool_past : (plan : Plan) (lines : List RecordedLine) (pool : ℕ) → length plan.pools ≤ pool → rule_of plan lines pool ≡ rule.Never
no_pool_past plan lines pool past = ap (λ (one : Pool). if can_reject one then rule_for plan lines pool else rule.Never) (get_or-eq_default plan.pools no_pool past)

all_if : (plan : Plan) (lines : List RecordedLine) (count : ℕ) (rules : List RejectionRule) (pool : ℕ) → AreFirstRules plan lines count rules → length plan.pools ≤ count → (pool < count) ⊎ (count ≤ pool) → get_or rules pool rule.Never ≡ rule_of plan lines pool
all_if plan lines count rules pool are past (inl early) = are.rules_so pool early
all_if plan lines count rules pool are past (inr late) =
    get_or-eq_default rules rule.Never (let long = are.long in omega (arith, late, long)) ∙ sym (no_pool_past plan lines pool (omega (arith, past, late)))

pub all_rules : (plan : Plan) (lines : List RecordedLine) (count : ℕ) (rules : List RejectionRule) → AreFirstRules plan lines count rules → length plan.pools ≤ count → AreRules plan lines rules
all_rules plan lines count rules are past = λ pool. all_if plan lines count rules pool are past (cases_lt pool count)
