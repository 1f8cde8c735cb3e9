-- To test the limits, the number of events capped at the greatest u64 is enough.
use Rattle.std.proofs.Common.{◌≡◌, ◌≤◌, ◌∙◌, ℕ, Bool, false, ◌||◌, nat_lt, inl, inr, sym, ap, arith}
use Rattle.std.proofs.lemmas.Bool.{or_parts, ltb-false, lt-ltb, le-ltb, cases_lt}
use Rattle.job_bodies.specs.Plan.{Plan}
use Rattle.weights.specs.Ranks.{Ranks}
use Rattle.locked_runner.specs.RunNumbers.{most_events, capped}
use Rattle.locked_runner.specs.Limits.{may_reject, clients, workers, exceeds_limits, is_too_large}

more_capped : (n : ℕ) → nat_lt 1000000 (capped n) ≡ nat_lt 1000000 n
more_capped n = elim (cases_lt 1000000 n) [
  | inl more ↦ lt-ltb 1000000 (capped n) (omega arith) ∙ sym (lt-ltb 1000000 n more)
  | inr within ↦ le-ltb 1000000 (capped n) (omega arith) ∙ sym (le-ltb 1000000 n within)
]

-- the test of the limits with the capped number of events has the same result as with the number itself
pub passed : (plan : Plan) (ranks : Ranks) (rounds events : ℕ) (answer found : Bool) → events ≡ capped (most_events plan ranks rounds) → found ≡ exceeds_limits plan events → found ≡ answer → is_too_large plan ranks rounds ≡ answer
passed plan ranks rounds events answer found is tested says =
    sym (ap (λ (b : Bool). may_reject plan || nat_lt 64 (clients plan) || nat_lt 64 (workers plan) || b) (more_capped (most_events plan ranks rounds)))
    ∙ (ap (exceeds_limits plan) (sym is) ∙ (sym tested ∙ says))

pub few_events : (plan : Plan) (ranks : Ranks) (rounds : ℕ) → is_too_large plan ranks rounds ≡ false → most_events plan ranks rounds ≤ 1000000
few_events plan ranks rounds not =
    let n = most_events plan ranks rounds in
    ltb-false 1000000 n (or_parts (may_reject plan || nat_lt 64 (clients plan) || nat_lt 64 (workers plan)) (nat_lt 1000000 n) not).1
