-- The stored names of pools after one more name.
use Rattle.std.proofs.Common.{◌≡◌, ◌||◌, Bool, true, false, cond, refl, ap, ◌∙◌}

or_more : (a c s : Bool) → (a || cond s true c) ≡ ((a || c) || s)
or_more true c s = refl
or_more false true true = refl
or_more false true false = refl
or_more false false true = refl
or_more false false false = refl

-- whether `others` has a name now, from whether it had the name before (c) and whether the name is the new one (s)
pub named_other : (a c s now : Bool) → now ≡ cond s true c → (a || now) ≡ ((a || c) || s)
named_other a c s now is = ap (λ b. a || b) is ∙ or_more a c s
