use Rattle.std.proofs.Common.{◌≡◌, ◌≤◌, ◌++◌, decimal, length}
use Rattle.job_bodies.specs.declared.limits.TheConstants.{MAX_WEIGHT}
use Rattle.cert_text.proofs.canonical_numbers.parse_number.Given as goal

-- The loop of `parse_number`: the digits read so far are the decimal digits of the value, which is from 1 to the limit.
abbrev pub invariant-digits : goal.invariant-digits
invariant-digits l = record {
  text : l.text ≡ decimal l.value ++ l.rest;
  some : 1 ≤ l.value;
  within : l.value ≤ MAX_WEIGHT;
}

abbrev pub decreases-digits : goal.decreases-digits
decreases-digits l = length l.rest
