use Rattle.cert_text.proofs.Pushing.{both_pushed}
use Rattle.cert_text.proofs.parts.push_bound.Goals as goal

pub returns-in_ok-push_str-in-Standing : goal.returns-in_ok-push_str-in-Standing
returns-in_ok-push_str-in-Standing c = rw c.in-Standing.is (both_pushed c.push_vector.result _ _ _ _ _ c.in_ok-push_str-in-Standing.ensures.bytes c.push_vector.ensures)

pub returns-in_ok-push_str-in-Lifetime : goal.returns-in_ok-push_str-in-Lifetime
returns-in_ok-push_str-in-Lifetime c = rw c.in-Lifetime.is (both_pushed c.push_vector-in-Lifetime.result _ _ _ _ _ c.in_ok-push_str-in-Lifetime.ensures.bytes c.push_vector-in-Lifetime.ensures)
