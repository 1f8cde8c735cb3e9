use Rattle.std.proofs.Common.{ℕ, ap, ◌∙◌, ◌+◌, arith}
use Rattle.weights.specs.Vector.{is_small}
use Rattle.cert_text.specs.CertText.{number_data}
use Rattle.cert_text.proofs.Lists.{list_all_push}
use Rattle.cert_text.proofs.Prefixes.{list_more, list_whole}
use Rattle.cert_text.proofs.canonical_numbers.parse_numbers.Goals as goal

pub loop-place-preserved : goal.loop-place-preserved
loop-place-preserved c = record {
  begins = rw c.push_reserved.ensures.items (list_more number_data _ _ _ _ _ _ _ c.loop-place.invariant.begins c.in_ok-element.ensures c.in_ok-number.ensures.text);
  small = rw c.push_reserved.ensures.items (list_all_push is_small c.loop-place.numbers.items c.in_ok-number.number c.loop-place.invariant.small c.in_ok-number.ensures.small);
  len = c.push_reserved.ensures.len ∙ ap (λ (n : ℕ). n + 1) c.loop-place.invariant.len;
  room = c.push_reserved.ensures.capacity ∙ c.loop-place.invariant.room;
}

pub returns-clause-text : goal.returns-clause-text
returns-clause-text c = list_whole number_data _ _ _ _ _ c.loop-place.invariant.begins c.in_ok-strip_byte.ensures

pub returns-clause-count : goal.returns-clause-count
returns-clause-count c = omega (arith, c.loop-place.invariant.begins.as_many)
