use Rattle.std.proofs.Common.{◌≡◌, true, vec_len}
use Rattle.std.specs.Prelude.{vec_capacity}
use Rattle.std.specs.List.{list_all}
use Rattle.weights.specs.Vector.{is_small}
use Rattle.cert_text.specs.CertText.{number_data}
use Rattle.cert_text.proofs.Prefixes.{BeginsList}
use Rattle.cert_text.proofs.canonical_numbers.parse_numbers.Given as goal

abbrev pub invariant-loop-place : goal.invariant-loop-place
invariant-loop-place l = record {
  begins : BeginsList number_data l.text l.numbers.items l.place l.rest;
  small : list_all is_small l.numbers.items ≡ true;
  len : vec_len l.numbers ≡ l.place;
  room : vec_capacity l.numbers ≡ l.count;
}
