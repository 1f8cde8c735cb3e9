use Rattle.std.proofs.Common.{◌≡◌, true, length, map}
use Rattle.std.specs.List.{list_all}
use Rattle.job_bodies.proofs.Passing.{EachPlace}
use Rattle.weights.specs.Vector.{is_small}
use Rattle.cert_text.specs.Vectors.{client_points}
use Rattle.cert_text.specs.CertText.{numbers_data}
use Rattle.cert_text.proofs.Prefixes.{BeginsList}
use Rattle.cert_text.proofs.canonical_vectors.parse_client_rows.Given as goal

abbrev pub invariant-loop-place : goal.invariant-loop-place
invariant-loop-place l =
    let rows = map (λ row. row.items) l.rows.items in
    record {
      begins : BeginsList numbers_data l.text rows l.place l.rest;
      long : EachPlace rows (λ place row. length row ≡ client_points l.plan place);
      small : list_all (list_all is_small) rows ≡ true;
    }
