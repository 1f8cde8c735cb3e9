-- The definitions that a proof unfolds to compute the certificate of a literal text, or the text of a literal certificate.
use Rattle.std.specs.Prelude.{⊤}
use Rattle.std.specs.Fmt.{digits}
use Rattle.std.specs.Str.{chars, is_utf8}
use Rattle.serde_json.proofs.OnLiterals.{serde_json_on_literals}
use Rattle.cert_text.specs.Values.{elements_of, check_keys}
use Rattle.cert_text.specs.Version.{version_of}
use Rattle.cert_text.specs.Vectors.{numbers_of, class_rows, client_rows, vector_of}
use Rattle.cert_text.specs.Shape.{standing_of, lifetime_of, no_bound_of, pool_of, pools_of, ranks_of, shape_of}
use Rattle.cert_text.specs.Sizes.{cert_has_small_numbers}
use Rattle.cert_text.specs.CertOf.{document_of, cert_of_value, cert_of}
use Rattle.cert_text.specs.CertText.{vector_data, bounded_data, ranks_data, cert_data}

unfoldable pub cert_on_literals : ⊤
unfolding serde_json_on_literals digits chars is_utf8 elements_of check_keys version_of numbers_of class_rows client_rows vector_of standing_of lifetime_of no_bound_of pool_of pools_of ranks_of shape_of cert_has_small_numbers document_of cert_of_value cert_of vector_data bounded_data ranks_data cert_data
cert_on_literals = tt
