-- Proofs that a text in canonical form is read as the certificate from which it was written.
use Rattle.std.proofs.Common.{◌≡◌, ℕ, ◌^◌, ◌<◌, ◌≤◌, ◌&&◌, true, List, [], ◌∷◌, ◌++◌, length, length-append, append-nil, codes, Option, Some, None, Ok, refl, sym, ap, subst, ◌∙◌, arith}
use Rattle.std.specs.List.{list_all}
use Rattle.std.specs.Str.{is_utf8}
use Rattle.std.proofs.lemmas.Bool.{and_parts, leb-true}
use Rattle.std.proofs.lemmas.Str.{IsUtf8-append, is_utf8-from_IsUtf8}
use Rattle.json.proofs.Printed.Utf8.{IsUtf8-are_ascii}
use Rattle.serde_json.specs.Read.{read}
use Rattle.serde_json.proofs.OnLiterals.{serde_json_on_literals}
use Rattle.job_bodies.specs.Plan.{Plan}
use Rattle.job_bodies.specs.declared.limits.TheConstants.{MAX_WEIGHT, MAX_CERT_BYTES}
use Rattle.weights.specs.declared.bound.Bound.{Bound}
use Rattle.weights.specs.declared.bound.Bound.TheVariants.{Standing, Lifetime}
use Rattle.weights.specs.Vector.{Vector, is_small, has_small_numbers}
use Rattle.weights.specs.Ranks.{Ranks}
use Rattle.cert_text.specs.Cert.{PoolCert, Cert, cert_fits}
use Rattle.cert_text.specs.Sizes.{bound_has_small_numbers, pool_has_small_numbers, ranks_have_small_numbers, cert_has_small_numbers}
use Rattle.cert_text.specs.CertOf.{cert_of}
use Rattle.cert_text.specs.CertText.{number_data, numbers_data, rows_data, vector_data, bounded_data, pool_data, ranks_data, version_number, cert_data, cert_text}
use Rattle.cert_text.specs.Canonical.{IsCanonical}
use Rattle.cert_text.proofs.Lists.{list_all_place}
use Rattle.cert_text.proofs.Blank.{read_before_blank, blank_is_utf8}
use Rattle.cert_text.proofs.Readable.{IsReadable, IsKey, number_readable, deeper, list_readable, single_readable, pair_readable, triple_readable, text_is_compact, text_reads}
use Rattle.cert_text.proofs.ReadsBack.{fits_small, cert_back}

small_fits : (n : ℕ) → is_small n ≡ true → n < 2 ^ 64
small_fits n small = omega (arith, leb-true n MAX_WEIGHT small)

numbers_readable : (numbers : List ℕ) → list_all is_small numbers ≡ true → IsReadable 1 (numbers_data numbers)
numbers_readable numbers small = list_readable 0 number_data numbers (λ i n here. number_readable 0 n (small_fits n (list_all_place is_small numbers small i n here)))

rows_readable : (rows : List (List ℕ)) → list_all (list_all is_small) rows ≡ true → IsReadable 2 (rows_data rows)
rows_readable rows small = list_readable 1 numbers_data rows (λ i row here. numbers_readable row (list_all_place (list_all is_small) rows small i row here))

-- each key of a certificate satisfies `IsKey`, and the keys are in ascending order
record AreKeys : Type 0 where
  classes : IsKey (codes "classes")
  clients : IsKey (codes "clients")
  workers : IsKey (codes "workers")
  blocked : IsKey (codes "blocked")
  standing : IsKey (codes "standing")
  lifetime : IsKey (codes "lifetime")
  levels : IsKey (codes "levels")
  pools : IsKey (codes "pools")
  reach : IsKey (codes "reach")
  ranks : IsKey (codes "ranks")
  version : IsKey (codes "version")

keys : AreKeys
unfolding serde_json_on_literals
keys = record {
  classes = record { utf8 = IsUtf8-are_ascii _ refl };
  clients = record { utf8 = IsUtf8-are_ascii _ refl };
  workers = record { utf8 = IsUtf8-are_ascii _ refl };
  blocked = record { utf8 = IsUtf8-are_ascii _ refl };
  standing = record { utf8 = IsUtf8-are_ascii _ refl };
  lifetime = record { utf8 = IsUtf8-are_ascii _ refl };
  levels = record { utf8 = IsUtf8-are_ascii _ refl };
  pools = record { utf8 = IsUtf8-are_ascii _ refl };
  reach = record { utf8 = IsUtf8-are_ascii _ refl };
  ranks = record { utf8 = IsUtf8-are_ascii _ refl };
  version = record { utf8 = IsUtf8-are_ascii _ refl };
}

vector_readable : (v : Vector) → has_small_numbers v ≡ true → IsReadable 3 (vector_data v)
unfolding vector_data
vector_readable v small =
    let clients = and_parts (list_all is_small v.workers && list_all (list_all is_small) v.classes) _ small in
    let classes = and_parts (list_all is_small v.workers) _ clients.0 in
    triple_readable 2 _ _ _ _ _ _ keys.classes keys.clients keys.workers (record { order = refl }) (record { order = refl }) (record { order = refl })
    (rows_readable v.classes classes.1) (rows_readable v.clients clients.1) (deeper _ 1 2 (omega arith) (numbers_readable v.workers classes.0))

bounded_readable : (blocked : Vector) (bound : Option Bound) → bound_has_small_numbers bound ≡ true → has_small_numbers blocked ≡ true → IsReadable 4 (bounded_data (vector_data blocked) bound)
unfolding bounded_data
bounded_readable blocked None first second = single_readable 3 _ _ keys.blocked (vector_readable blocked second)
bounded_readable blocked (Some (Standing v)) first second = pair_readable 3 _ _ _ _ keys.blocked keys.standing (record { order = refl }) (vector_readable blocked second) (vector_readable v first)
bounded_readable blocked (Some (Lifetime v)) first second = pair_readable 3 _ _ _ _ keys.blocked keys.lifetime (record { order = refl }) (vector_readable blocked second) (vector_readable v first)

pool_readable : (pool : PoolCert) → pool_has_small_numbers pool ≡ true → IsReadable 4 (pool_data pool)
pool_readable pool small =
    let both = and_parts (bound_has_small_numbers pool.bound) _ small in
    bounded_readable pool.blocked pool.bound both.0 both.1

ranks_readable : (ranks : Ranks) → ranks_have_small_numbers ranks ≡ true → IsReadable 2 (ranks_data ranks)
unfolding ranks_data
ranks_readable ranks small =
    let levels = and_parts (list_all is_small ranks.pools && list_all is_small ranks.reach) _ small in
    let pools = and_parts (list_all is_small ranks.pools) _ levels.0 in
    triple_readable 1 _ _ _ _ _ _ keys.levels keys.pools keys.reach (record { order = refl }) (record { order = refl }) (record { order = refl })
    (numbers_readable ranks.levels levels.1) (numbers_readable ranks.pools pools.0) (numbers_readable ranks.reach pools.1)

version_fits : (cert : Cert) → version_number cert < 2 ^ 64
version_fits cert = grind arith

cert_readable : (cert : Cert) → cert_has_small_numbers cert ≡ true → IsReadable 6 (cert_data cert)
unfolding cert_data cert_has_small_numbers
cert_readable cert small =
    let both = and_parts (list_all pool_has_small_numbers cert.pools) _ small in
    triple_readable 5 _ _ _ _ _ _ keys.pools keys.ranks keys.version (record { order = refl }) (record { order = refl }) (record { order = refl })
    (list_readable 4 pool_data cert.pools (λ i pool here. pool_readable pool (list_all_place pool_has_small_numbers cert.pools both.0 i pool here)))
    (deeper _ 2 5 (omega arith) (ranks_readable cert.ranks both.1))
    (number_readable 5 (version_number cert) (version_fits cert))

pub canonical_back : (plan : Plan) (text : List ℕ) (cert : Cert) → IsCanonical plan text cert → cert_of text plan ≡ Ok cert
canonical_back plan text cert canonical =
    let blank = canonical.is_text.0 in
    let whole : List ℕ = cert_text cert ++ blank in
    let same : text ≡ whole = canonical.is_text.2 in
    let readable = cert_readable cert (fits_small plan cert canonical.fits) in
    let utf8 : is_utf8 whole ≡ true = is_utf8-from_IsUtf8 whole (IsUtf8-append (cert_text cert) blank readable.utf8 (blank_is_utf8 blank canonical.is_text.1)) in
    let reads : read whole ≡ Some (cert_data cert) = read_before_blank (cert_text cert) blank canonical.is_text.1 (text_is_compact 6 _ readable) ∙ text_reads 6 _ (omega arith) readable in
    let short : length whole ≤ MAX_CERT_BYTES = subst (λ (t : List ℕ). length t ≤ MAX_CERT_BYTES) same canonical.short in
    ap (λ (t : List ℕ). cert_of t plan) same ∙ cert_back whole plan cert utf8 reads canonical.fits short

-- the text of a certificate that fits the plan is read as that certificate, with or without a newline after it
pub written_back : (plan : Plan) (text : List ℕ) (cert : Cert) → text ≡ cert_text cert → cert_fits plan cert ≡ true → length text ≤ MAX_CERT_BYTES → cert_of text plan ≡ Ok cert
written_back plan text cert same fits within = canonical_back plan text cert (record { is_text = ([], refl, same ∙ sym (append-nil (cert_text cert))); short = within; fits = fits })

pub line_back : (plan : Plan) (text : List ℕ) (cert : Cert) → text ≡ cert_text cert → cert_fits plan cert ≡ true → length text < MAX_CERT_BYTES → cert_of (text ++ 10 ∷ []) plan ≡ Ok cert
line_back plan text cert same fits within = canonical_back plan (text ++ 10 ∷ []) cert (record {
  is_text = (10 ∷ [], refl, ap (λ (t : List ℕ). t ++ 10 ∷ []) same);
  short = omega (arith, within, length-append text (10 ∷ []));
  fits = fits;
})
