-- Proofs that the text of a certificate contains no `%`.
use Rattle.std.proofs.Common.{◌≡◌, ℕ, zero, suc, ◌+◌, ◌/◌, ◌%◌, if◌then◌else◌, Bool, true, false, nat_eq, ◌==◌, List, [], ◌∷◌, ◌++◌, map, Option, Some, None, codes, decimal, refl, arith}
use Rattle.std.specs.Fmt.{digit_glyph, digits_onto, digits}
use Rattle.std.proofs.lemmas.Bool.{lt-ltb, ne_eqb}
use Rattle.std.proofs.lemmas.List.Folds.{list_any-append}
use Rattle.json.specs.Print.{quoted}
use Rattle.serde_json.specs.Data.{Data, object, member, no_members}
use Rattle.serde_json.specs.View.{items_of}
use Rattle.serde_json.specs.Written.{comma_if, compact_text, items_text, members_text}
use Rattle.serde_json.proofs.OnLiterals.{serde_json_on_literals}
use Rattle.weights.specs.declared.bound.Bound.{Bound}
use Rattle.weights.specs.declared.bound.Bound.TheVariants.{Standing, Lifetime}
use Rattle.weights.specs.Vector.{Vector}
use Rattle.weights.specs.Ranks.{Ranks}
use Rattle.cert_text.specs.Cert.{PoolCert, Cert}
use Rattle.cert_text.specs.CertText.{number_data, list_data, numbers_data, rows_data, vector_data, bounded_data, pool_data, ranks_data, version_number, cert_data, cert_text, has_percent}

-- the text contains no `%`
record IsBare (text : List ℕ) : Type 0 where
  bare : has_percent text ≡ false

-- the text of the value contains no `%`
record IsBareData (d : Data) : Type 0 where
  text : IsBare (compact_text d)

record IsBareKey (key : List ℕ) : Type 0 where
  text : IsBare (quoted key)

both_bare : (prefix back : List ℕ) → IsBare prefix → IsBare back → IsBare (prefix ++ back)
both_bare prefix back first second = record { bare = rw (list_any-append (nat_eq 37) prefix back, first.bare, second.bare) refl }

glyph_bare : (n : ℕ) → nat_eq 37 (digit_glyph false (n % 10)) ≡ false
glyph_bare n = rw (lt-ltb (n % 10) 10 (omega arith)) (ne_eqb 37 (48 + n % 10) (λ e. omega arith))

digits_bare : (k n : ℕ) (text : List ℕ) → has_percent text ≡ false → has_percent (digits_onto k 10 false n text) ≡ false
digits_bare zero n text bare = bare
digits_bare (suc k) n text bare =
    let glyph = digit_glyph false (n % 10) in
    let more : has_percent (glyph ∷ text) ≡ false = rw (glyph_bare n) bare in
    elim (n / 10 == 0) as (λ b. has_percent (if b then glyph ∷ text else digits_onto k 10 false (n / 10) (glyph ∷ text)) ≡ false) [
      | true ↦ more
      | false ↦ digits_bare k (n / 10) (glyph ∷ text) more
    ]

decimal_bare : (n : ℕ) → has_percent (decimal n) ≡ false
unfolding digits
decimal_bare n = digits_bare 64 n [] refl

number_bare : (n : ℕ) → IsBareData (number_data n)
number_bare n = record { text = record { bare = decimal_bare n } }

comma_bare : (later : Bool) → IsBare (comma_if later)
comma_bare true = record { bare = refl }
comma_bare false = record { bare = refl }

elements_bare : {X : Type 0} (f : X → Data) (later : Bool) (xs : List X) → ((x : X) → IsBareData (f x)) → IsBare (items_text later (items_of (map f xs)))
elements_bare f later [] each = record { bare = refl }
elements_bare f later (x ∷ xs) each = both_bare (comma_if later) _ (comma_bare later) (both_bare (compact_text (f x)) _ (each x).text (elements_bare f true xs each))

list_bare : {X : Type 0} (f : X → Data) (xs : List X) → ((x : X) → IsBareData (f x)) → IsBareData (list_data (map f xs))
list_bare f xs each = record { text = record { bare = (elements_bare f false xs each).bare } }

numbers_bare : (numbers : List ℕ) → IsBareData (numbers_data numbers)
numbers_bare numbers = list_bare number_data numbers number_bare

rows_bare : (rows : List (List ℕ)) → IsBareData (rows_data rows)
rows_bare rows = list_bare numbers_data rows numbers_bare

-- the text of a member contains no `%` if the texts of its key, of its value and of what surrounds them contain none
member_bare : (prefix key : List ℕ) (d : Data) (rest : List ℕ) → IsBare prefix → IsBareKey key → IsBareData d → IsBare rest → IsBare (prefix ++ (quoted key ++ 58 ∷ (compact_text d ++ rest)))
member_bare prefix key d rest before name here remaining =
    let tail : IsBare (58 ∷ (compact_text d ++ rest)) = record { bare = (both_bare (compact_text d) rest here.text remaining).bare } in
    both_bare prefix _ before (both_bare (quoted key) _ name.text tail)

nothing_bare : IsBare []
nothing_bare = record { bare = refl }

end_bare : IsBare (125 ∷ [])
end_bare = record { bare = refl }

single_bare : (j : List ℕ) (d : Data) → IsBareKey j → IsBareData d → IsBareData (object (member j d no_members))
single_bare j d j_bare only =
    let inside : IsBare (members_text false (member j d no_members)) = member_bare [] j d _ nothing_bare j_bare only end_bare in
    record { text = record { bare = inside.bare } }

pair_bare : (j k : List ℕ) (d e : Data) → IsBareKey j → IsBareKey k → IsBareData d → IsBareData e → IsBareData (object (member j d (member k e no_members)))
pair_bare j k d e j_bare k_bare first second =
    let inside : IsBare (members_text false (member j d (member k e no_members))) =
    member_bare [] j d _ nothing_bare j_bare first (member_bare (44 ∷ []) k e _ (comma_bare true) k_bare second end_bare) in
    record { text = record { bare = inside.bare } }

triple_bare : (j k l : List ℕ) (d e f : Data) → IsBareKey j → IsBareKey k → IsBareKey l → IsBareData d → IsBareData e → IsBareData f → IsBareData (object (member j d (member k e (member l f no_members))))
triple_bare j k l d e f j_bare k_bare l_bare first second third =
    let inside : IsBare (members_text false (member j d (member k e (member l f no_members)))) =
    member_bare [] j d _ nothing_bare j_bare first (member_bare (44 ∷ []) k e _ (comma_bare true) k_bare second (member_bare (44 ∷ []) l f _ (comma_bare true) l_bare third end_bare)) in
    record { text = record { bare = inside.bare } }

-- the texts of the keys of certificates contain no `%`
record AreBareKeys : Type 0 where
  classes : IsBareKey (codes "classes")
  clients : IsBareKey (codes "clients")
  workers : IsBareKey (codes "workers")
  blocked : IsBareKey (codes "blocked")
  standing : IsBareKey (codes "standing")
  lifetime : IsBareKey (codes "lifetime")
  levels : IsBareKey (codes "levels")
  pools : IsBareKey (codes "pools")
  reach : IsBareKey (codes "reach")
  ranks : IsBareKey (codes "ranks")
  version : IsBareKey (codes "version")

keys : AreBareKeys
unfolding serde_json_on_literals
keys = record {
  classes = record { text = record { bare = refl } };
  clients = record { text = record { bare = refl } };
  workers = record { text = record { bare = refl } };
  blocked = record { text = record { bare = refl } };
  standing = record { text = record { bare = refl } };
  lifetime = record { text = record { bare = refl } };
  levels = record { text = record { bare = refl } };
  pools = record { text = record { bare = refl } };
  reach = record { text = record { bare = refl } };
  ranks = record { text = record { bare = refl } };
  version = record { text = record { bare = refl } };
}

vector_bare : (v : Vector) → IsBareData (vector_data v)
unfolding vector_data
vector_bare v = triple_bare _ _ _ _ _ _ keys.classes keys.clients keys.workers (rows_bare v.classes) (rows_bare v.clients) (numbers_bare v.workers)

bounded_bare : (blocked : Vector) (bound : Option Bound) → IsBareData (bounded_data (vector_data blocked) bound)
unfolding bounded_data
bounded_bare blocked None = single_bare _ _ keys.blocked (vector_bare blocked)
bounded_bare blocked (Some (Standing v)) = pair_bare _ _ _ _ keys.blocked keys.standing (vector_bare blocked) (vector_bare v)
bounded_bare blocked (Some (Lifetime v)) = pair_bare _ _ _ _ keys.blocked keys.lifetime (vector_bare blocked) (vector_bare v)

pool_bare : (pool : PoolCert) → IsBareData (pool_data pool)
pool_bare pool = bounded_bare pool.blocked pool.bound

ranks_bare : (ranks : Ranks) → IsBareData (ranks_data ranks)
unfolding ranks_data
ranks_bare ranks = triple_bare _ _ _ _ _ _ keys.levels keys.pools keys.reach (numbers_bare ranks.levels) (numbers_bare ranks.pools) (numbers_bare ranks.reach)

pub cert_bare : (cert : Cert) → has_percent (cert_text cert) ≡ false
unfolding cert_data
cert_bare cert = (triple_bare _ _ _ _ _ _ keys.pools keys.ranks keys.version (list_bare pool_data cert.pools pool_bare) (ranks_bare cert.ranks) (number_bare (version_number cert))).text.bare
