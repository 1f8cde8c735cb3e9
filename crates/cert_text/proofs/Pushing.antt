-- Lemmas about lists and objects that are appended to a text, part by part.
use Rattle.std.proofs.Common.{◌≡◌, ℕ, ◌≤◌, Option, Some, None, Result, Ok, Err, OnOk, is_ok, cond, Bool, List, [], ◌∷◌, ◌++◌, length, map, drop, codes, decimal, refl, sym, ap, ◌∙◌, append_assoc, append-nil}
use Rattle.std.proofs.lemmas.List.{at_drop_all}
use Rattle.serde_json.specs.Data.{Data, object, member, no_members}
use Rattle.serde_json.specs.View.{items_of}
use Rattle.serde_json.specs.Written.{compact_text, items_text}
use Rattle.serde_json.proofs.OnLiterals.{serde_json_on_literals}
use Rattle.weights.specs.declared.bound.Bound.{Bound}
use Rattle.weights.specs.declared.bound.Bound.TheVariants.{Standing, Lifetime}
use Rattle.weights.specs.Vector.{Vector}
use Rattle.weights.specs.Ranks.{Ranks}
use Rattle.cert_text.specs.Cert.{PoolCert, Cert}
use Rattle.cert_text.specs.CertText.{number_data, list_data, numbers_data, rows_data, vector_data, bounded_data, pool_data, ranks_data, version_number, cert_data, cert_text}
use Rattle.cert_text.specs.Canonical.{bound_text, version_text}
use Rattle.cert_text.proofs.Prefixes.{first_key, next_key}

-- the text of the elements from index i on, with the closing bracket
abbrev rest_text : {X : Type 0} → (X → Data) → List X → ℕ → Bool → List ℕ
rest_text made xs i later = items_text later (items_of (map made (drop i xs)))

-- the text so far, followed by the text of the elements from index i on, is the whole text
pub record Grows {X : Type 0} (made : X → Data) (xs : List X) (i : ℕ) (later : Bool) (text whole : List ℕ) : Type 0 where
  pub rest : text ++ rest_text made xs i later ≡ whole

-- the text is the whole text after the closing bracket is appended
pub list_pushed : {X T E : Type 0} (r : Result T E) (made : X → Data) (xs : List X) (i : ℕ) (later : Bool) (text whole end new : List ℕ) → length xs ≤ i → Grows made xs i later text whole → end ≡ 93 ∷ []
    → new ≡ cond (is_ok r) (text ++ end) text → OnOk r (new ≡ whole)
list_pushed (Ok x) made xs i later text whole end new past prior is_end pushed =
    pushed ∙ (ap (λ (t : List ℕ). text ++ t) (is_end ∙ sym (at_drop_all (λ (ys : List _). items_text later (items_of (map made ys))) xs i past)) ∙ prior.rest)
list_pushed (Err e) made xs i later text whole end new past prior is_end pushed = tt

-- appending two texts in order is appending the joined text
pub both_pushed : {T E : Type 0} (r : Result T E) (old middle new first second : List ℕ) → middle ≡ old ++ first → OnOk r (new ≡ middle ++ second) → OnOk r (new ≡ old ++ (first ++ second))
both_pushed (Ok x) old middle new first second is_first is_second = is_second ∙ (ap (λ (t : List ℕ). t ++ second) is_first ∙ append_assoc old first second)
both_pushed (Err e) old middle new first second is_first is_second = tt

-- an object of three keys is appended if its parts are appended in order
triple_parts : (j k l : List ℕ) (d e f : Data) (old at_d after_d at_e after_e at_f after_f : List ℕ) → at_d ≡ old ++ first_key j → after_d ≡ at_d ++ compact_text d → at_e ≡ after_d ++ next_key k
    → after_e ≡ at_e ++ compact_text e → at_f ≡ after_e ++ next_key l → after_f ≡ at_f ++ compact_text f → after_f ++ 125 ∷ [] ≡ old ++ compact_text (object (member j d (member k e (member l f no_members))))
triple_parts j k l d e f old at_d after_d at_e after_e at_f after_f a b c p q s = simp (a, b, c, p, q, s, append_assoc)

-- an object of two keys is appended if its parts are appended in order, the second key together with its value
pair_parts : (j k : List ℕ) (d e : Data) (old at_d after_d after_e : List ℕ) → at_d ≡ old ++ first_key j → after_d ≡ at_d ++ compact_text d → after_e ≡ after_d ++ (next_key k ++ compact_text e)
    → after_e ++ 125 ∷ [] ≡ old ++ compact_text (object (member j d (member k e no_members)))
pair_parts j k d e old at_d after_d after_e a b c = simp (a, b, c, append_assoc)

-- an object of one key is appended if its parts are appended in order
single_parts : (j : List ℕ) (d : Data) (old at_d after_d : List ℕ) → at_d ≡ old ++ first_key j → after_d ≡ at_d ++ compact_text d → after_d ++ 125 ∷ [] ≡ old ++ compact_text (object (member j d no_members))
single_parts j d old at_d after_d a b = simp (a, b, append_assoc)

-- the text is the whole text after the closing brace is appended
closed : {T E : Type 0} (r : Result T E) (text whole end new : List ℕ) → text ++ 125 ∷ [] ≡ whole → end ≡ 125 ∷ [] → new ≡ cond (is_ok r) (text ++ end) text → OnOk r (new ≡ whole)
closed (Ok x) text whole end new all is_end pushed = pushed ∙ (ap (λ (t : List ℕ). text ++ t) is_end ∙ all)
closed (Err e) text whole end new all is_end pushed = tt

pub vector_pushed : {T E : Type 0} (r : Result T E) (v : Vector) (old at_classes after_classes at_clients after_clients at_workers after_workers end new : List ℕ) → at_classes ≡ old ++ codes "{\"classes\":"
    → after_classes ≡ at_classes ++ compact_text (rows_data v.classes) → at_clients ≡ after_classes ++ codes ",\"clients\":" → after_clients ≡ at_clients ++ compact_text (rows_data v.clients)
    → at_workers ≡ after_clients ++ codes ",\"workers\":" → after_workers ≡ at_workers ++ compact_text (numbers_data v.workers) → end ≡ 125 ∷ [] → new ≡ cond (is_ok r) (after_workers ++ end) after_workers
    → OnOk r (new ≡ old ++ compact_text (vector_data v))
unfolding vector_data serde_json_on_literals
vector_pushed r v old at_classes after_classes at_clients after_clients at_workers after_workers end new a b c d e f is_end pushed =
    closed r after_workers _ end new
    (triple_parts (codes "classes") (codes "clients") (codes "workers") (rows_data v.classes) (rows_data v.clients) (numbers_data v.workers) old at_classes after_classes at_clients after_clients at_workers after_workers a b c d e f)
    is_end pushed

pub ranks_pushed : {T E : Type 0} (r : Result T E) (ranks : Ranks) (old at_levels after_levels at_pools after_pools at_reach after_reach end new : List ℕ) → at_levels ≡ old ++ codes "{\"levels\":"
    → after_levels ≡ at_levels ++ compact_text (numbers_data ranks.levels) → at_pools ≡ after_levels ++ codes ",\"pools\":" → after_pools ≡ at_pools ++ compact_text (numbers_data ranks.pools)
    → at_reach ≡ after_pools ++ codes ",\"reach\":" → after_reach ≡ at_reach ++ compact_text (numbers_data ranks.reach) → end ≡ 125 ∷ [] → new ≡ cond (is_ok r) (after_reach ++ end) after_reach
    → OnOk r (new ≡ old ++ compact_text (ranks_data ranks))
unfolding ranks_data serde_json_on_literals
ranks_pushed r ranks old at_levels after_levels at_pools after_pools at_reach after_reach end new a b c d e f is_end pushed =
    closed r after_reach _ end new
    (triple_parts (codes "levels") (codes "pools") (codes "reach") (numbers_data ranks.levels) (numbers_data ranks.pools) (numbers_data ranks.reach) old at_levels after_levels at_pools after_pools at_reach after_reach a b c d e f)
    is_end pushed

pool_parts : (blocked : Vector) (bound : Option Bound) (old at_blocked after_blocked after_bound : List ℕ) → at_blocked ≡ old ++ codes "{\"blocked\":" → after_blocked ≡ at_blocked ++ compact_text (vector_data blocked)
    → after_bound ≡ after_blocked ++ bound_text bound → after_bound ++ 125 ∷ [] ≡ old ++ compact_text (bounded_data (vector_data blocked) bound)
unfolding bounded_data serde_json_on_literals
pool_parts blocked None old at_blocked after_blocked after_bound a b c = single_parts (codes "blocked") (vector_data blocked) old at_blocked after_bound a (c ∙ append-nil after_blocked ∙ b)
pool_parts blocked (Some (Standing v)) old at_blocked after_blocked after_bound a b c = pair_parts (codes "blocked") (codes "standing") (vector_data blocked) (vector_data v) old at_blocked after_blocked after_bound a b c
pool_parts blocked (Some (Lifetime v)) old at_blocked after_blocked after_bound a b c = pair_parts (codes "blocked") (codes "lifetime") (vector_data blocked) (vector_data v) old at_blocked after_blocked after_bound a b c

pub pool_pushed : {T E : Type 0} (r : Result T E) (pool : PoolCert) (old at_blocked after_blocked after_bound end new : List ℕ) → at_blocked ≡ old ++ codes "{\"blocked\":"
    → after_blocked ≡ at_blocked ++ compact_text (vector_data pool.blocked) → after_bound ≡ after_blocked ++ bound_text pool.bound → end ≡ 125 ∷ [] → new ≡ cond (is_ok r) (after_bound ++ end) after_bound
    → OnOk r (new ≡ old ++ compact_text (pool_data pool))
pool_pushed r pool old at_blocked after_blocked after_bound end new a b c is_end pushed = closed r after_bound _ end new (pool_parts pool.blocked pool.bound old at_blocked after_blocked after_bound a b c) is_end pushed

pub version_pushed : {T E : Type 0} (r : Result T E) (cert : Cert) (old at_version strip_version end new : List ℕ) → at_version ≡ old ++ codes ",\"version\":" → strip_version ≡ at_version ++ decimal (version_number cert)
    → end ≡ 125 ∷ [] → new ≡ cond (is_ok r) (strip_version ++ end) strip_version → OnOk r (new ≡ old ++ version_text cert)
version_pushed r cert old at_version strip_version end new a b is_end pushed = closed r strip_version _ end new (together (codes ",\"version\":") (decimal (version_number cert)) old at_version strip_version a b) is_end pushed
  where
    together : (key value old at_value remaining : List ℕ) → at_value ≡ old ++ key → remaining ≡ at_value ++ value → remaining ++ 125 ∷ [] ≡ old ++ (key ++ (value ++ 125 ∷ []))
    together key value old at_value remaining a b = simp (a, b, append_assoc)

cert_parts : (cert : Cert) (old at_pools after_pools at_ranks after_ranks : List ℕ) → at_pools ≡ old ++ codes "{\"pools\":" → after_pools ≡ at_pools ++ compact_text (list_data (map pool_data cert.pools))
    → at_ranks ≡ after_pools ++ codes ",\"ranks\":" → after_ranks ≡ at_ranks ++ compact_text (ranks_data cert.ranks) → after_ranks ++ version_text cert ≡ old ++ cert_text cert
unfolding cert_data serde_json_on_literals
cert_parts cert old at_pools after_pools at_ranks after_ranks a b c d =
    let version = decimal (version_number cert) in
    let key = codes ",\"version\":" in
    sym (append_assoc after_ranks key (version ++ 125 ∷ []))
    ∙ (sym (append_assoc (after_ranks ++ key) version (125 ∷ []))
    ∙ triple_parts (codes "pools") (codes "ranks") (codes "version") (list_data (map pool_data cert.pools)) (ranks_data cert.ranks) (number_data (version_number cert))
    old at_pools after_pools at_ranks after_ranks (after_ranks ++ key) ((after_ranks ++ key) ++ version) a b c d refl refl)

pub cert_pushed : {T E : Type 0} (r : Result T E) (cert : Cert) (old at_pools after_pools at_ranks after_ranks new : List ℕ) → at_pools ≡ old ++ codes "{\"pools\":"
    → after_pools ≡ at_pools ++ compact_text (list_data (map pool_data cert.pools)) → at_ranks ≡ after_pools ++ codes ",\"ranks\":" → after_ranks ≡ at_ranks ++ compact_text (ranks_data cert.ranks)
    → OnOk r (new ≡ after_ranks ++ version_text cert) → OnOk r (new ≡ old ++ cert_text cert)
cert_pushed (Ok x) cert old at_pools after_pools at_ranks after_ranks new a b c d pushed = pushed ∙ cert_parts cert old at_pools after_pools at_ranks after_ranks a b c d
cert_pushed (Err e) cert old at_pools after_pools at_ranks after_ranks new a b c d pushed = tt
