-- Lemmas about a property of each element of a list and its index, after one more element.
use Rattle.std.proofs.Common.{◌≡◌, ◌<◌, ◌+◌, ℕ, zero, suc, List, [], ◌∷◌, ◌++◌, length, get_or, slice_get, Some, take, string_bytes, ap, ◌∙◌, sym, subst, arith}
use Rattle.std.specs.List.{All}
use Rattle.std.specs.Option.{option_map}
use Rattle.std.proofs.Math.Seq.{take-append_seam}
use Rattle.std.proofs.lemmas.List.{get_or-map, length-map, map-append}
use Rattle.std.proofs.lemmas.List.Elements.{All-map}
use Rattle.std.proofs.lemmas.Option.{slice_get-map, slice_get-get_or}
use Rattle.job_bodies.specs.Plan.{Client}
use Rattle.conformance.specs.Family.{IsOfFamily}
use Rattle.recordings.specs.RecordingLine.{RecordedLine}
use Rattle.learning.specs.declared.entries.Entry.{Entry}
use Rattle.learning.specs.declared.inference_limit.InferenceLimit.TheVariants.{Kinds}
use Rattle.learning.specs.Counts.{client_names}
use Rattle.learning.specs.LearningState.{IsEntryOf, names_of}
use Rattle.learning.specs.Names.{HasBegun, IsNamedClient}

one_of_one : {X : Type 0} (x y : X) → Some x ≡ Some y → x ≡ y
one_of_one x y same = grind (arith, same)

pub pushed : {X : Type 0} (P : ℕ → X → Type 0) (items : List X) (item : X) → ((n : ℕ) (one : X) → slice_get items n ≡ Some one → P n one) → P (length items) item
    → (n : ℕ) (one : X) → slice_get (items ++ item ∷ []) n ≡ Some one → P n one
pushed P [] item all last zero one there = subst (P 0) (one_of_one item one there) last
pushed P [] item all last (suc n) one there = absurd (grind (arith, there))
pushed P (first ∷ items) item all last zero one there = all 0 one there
pushed P (first ∷ items) item all last (suc n) one there = pushed (λ k. P (suc k)) items item (λ k other h. all (suc k) other h) last n one there

-- ---- a list written over an old one of the same length
pub written_back : {X : Type 0} (n : ℕ) (new rest : List X) → n ≡ length new → take n (new ++ rest) ≡ new
written_back n new rest same = ap (λ k. take k (new ++ rest)) same ∙ take-append_seam new rest

-- ---- the names of clients
-- The prefix up to and including an index is the prefix before the index, followed by the element at the index.
up_to : {X : Type 0} (items : List X) (n : ℕ) (item : X) → slice_get items n ≡ Some item → take (n + 1) items ≡ take n items ++ item ∷ []
up_to [] n item there = absurd (grind (arith, there))
up_to (first ∷ items) zero item there = grind (arith, there)
up_to (first ∷ items) (suc n) item there = grind (arith, up_to items n item there)

pub names_pushed : (entries : List Entry) (clients : List Client) (entry : Entry) (client : Client) (kind : ℕ) → kind < length entries → entry ≡ get_or entries kind entry → client.name ≡ string_bytes entry.name
    → client_names clients ≡ take kind (names_of entries) → client_names (clients ++ client ∷ []) ≡ take (kind + 1) (names_of entries)
names_pushed entries clients entry client kind within is named same =
    let at : slice_get (names_of entries) kind ≡ Some (string_bytes entry.name) =
    slice_get-map (λ (one : Entry). string_bytes one.name) entries kind ∙ ap (option_map (λ (one : Entry). string_bytes one.name)) (slice_get-get_or entries kind entry within ∙ ap (λ (one : Entry). Some one) (sym is)) in
    map-append (λ (one : Client). one.name) clients (client ∷ []) ∙ ap (λ names. names ++ client.name ∷ []) same ∙ ap (λ name. take kind (names_of entries) ++ name ∷ []) named
    ∙ sym (up_to (names_of entries) kind (string_bytes entry.name) at)

-- The name belongs to the family of some label, and a round of that label began.
abbrev IsName : List RecordedLine → List ℕ → Type 0
IsName lines name = (label : List ℕ) × HasBegun lines label × IsOfFamily label name

pub clients_named : (lines : List RecordedLine) (entries : List Entry) (clients : List Client) → client_names clients ≡ names_of entries → All (IsEntryOf lines Kinds) entries → All (IsNamedClient lines) clients
clients_named lines entries clients same each = λ k d within.
    let inside : k < length (client_names clients) = omega (arith, length-map clients (λ (one : Client). one.name), within) in
    let all = All-map (IsName lines) (λ (one : Entry). string_bytes one.name) entries (λ j e in'. let one = each j e in' in (string_bytes (get_or entries j e).label, one.given, one.named)) in
    let name : IsName lines (get_or clients k d).name = subst (IsName lines) (get_or-map (λ (one : Client). one.name) clients k d d.name within) (subst (All (IsName lines)) (sym same) all k d.name inside) in
    record { label = name.0; begun = name.1; named = name.2 }
