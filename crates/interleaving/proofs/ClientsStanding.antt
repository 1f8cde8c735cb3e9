-- The states of the clients, of which only those that moved are stored.
use Rattle.std.proofs.Common.{◌≡◌, ◌≢◌, ℕ, zero, suc, ◌+◌, ◌-◌, ◌<◌, ◌≤◌, ◌==◌, cond, List, [], ◌∷◌, ◌++◌, length, replicate, set, get_or, slice_get, is_some, true, false, if◌then◌else◌, unwrap_or, nat_le, Option, Some, None, ⊎_elim, refl, sym, ap, subst, ◌∙◌, arith, length-set, ext_get_or}
use Rattle.std.specs.List.{flat_map, enumerate_from}
use Rattle.std.specs.Option.{option_map}
use Rattle.std.proofs.lemmas.Bool.{cases_eq, cases_Bool, leb-true, leb-false, false_from_ne_true, eqb-true, eq-eqb}
use Rattle.std.proofs.lemmas.List.{get_or-set_same, get_or-set_other, set-get_or, set_past}
use Rattle.std.specs.List.Sorted.{IsPartitionedBy, IsPartitionPoint}
use Rattle.std.proofs.lemmas.List.Sorted.{IsPartitionedBy-leb, IsNonDecreasingBy-from_default}
use Rattle.std.proofs.lemmas.Option.{slice_get-get_or, slice_get_past, get_or_from_slice_get, slice_get_within, unwrap_or-slice_get}
use Rattle.job_bodies.specs.Plan.{Client}
use Rattle.pool_machine.specs.declared.client_state.ClientState.{ClientState}
use Rattle.pool_machine.specs.Reach.{new_clients}
use Rattle.interleaving.specs.Clients.{ends_from, IsRising, starting, moved_or, standing, client_of}
use Rattle.interleaving.specs.MovedClients.{at_position}

-- ---- clients at their start

pub rising_ends : (n : ℕ) (kinds : List Client) → IsRising n (ends_from n kinds)
rising_ends n [] = tt
rising_ends n (kind ∷ kinds) = (omega arith, rising_ends (n + kind.count) kinds)

-- `starting`, applied to the ends of the client kinds, is the list of the clients of these kinds at their start
pub starting_ends : (k n : ℕ) (kinds : List Client) → starting k n (ends_from n kinds) ≡ flat_map new_clients (enumerate_from k kinds)
starting_ends k n [] = refl
starting_ends k n (kind ∷ kinds) =
    let client : ClientState = record { kind = k; position = 0 } in
    let many : n + kind.count - n ≡ kind.count = omega arith in
    ap (λ m. replicate m client ++ starting (k + 1) (n + kind.count) (ends_from (n + kind.count) kinds)) many
    ∙ ap (λ xs. replicate kind.count client ++ xs) (starting_ends (k + 1) (n + kind.count) kinds)

slice_get-replicate_left : {X : Type 0} (m i : ℕ) (x : X) (ys : List X) → i < m → slice_get (replicate m x ++ ys) i ≡ Some x
slice_get-replicate_left zero i x ys inside = absurd (omega arith)
slice_get-replicate_left (suc m) zero x ys inside = refl
slice_get-replicate_left (suc m) (suc i) x ys inside = slice_get-replicate_left m i x ys (omega arith)

slice_get-replicate_right : {X : Type 0} (m i : ℕ) (x : X) (ys : List X) → slice_get (replicate m x ++ ys) (m + i) ≡ slice_get ys i
slice_get-replicate_right zero i x ys = let same : 0 + i ≡ i = omega arith in ap (slice_get ys) same
slice_get-replicate_right (suc m) i x ys = let same : suc m + i ≡ suc (m + i) = omega arith in ap (slice_get (replicate (suc m) x ++ ys)) same ∙ slice_get-replicate_right m i x ys

-- if the first k ends are at most c and all others are above c, the client with number c belongs to the kind at index k
start_at : (kind n : ℕ) (ends : List ℕ) (c k : ℕ) → IsRising n ends → n ≤ c → k ≤ length ends → ((i : ℕ) → i < k → get_or ends i 0 ≤ c) → ((i : ℕ) → k ≤ i → i < length ends → c < get_or ends i 0)
    → slice_get (starting kind n ends) (c - n) ≡ option_map (λ end. record { kind = kind + k; position = 0 }) (slice_get ends k)
start_at kind n [] c k rising low inside below above = refl
start_at kind n (end ∷ ends) c zero rising low inside below above =
    let here = above 0 (omega arith) (omega arith) in
    let same : kind ≡ kind + 0 = omega arith in
    let started : ℕ → Option ClientState = λ m. Some (record { kind = m; position = 0 }) in
    slice_get-replicate_left (end - n) (c - n) (record { kind = kind; position = 0 }) (starting (kind + 1) end ends) (omega (arith, here)) ∙ ap started same
start_at kind n (end ∷ ends) c (suc k) rising low inside below above =
    let past : end ≤ c = below 0 (omega arith) in
    let from : n ≤ end = rising.0 in
    let apart : c - n ≡ end - n + (c - end) = omega arith in
    let same : kind + 1 + k ≡ kind + suc k = omega arith in
    let started : ℕ → Option ClientState = λ m. option_map (λ (e : ℕ). record { kind = m; position = 0 }) (slice_get ends k) in
    ap (slice_get (starting kind n (end ∷ ends))) apart
    ∙ slice_get-replicate_right (end - n) (c - end) (record { kind = kind; position = 0 }) (starting (kind + 1) end ends)
    ∙ start_at (kind + 1) end ends c k rising.1 past (omega arith) (λ i low. below (suc i) (omega arith)) (λ i high in_list. above (suc i) (omega arith) (omega arith))
    ∙ ap started same

-- no end is below n, the number of clients before the first kind
from_end : (n : ℕ) (ends : List ℕ) (i : ℕ) → IsRising n ends → i < length ends → n ≤ get_or ends i 0
from_end n [] i rising inside = absurd (omega arith)
from_end n (end ∷ ends) zero rising inside = rising.0
from_end n (end ∷ ends) (suc i) rising inside = let low = from_end end ends i rising.1 (omega arith) in let first = rising.0 in omega (arith, low, first)

rises : (n : ℕ) (ends : List ℕ) (i j : ℕ) → IsRising n ends → i ≤ j → j < length ends → get_or ends i 0 ≤ get_or ends j 0
rises n [] i j rising order inside = absurd (omega arith)
rises n (end ∷ ends) zero zero rising order inside = omega arith
rises n (end ∷ ends) zero (suc j) rising order inside = from_end end ends j rising.1 (omega arith)
rises n (end ∷ ends) (suc i) zero rising order inside = absurd (omega arith)
rises n (end ∷ ends) (suc i) (suc j) rising order inside = rises end ends i j rising.1 (omega arith) (omega arith)

pub parted : (n : ℕ) (ends : List ℕ) (c : ℕ) → IsRising n ends → IsPartitionedBy (λ end. nat_le end c) ends
parted n ends c rising = IsPartitionedBy-leb (λ end. end) ends c (IsNonDecreasingBy-from_default (λ end. end) ends 0 (λ i j order inside. rises n ends i j rising order inside))

module _ (ends : List ℕ) (c k : ℕ) (rising : IsRising 0 ends) (point : IsPartitionPoint (λ end. nat_le end c ≡ true) (λ end. nat_le end c ≡ false) ends k) where
  start_of_kind : k ≤ length ends → slice_get (starting 0 0 ends) c ≡ option_map (λ (end : ℕ). record { kind = k; position = 0 }) (slice_get ends k)
  start_of_kind inside =
      let same : c ≡ c - 0 = omega arith in
      let first : 0 + k ≡ k = omega arith in
      ap (slice_get (starting 0 0 ends)) same
      ∙ start_at 0 0 ends c k rising (omega arith) inside (λ i low. leb-true (get_or ends i 0) c (point.0 i 0 (omega arith) low)) (λ i high in_list. leb-false (get_or ends i 0) c (point.1 i 0 high in_list))
      ∙ ap (λ m. option_map (λ (end : ℕ). record { kind = m; position = 0 }) (slice_get ends k)) first

  pub start_found : k < length ends → slice_get (starting 0 0 ends) c ≡ Some (record { kind = k; position = 0 })
  start_found inside = start_of_kind (omega arith) ∙ ap (option_map (λ (end : ℕ). record { kind = k; position = 0 })) (slice_get-get_or ends k 0 inside)

  pub start_none : k ≤ length ends → length ends ≤ k → slice_get (starting 0 0 ends) c ≡ None
  start_none inside past = start_of_kind inside ∙ ap (option_map (λ (end : ℕ). record { kind = k; position = 0 })) (slice_get_past ends k past)

replicate_position : (kind m i : ℕ) (clients : List ClientState) → ((c : ℕ) → (get_or clients c (record { kind = 0; position = 0 })).position ≡ 0) → (get_or (replicate m (record { kind = kind; position = 0 }) ++ clients) i (record { kind = 0; position = 0 })).position ≡ 0
replicate_position kind zero i clients others = others i
replicate_position kind (suc m) zero clients others = refl
replicate_position kind (suc m) (suc i) clients others = replicate_position kind m i clients others

-- each client in the list `starting` is at position 0
pub start_position : (kind n : ℕ) (ends : List ℕ) (c : ℕ) → (get_or (starting kind n ends) c (record { kind = 0; position = 0 })).position ≡ 0
start_position kind n [] c = refl
start_position kind n (end ∷ ends) c = replicate_position kind (end - n) c (starting (kind + 1) end ends) (start_position (kind + 1) end ends)

-- ---- clients that moved

pub length-standing : (at : ℕ → Option ClientState) (n : ℕ) (clients : List ClientState) → length (standing at n clients) ≡ length clients
length-standing at n [] = refl
length-standing at n (client ∷ clients) = ap suc (length-standing at (n + 1) clients)

pub get_or-standing : (at : ℕ → Option ClientState) (n : ℕ) (clients : List ClientState) (k : ℕ) (d : ClientState) → k < length clients → get_or (standing at n clients) k d ≡ moved_or (at (n + k)) (get_or clients k d)
get_or-standing at n [] k d inside = absurd (omega arith)
get_or-standing at n (client ∷ clients) zero d inside = let same : n ≡ n + 0 = omega arith in ap (λ m. moved_or (at m) client) same
get_or-standing at n (client ∷ clients) (suc k) d inside =
    let same : n + 1 + k ≡ n + suc k = omega arith in
    get_or-standing at (n + 1) clients k d (omega arith) ∙ ap (λ m. moved_or (at m) (get_or clients k d)) same

-- if no client has moved, the states of the clients are those at the start
pub standing-none : (at : ℕ → Option ClientState) (n : ℕ) (clients : List ClientState) → ((q : ℕ) → at q ≡ None) → standing at n clients ≡ clients
standing-none at n [] none = refl
standing-none at n (client ∷ clients) none = ap (λ o. moved_or o client ∷ standing at (n + 1) clients) (none n) ∙ ap (λ xs. client ∷ xs) (standing-none at (n + 1) clients none)

-- if no stored state changes, the states of the clients are unchanged
pub standing-same : (at after : ℕ → Option ClientState) (n : ℕ) (clients : List ClientState) → ((q : ℕ) → after q ≡ at q) → standing after n clients ≡ standing at n clients
standing-same at after n [] same = refl
standing-same at after n (client ∷ clients) same = ap (λ o. moved_or o client ∷ standing after (n + 1) clients) (same n) ∙ ap (λ xs. moved_or (at n) client ∷ xs) (standing-same at after (n + 1) clients same)

-- if the stored state of one client changes, only the state of that client changes
pub standing-moved : (at after : ℕ → Option ClientState) (clients : List ClientState) (k : ℕ) (x : ClientState) → ((q : ℕ) → after q ≡ cond (k == q) (Some x) (at q)) → standing after 0 clients ≡ set (standing at 0 clients) k x
standing-moved at after clients k x e =
    let d : ClientState = record { kind = 0; position = 0 } in
    let old = standing at 0 clients in
    let was = length-standing at 0 clients in
    let new = length-standing after 0 clients in
    let long : length (set old k x) ≡ length clients = length-set old k x ∙ was in
    ext_get_or d (standing after 0 clients) (set old k x) (new ∙ sym long) (λ q inside.
    let within : q < length clients = omega (arith, inside, new) in
    let zero_more : 0 + q ≡ q = omega arith in
    let now : get_or (standing after 0 clients) q d ≡ moved_or (after q) (get_or clients q d) = get_or-standing after 0 clients q d within ∙ ap (λ m. moved_or (after m) (get_or clients q d)) zero_more in
    now ∙ ⊎_elim
    (λ (here : q ≡ k).
    let it : after q ≡ Some x = e q ∙ ap (λ b. cond b (Some x) (at q)) (eq-eqb k q (sym here)) in
    ap (λ o. moved_or o (get_or clients q d)) it ∙ sym (get_or-set_same old k x d (omega (arith, within, was, here))) ∙ ap (λ m. get_or (set old k x) m d) (sym here))
    (λ (other : q ≢ k).
    let it : after q ≡ at q = e q ∙ ap (λ b. cond b (Some x) (at q)) (false_from_ne_true (k == q) (λ same. other (sym (eqb-true k q same)))) in
    ap (λ o. moved_or o (get_or clients q d)) it ∙ ap (λ m. moved_or (at m) (get_or clients q d)) (sym zero_more) ∙ sym (get_or-standing at 0 clients q d within) ∙ sym (get_or-set_other old k q x d other))
    (cases_eq q k))

-- ---- look-ups

slice_get-standing : (at : ℕ → Option ClientState) (n : ℕ) (clients : List ClientState) (k : ℕ) → slice_get (standing at n clients) k ≡ option_map (moved_or (at (n + k))) (slice_get clients k)
slice_get-standing at n [] k = refl
slice_get-standing at n (client ∷ clients) zero = let same : n ≡ n + 0 = omega arith in ap (λ m. Some (moved_or (at m) client)) same
slice_get-standing at n (client ∷ clients) (suc k) =
    let same : n + 1 + k ≡ n + suc k = omega arith in
    slice_get-standing at (n + 1) clients k ∙ ap (λ m. option_map (moved_or (at m)) (slice_get clients k)) same

none_found : (o : Option ClientState) → is_some o ≡ false → o ≡ None
none_found None none = refl
none_found (Some client) none = absurd cc

option_map-same : (o : Option ClientState) → option_map (moved_or None) o ≡ o
option_map-same None = refl
option_map-same (Some client) = refl

pub none_there : (clients : List ClientState) (k : ℕ) → slice_get clients k ≡ None → length clients ≤ k
none_there [] k none = omega arith
none_there (client ∷ clients) zero none = absurd cc
none_there (client ∷ clients) (suc k) none = let past = none_there clients k none in omega (arith, past)

-- `at` has the states of the clients that have moved, and `clients` those of all clients at their start
module _ (at : ℕ → Option ClientState) (clients : List ClientState) (k : ℕ) where
  -- the state of client k is its stored state, if it has one
  pub moved_found : (client : ClientState) → at k ≡ Some client → k < length clients → slice_get (standing at 0 clients) k ≡ Some client
  moved_found client moved inside =
      let zero_more : 0 + k ≡ k = omega arith in
      let some : slice_get clients k ≡ Some (get_or clients k client) = slice_get-get_or clients k client inside in
      slice_get-standing at 0 clients k ∙ ap (option_map (moved_or (at (0 + k)))) some ∙ ap (λ m. Some (moved_or (at m) (get_or clients k client))) zero_more ∙ ap (λ o. Some (moved_or o (get_or clients k client))) moved

  pub start_seen : at k ≡ None → slice_get (standing at 0 clients) k ≡ slice_get clients k
  start_seen none =
      let zero_more : 0 + k ≡ k = omega arith in
      slice_get-standing at 0 clients k ∙ ap (λ m. option_map (moved_or (at m)) (slice_get clients k)) zero_more ∙ ap (λ o. option_map (moved_or o) (slice_get clients k)) none ∙ option_map-same (slice_get clients k)

  client_as : slice_get (standing at 0 clients) k ≡ slice_get clients k → client_of (standing at 0 clients) k ≡ client_of clients k
  client_as same =
      let d : ClientState = record { kind = 0; position = 0 } in
      sym (unwrap_or-slice_get (standing at 0 clients) k d) ∙ ap (λ o. unwrap_or o d) same ∙ unwrap_or-slice_get clients k d

  -- a client without a stored state is at its start
  pub client_at_start : is_some (at k) ≡ false → client_of (standing at 0 clients) k ≡ client_of clients k
  client_at_start none = client_as (start_seen (none_found (at k) none))

  module _ (after : ℕ → Option ClientState) (i : ℕ) (e : (q : ℕ) → after q ≡ (if k == q then option_map (at_position i) (at k) else at q)) where
    -- the move of a client with a stored state changes only that client
    goes : (client : ClientState) → at k ≡ Some client → k < length clients → standing after 0 clients ≡ set (standing at 0 clients) k (at_position i (client_of (standing at 0 clients) k))
    goes client moved inside =
        let d : ClientState = record { kind = 0; position = 0 } in
        let was : client_of (standing at 0 clients) k ≡ client = get_or_from_slice_get (standing at 0 clients) k client d (moved_found client moved inside) in
        standing-moved at after clients k (at_position i client) (λ q. e q ∙ ap (λ o. cond (k == q) o (at q)) (ap (option_map (at_position i)) moved)) ∙ ap (λ x. set (standing at 0 clients) k (at_position i x)) (sym was)

    goes_as : (o : Option ClientState) → at k ≡ o → is_some o ≡ true → ((client : ClientState) → at k ≡ Some client → k < length clients) → standing after 0 clients ≡ set (standing at 0 clients) k (at_position i (client_of (standing at 0 clients) k))
    goes_as None moved some inside = absurd cc
    goes_as (Some client) moved some inside = goes client moved (inside client moved)

    pub goes_on : is_some (at k) ≡ true → ((client : ClientState) → at k ≡ Some client → k < length clients) → standing after 0 clients ≡ set (standing at 0 clients) k (at_position i (client_of (standing at 0 clients) k))
    goes_on some inside = goes_as (at k) refl some inside

    -- if client k has no stored state, a move of it changes no stored state
    pub all_stay : is_some (at k) ≡ false → (q : ℕ) → after q ≡ at q
    all_stay none q =
        let nothing = none_found (at k) none in
        e q ∙ ap (λ o. cond (k == q) (option_map (at_position i) o) (at q)) nothing ∙ ⊎_elim
        (λ (same : (k == q) ≡ true). ap (λ b. cond b None (at q)) same ∙ sym nothing ∙ ap at (eqb-true k q same))
        (λ (other : (k == q) ≡ false). ap (λ b. cond b None (at q)) other)
        (cases_Bool (k == q))

    -- a client without a stored state gets one at its first move
    pub goes_out : (later : ℕ → Option ClientState) (client : ClientState) → is_some (at k) ≡ false → slice_get clients k ≡ Some client → ((q : ℕ) → later q ≡ (if k == q then Some (at_position i client) else after q))
        → standing later 0 clients ≡ set (standing at 0 clients) k (at_position i (client_of (standing at 0 clients) k))
    goes_out later client none found out =
        let d : ClientState = record { kind = 0; position = 0 } in
        let was : client_of (standing at 0 clients) k ≡ client = client_at_start none ∙ get_or_from_slice_get clients k client d found in
        standing-moved at later clients k (at_position i client) (λ q. out q ∙ ap (cond (k == q) (Some (at_position i client))) (all_stay none q)) ∙ ap (λ x. set (standing at 0 clients) k (at_position i x)) (sym was)

    -- every client with a stored state exists, also after the first move of client k
    pub out_inside : (later : ℕ → Option ClientState) (client : ClientState) → is_some (at k) ≡ false → slice_get clients k ≡ Some client → ((q : ℕ) → later q ≡ (if k == q then Some (at_position i client) else after q))
        → ((n : ℕ) (x : ClientState) → at n ≡ Some x → n < length clients) → (n : ℕ) (x : ClientState) → later n ≡ Some x → n < length clients
    out_inside later client none found out inside n x moved = ⊎_elim
        (λ (here : (k == n) ≡ true). subst (λ m. m < length clients) (eqb-true k n here) (slice_get_within clients k client found))
        (λ (other : (k == n) ≡ false). inside n x (sym (all_stay none n) ∙ sym (out n ∙ ap (λ b. cond b (Some (at_position i client)) (after n)) other) ∙ moved))
        (cases_Bool (k == n))

    -- if there is no client with number k, its move changes nothing
    pub none_goes : (x : ClientState) → is_some (at k) ≡ false → length clients ≤ k → standing after 0 clients ≡ set (standing at 0 clients) k x
    none_goes x none past =
        let long = length-standing at 0 clients in
        standing-same at after 0 clients (all_stay none) ∙ sym (set_past (standing at 0 clients) k x (omega (arith, long)))

  -- a move of client k to position 0 changes only that client, also if it has no stored state
  module _ (after : ℕ → Option ClientState) (e : (q : ℕ) → after q ≡ (if k == q then option_map (at_position 0) (at k) else at q)) (starts : (client_of clients k).position ≡ 0) where
    starts_again : (o : Option ClientState) → at k ≡ o → ((client : ClientState) → at k ≡ Some client → k < length clients) → standing after 0 clients ≡ set (standing at 0 clients) k (at_position 0 (client_of (standing at 0 clients) k))
    starts_again (Some client) moved inside = goes after 0 e client moved (inside client moved)
    starts_again None none inside =
        let items = standing at 0 clients in
        let d : ClientState = record { kind = 0; position = 0 } in
        let x = client_of items k in
        let no : is_some (at k) ≡ false = ap is_some none in
        let first : x.position ≡ 0 = ap (λ (c : ClientState). c.position) (client_at_start no) ∙ starts in
        let same : x ≡ at_position 0 x = ap (λ m. at_position m x) first in
        standing-same at after 0 clients (all_stay after 0 e no) ∙ sym (set-get_or items k d) ∙ ap (set items k) same

    pub begins_again : ((client : ClientState) → at k ≡ Some client → k < length clients) → standing after 0 clients ≡ set (standing at 0 clients) k (at_position 0 (client_of (standing at 0 clients) k))
    begins_again inside = starts_again (at k) refl inside
