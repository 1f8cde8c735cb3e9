-- Proofs that a line parses exactly as the content whose canonical text it is.
use Rattle.std.proofs.Common.{◌≡◌, ℕ, zero, suc, ◌<◌, ◌⊎◌, inl, inr, ⊎_elim, Bool, true, false, cond, not, nat_lt, nat_le, List, [], ◌∷◌, ◌++◌, length, drop, map, flat_map, slice_index_or, codes, decimal, bytes_eq, Option, Some, None, option_map, option_and_then, refl, sym, ap, ap₂, subst, ◌∙◌, arith}
use Rattle.std.specs.List.{list_all, list_any, position_or_len, join_with_byte}
use Rattle.std.proofs.lemmas.Bool.{and_parts, and_from, lt-ltb, ltb-true, le-leb, cond-true, not-true, or_parts}
use Rattle.std.proofs.lemmas.List.Sums.{passes_at_first, AllPass-from_list_all}
use Rattle.std.proofs.lemmas.List.Splits.{join_with_byte-slice_split, length-slice_split}
use Rattle.std.proofs.lemmas.Option.{none-some, cond_some, option_and_then_some}
use Rattle.std.proofs.lemmas.Slice.Eq.{bytes_eq-Decides}
use Rattle.job_bodies.specs.Plan.{Pool, Plan, no_pool, pool_at, pool_names}
use Rattle.job_bodies.specs.WellFormed.{are_distinct}
use Rattle.pool_machine.specs.declared.event.Event.{Event}
use Rattle.pool_machine.specs.declared.event.Event.TheVariants.{Client, Job, Take, Retire}
use Rattle.support.specs.Pieces.{is_space, split_space, words_of}
use Rattle.support.specs.LineNumber.{number_of, is_valid_number}
use Rattle.interleaving.specs.EventLine.{Line, Perform, Stuck, pool_named, event_of, stuck_of, line_of_verb, line_of}
use Rattle.interleaving.specs.Words.{all_of}
use Rattle.interleaving.specs.LineText.{event_text, line_text, is_valid_event, is_valid_line}
use Rattle.support.proofs.Splits.{has_no, has_no-append, cut_at, cut_joined, joined_after, flat_map-map, is_piece}
use Rattle.support.proofs.FirstSpace.{splits, split_parts}
use Rattle.support.proofs.Partial.{map_some}
use Rattle.support.proofs.WrittenNumbers.{number_read, number_written, decimal_has_no}

-- if a conditional is `Some z`, its condition is true and its first branch is `Some z`, or its second branch is `Some z`
choose : {Y : Type 0} (b : Bool) (x y : Option Y) (z : Y) → cond b x y ≡ Some z → ((b ≡ true) × (x ≡ Some z)) ⊎ (y ≡ Some z)
choose true x y z e = inl (refl, e)
choose false x y z e = inr e

-- ---- the names of pools
name_read : (plan : Plan) (name : List ℕ) (p : ℕ) → pool_named plan name ≡ Some p → (nat_lt p (length plan.pools) ≡ true) × (name ≡ (pool_at plan p).name)
unfolding pool_named
name_read plan name p read =
    let test = λ (pool : Pool). bytes_eq pool.name name in
    let place = cond_some (nat_lt (position_or_len test plan.pools) (length plan.pools)) _ _ read in
    let same : (pool_at plan (position_or_len test plan.pools)).name ≡ name = (bytes_eq-Decides _ name).0 (passes_at_first test plan.pools no_pool (ltb-true _ _ place.0)) in
    (subst (λ (q : ℕ). nat_lt q (length plan.pools) ≡ true) place.1 place.0, sym same ∙ ap (λ q. (pool_at plan q).name) place.1)

-- if no pool of the list has this name, the pool at p does not have it
others_differ : (name : List ℕ) (pools : List Pool) (p : ℕ) → list_any (bytes_eq name) (map (λ (pool : Pool). pool.name) pools) ≡ false → p < length pools → bytes_eq name (slice_index_or pools p no_pool).name ≡ false
others_differ name [] p none within = absurd (omega arith)
others_differ name (pool ∷ pools) zero none within = (or_parts (bytes_eq name pool.name) _ none).0
others_differ name (pool ∷ pools) (suc p) none within = others_differ name pools p (or_parts (bytes_eq name pool.name) _ none).1 (omega arith)

place_among_distinct : (pools : List Pool) (p : ℕ) → are_distinct (map (λ (pool : Pool). pool.name) pools) ≡ true → p < length pools
    → position_or_len (λ (pool : Pool). bytes_eq pool.name (slice_index_or pools p no_pool).name) pools ≡ p
place_among_distinct [] p distinct within = absurd (omega arith)
place_among_distinct (x ∷ pools) zero distinct within = rw ((bytes_eq-Decides x.name x.name).1 refl) refl
place_among_distinct (x ∷ pools) (suc p) distinct within =
    let parts = and_parts (not (list_any (bytes_eq x.name) (map (λ (pool : Pool). pool.name) pools))) (are_distinct (map (λ (pool : Pool). pool.name) pools)) distinct in
    let inside : p < length pools = omega arith in
    rw (others_differ x.name pools p (not-true _ parts.0) inside, place_among_distinct pools p parts.1 inside) (omega arith)

name_written : (plan : Plan) (p : ℕ) → are_distinct (pool_names plan) ≡ true → nat_lt p (length plan.pools) ≡ true → pool_named plan (pool_at plan p).name ≡ Some p
unfolding pool_named
name_written plan p distinct within =
    let test = λ (pool : Pool). bytes_eq pool.name (pool_at plan p).name in
    let place = place_among_distinct plan.pools p distinct (ltb-true _ _ within) in
    let inside : nat_lt (position_or_len test plan.pools) (length plan.pools) ≡ true = subst (λ (q : ℕ). nat_lt q (length plan.pools) ≡ true) (sym place) within in
    cond-true _ _ _ inside ∙ ap (λ (q : ℕ). Some q) place

-- ---- the job numbers of a question
-- the words are the decimal digits of these numbers, which are within the limit
abbrev AreMembers : List (List ℕ) → List ℕ → Type 0
AreMembers words members = (list_all is_valid_number members ≡ true) × (words ≡ map decimal members)

members_read : (words : List (List ℕ)) (members : List ℕ) → all_of number_of words ≡ Some members → AreMembers words members
members_read [] [] read = (refl, refl)
members_read [] (n ∷ members) read = absurd cc
members_read (word ∷ words) members read =
    option_and_then_some (λ y. option_map (λ ys. y ∷ ys) (all_of number_of words)) (number_of word) members read (λ n first rest.
    let more = map_some (λ ys. n ∷ ys) (all_of number_of words) members rest in
    let one = number_read word n first in
    let others = members_read words more.0 more.1 in
    subst (λ (ms : List ℕ). AreMembers (word ∷ words) ms) more.2 (and_from _ _ one.0 others.0, ap₂ (λ (x : List ℕ) (xs : List (List ℕ)). x ∷ xs) one.1 others.1))

members_written : (members : List ℕ) → list_all is_valid_number members ≡ true → all_of number_of (map decimal members) ≡ Some members
members_written [] valid = refl
members_written (n ∷ members) valid =
    let parts = and_parts (is_valid_number n) (list_all is_valid_number members) valid in
    rw (number_written n parts.0, members_written members parts.1) refl

-- a space followed by the digits of the numbers, joined with spaces, is the digits of each number with a space before them
behind_stuck : (n : ℕ) (members : List ℕ) → 32 ∷ join_with_byte 32 (map decimal (n ∷ members)) ≡ flat_map (λ m. 32 ∷ decimal m) (n ∷ members)
behind_stuck n members = joined_after 32 (decimal n) (map decimal members) ∙ flat_map-map (λ x. 32 ∷ x) decimal (n ∷ members)

-- if the words of a text are the digits of these numbers, there is a number, and a space followed by the text is the digits of each number
-- with a space before them
words_read : (rest : List ℕ) (members : List ℕ) → words_of rest ≡ map decimal members → (nat_le 1 (length members) ≡ true) × (32 ∷ rest ≡ flat_map (λ m. 32 ∷ decimal m) members)
unfolding words_of
words_read rest [] same = absurd (omega (arith, length-slice_split is_space rest, ap (λ (ws : List (List ℕ)). length ws) same))
words_read rest (n ∷ members) same =
    (le-leb 1 _ (omega arith), ap (λ (r : List ℕ). 32 ∷ r) (sym (join_with_byte-slice_split 32 rest) ∙ ap (join_with_byte 32) same) ∙ behind_stuck n members)

digits_without_space : (members : List ℕ) → list_all is_valid_number members ≡ true → list_all (has_no 32) (map decimal members) ≡ true
digits_without_space [] valid = refl
digits_without_space (n ∷ members) valid =
    let parts = and_parts (is_valid_number n) (list_all is_valid_number members) valid in
    and_from _ _ (decimal_has_no 32 n (omega arith) parts.0) (digits_without_space members parts.1)

words_written : (n : ℕ) (members : List ℕ) → list_all is_valid_number (n ∷ members) ≡ true → words_of (decimal n ++ flat_map (λ m. 32 ∷ decimal m) members) ≡ map decimal (n ∷ members)
unfolding words_of
words_written n members valid =
    let same : join_with_byte 32 (map decimal (n ∷ members)) ≡ decimal n ++ flat_map (λ m. 32 ∷ decimal m) members = ap (drop 1) (behind_stuck n members) in
    ap (cut_at 32) (sym same) ∙ cut_joined 32 (decimal n) (map decimal members) (digits_without_space (n ∷ members) valid)

-- ---- a verb and the text after it
-- the event is valid, and its text is the verb, a space and `rest`
abbrev IsEventText : Plan → List ℕ → List ℕ → Event → Type 0
IsEventText plan verb rest event = (is_valid_event plan event ≡ true) × (verb ++ 32 ∷ rest ≡ event_text plan event)

-- the line is valid, and its text is the verb, a space and `rest`
abbrev IsLineText : Plan → List ℕ → List ℕ → Line → Type 0
IsLineText plan verb rest line = (is_valid_line plan line ≡ true) × (verb ++ 32 ∷ rest ≡ line_text plan line)

same_verb : (verb word rest text : List ℕ) → bytes_eq verb word ≡ true → rest ≡ text → verb ++ 32 ∷ rest ≡ word ++ 32 ∷ text
same_verb verb word rest text same rests = ap₂ (λ (x y : List ℕ). x ++ 32 ∷ y) ((bytes_eq-Decides verb word).0 same) rests

client_read : (plan : Plan) (verb rest : List ℕ) (event : Event) → bytes_eq verb (codes "client") ≡ true → option_map (λ n. Client n) (number_of rest) ≡ Some event → IsEventText plan verb rest event
client_read plan verb rest event same read =
    let found = map_some (λ n. Client n) (number_of rest) event read in
    let number = number_read rest found.0 found.1 in
    subst (λ (e : Event). IsEventText plan verb rest e) found.2 (number.0, same_verb verb (codes "client") rest _ same number.1)

job_read : (plan : Plan) (verb rest : List ℕ) (event : Event) → bytes_eq verb (codes "job") ≡ true → option_map (λ n. Job n) (number_of rest) ≡ Some event → IsEventText plan verb rest event
job_read plan verb rest event same read =
    let found = map_some (λ n. Job n) (number_of rest) event read in
    let number = number_read rest found.0 found.1 in
    subst (λ (e : Event). IsEventText plan verb rest e) found.2 (number.0, same_verb verb (codes "job") rest _ same number.1)

take_read : (plan : Plan) (verb rest : List ℕ) (event : Event) → bytes_eq verb (codes "take") ≡ true → option_map (λ p. Take p) (pool_named plan rest) ≡ Some event → IsEventText plan verb rest event
take_read plan verb rest event same read =
    let found = map_some (λ p. Take p) (pool_named plan rest) event read in
    let pool = name_read plan rest found.0 found.1 in
    subst (λ (e : Event). IsEventText plan verb rest e) found.2 (pool.0, same_verb verb (codes "take") rest _ same pool.1)

retire_read : (plan : Plan) (verb rest : List ℕ) (event : Event) → bytes_eq verb (codes "retire") ≡ true → option_map (λ p. Retire p) (pool_named plan rest) ≡ Some event → IsEventText plan verb rest event
retire_read plan verb rest event same read =
    let found = map_some (λ p. Retire p) (pool_named plan rest) event read in
    let pool = name_read plan rest found.0 found.1 in
    subst (λ (e : Event). IsEventText plan verb rest e) found.2 (pool.0, same_verb verb (codes "retire") rest _ same pool.1)

event_read : (plan : Plan) (verb rest : List ℕ) (event : Event) → event_of plan verb rest ≡ Some event → IsEventText plan verb rest event
unfolding event_of
event_read plan verb rest event read =
    ⊎_elim (λ here. client_read plan verb rest event here.0 here.1)
    (λ other. ⊎_elim (λ here. job_read plan verb rest event here.0 here.1)
    (λ other. ⊎_elim (λ here. take_read plan verb rest event here.0 here.1)
    (λ other. ⊎_elim (λ here. retire_read plan verb rest event here.0 here.1) (λ none. absurd (none-some event none))
    (choose (bytes_eq verb (codes "retire")) _ None event other))
    (choose (bytes_eq verb (codes "take")) _ _ event other))
    (choose (bytes_eq verb (codes "job")) _ _ event other))
    (choose (bytes_eq verb (codes "client")) _ _ event read)

stuck_read : (plan : Plan) (verb rest : List ℕ) (line : Line) → bytes_eq verb (codes "stuck") ≡ true → stuck_of rest ≡ Some line → IsLineText plan verb rest line
unfolding stuck_of
stuck_read plan verb rest line same read =
    let found = map_some Stuck (all_of number_of (words_of rest)) line read in
    let members = members_read (words_of rest) found.0 found.1 in
    let words = words_read rest found.0 members.1 in
    subst (λ (l : Line). IsLineText plan verb rest l) found.2
    (and_from _ _ words.0 members.0, ap (λ (v : List ℕ). v ++ 32 ∷ rest) ((bytes_eq-Decides verb (codes "stuck")).0 same) ∙ ap (λ (r : List ℕ). codes "stuck" ++ r) words.1)

verb_read : (plan : Plan) (verb rest : List ℕ) (line : Line) → line_of_verb plan verb rest ≡ Some line → IsLineText plan verb rest line
unfolding line_of_verb
verb_read plan verb rest line read =
    ⊎_elim (λ here. stuck_read plan verb rest line here.0 here.1)
    (λ other. let found = map_some Perform (event_of plan verb rest) line other in
    subst (λ (l : Line). IsLineText plan verb rest l) found.2 (event_read plan verb rest found.0 found.1))
    (choose (bytes_eq verb (codes "stuck")) _ _ line read)

-- ---- whole lines
-- a text that parses as a line is the text of that line, and the line is valid
pub read_line_is_text : (plan : Plan) (text : List ℕ) (line : Line) → line_of plan text ≡ Some line → (is_valid_line plan line ≡ true) × (text ≡ line_text plan line)
unfolding line_of
read_line_is_text plan text line read =
    option_and_then_some (λ words. line_of_verb plan words.0 words.1) (split_space text) line read (λ words split verb.
    let found = verb_read plan words.0 words.1 line verb in
    (found.0, split_parts text words split ∙ found.1))

pub by_verb : (plan : Plan) (verb rest : List ℕ) → has_no 32 verb ≡ true → line_of plan (verb ++ 32 ∷ rest) ≡ line_of_verb plan verb rest
unfolding line_of
by_verb plan verb rest none = ap (λ o. option_and_then (λ words. line_of_verb plan words.0 words.1) o) (splits verb rest none)

-- the text of a valid line parses as that line, if the names of the pools are distinct
pub text_reads_as_line : (plan : Plan) (line : Line) → are_distinct (pool_names plan) ≡ true → is_valid_line plan line ≡ true → line_of plan (line_text plan line) ≡ Some line
unfolding line_of_verb event_of stuck_of
text_reads_as_line plan (Perform (Client c)) distinct valid = by_verb plan (codes "client") (decimal c) refl ∙ ap (λ o. option_map Perform (option_map (λ n. Client n) o)) (number_written c valid)
text_reads_as_line plan (Perform (Job j)) distinct valid = by_verb plan (codes "job") (decimal j) refl ∙ ap (λ o. option_map Perform (option_map (λ n. Job n) o)) (number_written j valid)
text_reads_as_line plan (Perform (Take p)) distinct valid = by_verb plan (codes "take") ((pool_at plan p).name) refl ∙ ap (λ o. option_map Perform (option_map (λ n. Take n) o)) (name_written plan p distinct valid)
text_reads_as_line plan (Perform (Retire p)) distinct valid = by_verb plan (codes "retire") ((pool_at plan p).name) refl ∙ ap (λ o. option_map Perform (option_map (λ n. Retire n) o)) (name_written plan p distinct valid)
text_reads_as_line plan (Stuck []) distinct valid = absurd cc
text_reads_as_line plan (Stuck (n ∷ members)) distinct valid =
    let parts = and_parts (nat_le 1 (length (n ∷ members))) (list_all is_valid_number (n ∷ members)) valid in
    by_verb plan (codes "stuck") (decimal n ++ flat_map (λ m. 32 ∷ decimal m) members) refl
    ∙ ap (λ (words : List (List ℕ)). option_map Stuck (all_of number_of words)) (words_written n members parts.1)
    ∙ ap (λ o. option_map Stuck o) (members_written (n ∷ members) parts.1)

-- ---- the bytes of a line
members_on_one_line : (members : List ℕ) → list_all is_valid_number members ≡ true → has_no 10 (flat_map (λ n. 32 ∷ decimal n) members) ≡ true
members_on_one_line [] valid = refl
members_on_one_line (n ∷ members) valid =
    let parts = and_parts (is_valid_number n) (list_all is_valid_number members) valid in
    has_no-append 10 (decimal n) _ (decimal_has_no 10 n (omega arith) parts.0) (members_on_one_line members parts.1)

-- whether the name of the pool has no newline
abbrev pub has_plain_name : Pool → Bool
has_plain_name pool = has_no 10 pool.name

name_on_one_line : (plan : Plan) (p : ℕ) → list_all has_plain_name plan.pools ≡ true → nat_lt p (length plan.pools) ≡ true → has_no 10 (pool_at plan p).name ≡ true
name_on_one_line plan p names within = AllPass-from_list_all has_plain_name plan.pools names p no_pool (ltb-true _ _ within)

-- the text of a valid line is not empty and has no newline
pub line_on_one_line : (plan : Plan) (line : Line) → list_all has_plain_name plan.pools ≡ true → is_valid_line plan line ≡ true → is_piece 10 (line_text plan line) ≡ true
line_on_one_line plan (Perform (Client c)) names valid = and_from _ _ (lt-ltb 0 _ (omega arith)) (decimal_has_no 10 c (omega arith) valid)
line_on_one_line plan (Perform (Job j)) names valid = and_from _ _ (lt-ltb 0 _ (omega arith)) (decimal_has_no 10 j (omega arith) valid)
line_on_one_line plan (Perform (Take p)) names valid = and_from _ _ (lt-ltb 0 _ (omega arith)) (name_on_one_line plan p names valid)
line_on_one_line plan (Perform (Retire p)) names valid = and_from _ _ (lt-ltb 0 _ (omega arith)) (name_on_one_line plan p names valid)
line_on_one_line plan (Stuck members) names valid =
    and_from _ _ (lt-ltb 0 _ (omega arith)) (members_on_one_line members (and_parts (nat_le 1 (length members)) (list_all is_valid_number members) valid).1)
