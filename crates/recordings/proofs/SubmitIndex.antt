-- The index of the submits in a path: one more action, a get, and the look-up of a job.
use Rattle.std.proofs.Common.{◌≡◌, ◌≢◌, ℕ, zero, suc, ◌+◌, ◌-◌, ◌<◌, ◌≤◌, ◌==◌, ◌||◌, Bool, true, false, if◌then◌else◌, List, [], ◌∷◌, ◌++◌, length, set, map, drop, take, slice_get, Option, Some, None, Result, Ok, Err, IfOk, IfErr, inl, inr, refl, ap, sym, subst, ◌∙◌, arith}
use Rattle.std.specs.List.{list_any}
use Rattle.std.specs.List.Sorted.{IsSearchInRange, IsBinarySearchResult, IsNonDecreasingBy}
use Rattle.std.specs.Ordering.{nat_cmp, ordering_index}
use Rattle.std.proofs.lemmas.Bool.{cases_lt, cases_eq}
use Rattle.std.proofs.lemmas.Bool.Decides.{nat_tests}
use Rattle.std.proofs.lemmas.Cmp.{ranked}
use Rattle.std.proofs.lemmas.List.{take_at, length_push, length-take, length-set, get_or-take, get_or_append_left, get_or_push, get_or-set_same, get_or-set_other}
use Rattle.std.proofs.lemmas.List.Sorted.{IsNonDecreasingBy-from_default}
use Rattle.recordings.specs.declared.step.RecordedStep.{RecordedStep}
use Rattle.recordings.specs.declared.step.RecordedStep.TheVariants.{Submits, Gets}
use Rattle.recordings.specs.declared.submit_index.SubmitEntry.{SubmitEntry}
use Rattle.recordings.specs.ActorPath.{submits, gets, place_on, submit_place, is_got, with_get_at, with_get, is_submit_there, ends_with_submit}
use Rattle.recordings.specs.SubmitIndex.{unclaimed, entries_from, entries_of, entry_at, job_at, IsLastOf, IsAbsent, IsAscending, IsAboveLast}
use Rattle.recordings.proofs.Tests.{any_more}

-- ---- one more action
or_no : (b : Bool) → (b || false) ≡ b
or_no true = refl
or_no false = refl

past : (n m : ℕ) → n + 1 + m ≡ n + suc m
past n m = omega arith

at_end : (n : ℕ) → n ≡ n + 0
at_end n = omega arith

from_0 : (n : ℕ) → 0 + n ≡ n
from_0 n = omega arith

-- the entry of a submit at this index, and of the rest of the path
abbrev entry_before : ℕ → ℕ → Bool → List SubmitEntry → List SubmitEntry
entry_before job n got entries = record { job = job; place = n; got = got } ∷ entries

submit_from : (n : ℕ) (path : List RecordedStep) (job : ℕ) → entries_from n (path ++ Submits job ∷ []) ≡ entries_from n path ++ unclaimed job (n + length path) ∷ []
submit_from n [] job = ap (λ place. unclaimed job place ∷ []) (at_end n)
submit_from n (Submits one ∷ path) job =
    ap (λ got. entry_before one n got (entries_from (n + 1) (path ++ Submits job ∷ []))) (any_more (gets n) path (Submits job) ∙ or_no (list_any (gets n) path))
    ∙ ap (entry_before one n (list_any (gets n) path)) (submit_from (n + 1) path job ∙ ap (λ place. entries_from (n + 1) path ++ unclaimed job place ∷ []) (past n (length path)))
submit_from n (Gets place ∷ path) job = submit_from (n + 1) path job ∙ ap (λ place. entries_from (n + 1) path ++ unclaimed job place ∷ []) (past n (length path))

pub entries_submit : (path : List RecordedStep) (job : ℕ) → entries_of (path ++ Submits job ∷ []) ≡ entries_of path ++ unclaimed job (length path) ∷ []
unfolding entries_of
entries_submit path job = submit_from 0 path job ∙ ap (λ place. entries_from 0 path ++ unclaimed job place ∷ []) (from_0 (length path))

pub entries_none : entries_of [] ≡ []
unfolding entries_of
entries_none = refl

-- the entry after a get of the job of the submit at this index
abbrev claimed_at : ℕ → SubmitEntry → SubmitEntry
claimed_at place entry = record { job = entry.job; place = entry.place; got = entry.got || (place == entry.place) }

get_from : (n : ℕ) (path : List RecordedStep) (place : ℕ) → entries_from n (path ++ Gets place ∷ []) ≡ map (claimed_at place) (entries_from n path)
get_from n [] place = refl
get_from n (Submits one ∷ path) place =
    ap (λ got. entry_before one n got (entries_from (n + 1) (path ++ Gets place ∷ []))) (any_more (gets n) path (Gets place))
    ∙ ap (entry_before one n (list_any (gets n) path || (place == n))) (get_from (n + 1) path place)
get_from n (Gets one ∷ path) place = get_from (n + 1) path place

-- ---- the places of the entries
abbrev pub place_at : List SubmitEntry → ℕ → ℕ
place_at entries at = (entry_at entries at).place

at_least : (n : ℕ) → n ≤ n
at_least n = omega arith

place_from : (n : ℕ) (path : List RecordedStep) (at : ℕ) → at < length (entries_from n path) → n ≤ place_at (entries_from n path) at
place_from n [] at within = absurd (omega (arith, within))
place_from n (Submits one ∷ path) zero within = at_least n
place_from n (Submits one ∷ path) (suc at) within = omega (arith, place_from (n + 1) path at (omega (arith, within)))
place_from n (Gets place ∷ path) at within = omega (arith, place_from (n + 1) path at within)

unequal : (place n : ℕ) → place < n → (place == n) ≡ false
unequal place n below = grind (arith, nat_tests)

equal : (n : ℕ) → (n == n) ≡ true
equal n = grind (arith, nat_tests)

-- no entry has a place below the first index
none_below : (place n : ℕ) (path : List RecordedStep) → place < n → map (claimed_at place) (entries_from n path) ≡ entries_from n path
none_below place n [] below = refl
none_below place n (Submits one ∷ path) below =
    ap (λ b. entry_before one n (list_any (gets n) path || b) (map (claimed_at place) (entries_from (n + 1) path))) (unequal place n below)
    ∙ (ap (λ got. entry_before one n got (map (claimed_at place) (entries_from (n + 1) path))) (or_no (list_any (gets n) path))
    ∙ ap (entry_before one n (list_any (gets n) path)) (none_below place (n + 1) path (omega (arith, below))))
none_below place n (Gets one ∷ path) below = none_below place (n + 1) path (omega (arith, below))

abbrev pub claimed : SubmitEntry → SubmitEntry
claimed entry = record { job = entry.job; place = entry.place; got = true }

or_yes : (b : Bool) → (b || true) ≡ true
or_yes true = refl
or_yes false = refl

above : (n place : ℕ) → n + 1 ≤ place → (place == n) ≡ false
above n place le = grind (arith, nat_tests)

set_from : (n : ℕ) (path : List RecordedStep) (at : ℕ) → at < length (entries_from n path)
    → map (claimed_at (place_at (entries_from n path) at)) (entries_from n path) ≡ set (entries_from n path) at (claimed (entry_at (entries_from n path) at))
set_from n [] at within = absurd (omega (arith, within))
set_from n (Submits one ∷ path) zero within =
    ap (λ b. entry_before one n (list_any (gets n) path || b) (map (claimed_at n) (entries_from (n + 1) path))) (equal n)
    ∙ (ap (λ got. entry_before one n got (map (claimed_at n) (entries_from (n + 1) path))) (or_yes (list_any (gets n) path))
    ∙ ap (entry_before one n true) (none_below n (n + 1) path (omega arith)))
set_from n (Submits one ∷ path) (suc at) within =
    let place = place_at (entries_from (n + 1) path) at in
    ap (λ b. entry_before one n (list_any (gets n) path || b) (map (claimed_at place) (entries_from (n + 1) path))) (above n place (place_from (n + 1) path at (omega (arith, within))))
    ∙ (ap (λ got. entry_before one n got (map (claimed_at place) (entries_from (n + 1) path))) (or_no (list_any (gets n) path))
    ∙ ap (entry_before one n (list_any (gets n) path)) (set_from (n + 1) path at (omega (arith, within))))
set_from n (Gets one ∷ path) at within = set_from (n + 1) path at within

-- after a get of the job of an entry, that entry alone changes
pub entries_get : (path : List RecordedStep) (at : ℕ) → at < length (entries_of path) → entries_of (path ++ Gets (place_at (entries_of path) at) ∷ []) ≡ set (entries_of path) at (claimed (entry_at (entries_of path) at))
unfolding entries_of
entries_get path at within = get_from 0 path (place_at (entries_from 0 path) at) ∙ set_from 0 path at within

-- ---- whether the job of an entry was got
one_less : (n place : ℕ) → n + 1 ≤ place → suc (place - (n + 1) + 1) ≡ place - n + 1
one_less n place le = omega arith

at_first : (n : ℕ) → 1 ≡ n - n + 1
at_first n = omega arith

got_from : (n : ℕ) (path : List RecordedStep) (at : ℕ) → at < length (entries_from n path)
    → (entry_at (entries_from n path) at).got ≡ list_any (gets (place_at (entries_from n path) at)) (drop (place_at (entries_from n path) at - n + 1) path)
got_from n [] at within = absurd (omega (arith, within))
got_from n (Submits one ∷ path) zero within = ap (λ k. list_any (gets n) (drop k (Submits one ∷ path))) (at_first n)
got_from n (Submits one ∷ path) (suc at) within =
    let place = place_at (entries_from (n + 1) path) at in
    let le : n + 1 ≤ place = place_from (n + 1) path at (omega (arith, within)) in
    got_from (n + 1) path at (omega (arith, within)) ∙ ap (λ k. list_any (gets place) (drop k (Submits one ∷ path))) (one_less n place le)
got_from n (Gets one ∷ path) at within =
    let place = place_at (entries_from (n + 1) path) at in
    let le : n + 1 ≤ place = place_from (n + 1) path at within in
    got_from (n + 1) path at within ∙ ap (λ k. list_any (gets place) (drop k (Gets one ∷ path))) (one_less n place le)

-- ---- the index of the last submit of a job
abbrev shift : ℕ → Option ℕ → Option ℕ
shift n None = None
shift n (Some place) = Some (n + place)

other : (a b : ℕ) → a ≢ b → (a == b) ≡ false
other a b differs = grind (arith, nat_tests, differs)

same : (a b : ℕ) → a ≡ b → (a == b) ≡ true
same a b is = grind (arith, nat_tests)

absent_from : (n : ℕ) (path : List RecordedStep) (job : ℕ) → IsAbsent (entries_from n path) job → submit_place job path ≡ None
absent_from n [] job absent = refl
absent_from n (Submits one ∷ path) job absent =
    ap (place_on (one == job)) (absent_from (n + 1) path job (λ k within. absent (suc k) (omega (arith, within))))
    ∙ ap (λ b. place_on b None) (other one job (absent 0 (omega arith)))
absent_from n (Gets place ∷ path) job absent = ap (place_on false) (absent_from (n + 1) path job absent)

further : (n : ℕ) (b : Bool) (there : Option ℕ) (place : ℕ) → shift (n + 1) there ≡ Some place → shift n (place_on b there) ≡ Some place
further n b (Some k) place is = ap Some (move n k) ∙ is
  where
    move : (n k : ℕ) → n + (k + 1) ≡ n + 1 + k
    move n k = omega arith
further n b None place is = grind (arith, is)

last_from : (n : ℕ) (path : List RecordedStep) (job at : ℕ) → IsLastOf (entries_from n path) job at → shift n (submit_place job path) ≡ Some (place_at (entries_from n path) at)
last_from n [] job at last = absurd (omega (arith, last.within))
last_from n (Submits one ∷ path) job zero last =
    ap (λ there. shift n (place_on (one == job) there)) (absent_from (n + 1) path job (λ k within. last.last (suc k) (omega arith) (omega (arith, within))))
    ∙ (ap (λ b. shift n (place_on b None)) (same one job last.is) ∙ ap Some (sym (at_end n)))
last_from n (Submits one ∷ path) job (suc at) last =
    let rest : IsLastOf (entries_from (n + 1) path) job at = record { within = omega (arith, last.within); is = last.is; last = λ k later within. last.last (suc k) (omega (arith, later)) (omega (arith, within)) } in
    further n (one == job) (submit_place job path) (place_at (entries_from (n + 1) path) at) (last_from (n + 1) path job at rest)
last_from n (Gets place ∷ path) job at last = further n false (submit_place job path) (place_at (entries_from (n + 1) path) at) (last_from (n + 1) path job at last)

unshift : (there : Option ℕ) (place : ℕ) → shift 0 there ≡ Some place → there ≡ Some place
unshift None place is = is
unshift (Some k) place is = ap Some (sym (from_0 k)) ∙ is

last_place : (path : List RecordedStep) (job at : ℕ) → IsLastOf (entries_of path) job at → submit_place job path ≡ Some (place_at (entries_of path) at)
unfolding entries_of
last_place path job at last = unshift (submit_place job path) (place_at (entries_from 0 path) at) (last_from 0 path job at last)

less_0 : (n : ℕ) → n - 0 ≡ n
less_0 n = omega arith

got_at : (path : List RecordedStep) (at : ℕ) → at < length (entries_of path) → (entry_at (entries_of path) at).got ≡ is_got (place_at (entries_of path) at) path
unfolding entries_of
got_at path at within = got_from 0 path at within ∙ ap (λ k. list_any (gets (place_at (entries_from 0 path) at)) (drop (k + 1) path)) (less_0 (place_at (entries_from 0 path) at))

-- ---- a get of the job
pub get_absent : (path : List RecordedStep) (job : ℕ) → IsAbsent (entries_of path) job → with_get job path ≡ path
unfolding entries_of
get_absent path job absent = ap (λ there. with_get_at there path) (absent_from 0 path job absent)

get_is : (path : List RecordedStep) (job at : ℕ) → IsLastOf (entries_of path) job at → (got : Bool) → (entry_at (entries_of path) at).got ≡ got
    → with_get job path ≡ (if got then path else path ++ Gets (place_at (entries_of path) at) ∷ [])
get_is path job at last got is =
    let place = place_at (entries_of path) at in
    ap (λ there. with_get_at there path) (last_place path job at last) ∙ ap (λ (b : Bool). if b then path else path ++ Gets place ∷ []) (sym (got_at path at last.within) ∙ is)

pub get_again : (path : List RecordedStep) (job at : ℕ) → IsLastOf (entries_of path) job at → (entry_at (entries_of path) at).got ≡ true → with_get job path ≡ path
get_again path job at last is = get_is path job at last true is

pub get_first : (path : List RecordedStep) (job at : ℕ) → IsLastOf (entries_of path) job at → (entry_at (entries_of path) at).got ≡ false → with_get job path ≡ path ++ Gets (entry_at (entries_of path) at).place ∷ []
get_first path job at last is = get_is path job at last false is

-- ---- a submit that is removed
the_submit : (job : ℕ) (step : RecordedStep) → submits job step ≡ true → step ≡ Submits job
the_submit job (Submits one) is = ap Submits (number one job is)
  where
    number : (a b : ℕ) → (a == b) ≡ true → a ≡ b
    number a b h = grind (arith, nat_tests, h)
the_submit job (Gets place) is = grind (arith, is)

less_one : (n : ℕ) → suc n - 1 ≡ n
less_one n = omega arith

last_submit_of : (job : ℕ) (step : RecordedStep) (path : List RecordedStep) → is_submit_there job (slice_get (step ∷ path) (length path)) ≡ true → step ∷ path ≡ take (length path) (step ∷ path) ++ Submits job ∷ []
last_submit_of job step [] is = ap (λ one. one ∷ []) (the_submit job step is)
last_submit_of job first (step ∷ path) is = ap (λ rest. first ∷ rest) (last_submit_of job step path is)

last_submit : (job : ℕ) (path : List RecordedStep) → is_submit_there job (slice_get path (length path - 1)) ≡ true → path ≡ take (length path - 1) path ++ Submits job ∷ []
last_submit job [] is = grind (arith, is)
last_submit job (step ∷ path) is =
    last_submit_of job step path (subst (λ n. is_submit_there job (slice_get (step ∷ path) n) ≡ true) (less_one (length path)) is)
    ∙ ap (λ n. take n (step ∷ path) ++ Submits job ∷ []) (sym (less_one (length path)))

all_but_last : {X : Type 0} (front : List X) (one : X) → front ≡ take (length (front ++ one ∷ []) - 1) (front ++ one ∷ [])
all_but_last front one = sym (take_at front (one ∷ []) (length (front ++ one ∷ []) - 1) (omega (arith, length_push front one)))

pub entries_drop : (job : ℕ) (path : List RecordedStep) → ends_with_submit job path ≡ true → entries_of (take (length path - 1) path) ≡ take (length (entries_of path) - 1) (entries_of path)
unfolding ends_with_submit
entries_drop job path is =
    let front = take (length path - 1) path in
    let whole : entries_of path ≡ entries_of front ++ unclaimed job (length front) ∷ [] = ap entries_of (last_submit job path is) ∙ entries_submit front job in
    all_but_last (entries_of front) (unclaimed job (length front)) ∙ ap (λ entries. take (length entries - 1) entries) (sym whole)

-- ---- the order of the job numbers
pub ascending_none : IsAscending []
ascending_none i j below within = absurd (omega (arith, within))

pub ascending_take : (n : ℕ) (entries : List SubmitEntry) → IsAscending entries → IsAscending (take n entries)
ascending_take n entries ascending i j below within =
    let short : length (take n entries) ≤ n = grind (arith, length-take n entries) in
    let short_too : length (take n entries) ≤ length entries = grind (arith, length-take n entries) in
    subst (λ (one : SubmitEntry). one.job < job_at (take n entries) j) (sym (get_or-take n entries i (unclaimed 0 0) (omega (arith, below, within, short))))
    (subst (λ (one : SubmitEntry). job_at entries i < one.job) (sym (get_or-take n entries j (unclaimed 0 0) (omega (arith, within, short))))
    (ascending i j below (omega (arith, within, short_too))))

pub ascending_push : (entries : List SubmitEntry) (job place : ℕ) → IsAscending entries → IsAboveLast entries job → IsAscending (entries ++ unclaimed job place ∷ [])
ascending_push entries job place ascending above i j below within =
    let pushed = length_push entries (unclaimed job place) in
    let inside : i < length entries = omega (arith, below, within, pushed) in
    let left : entry_at (entries ++ unclaimed job place ∷ []) i ≡ entry_at entries i = get_or_append_left entries (unclaimed job place ∷ []) (unclaimed 0 0) i inside in
    subst (λ (one : SubmitEntry). one.job < job_at (entries ++ unclaimed job place ∷ []) j) (sym left) (elim (cases_lt j (length entries)) [
      | inl before ↦ subst (λ (one : SubmitEntry). job_at entries i < one.job) (sym (get_or_append_left entries (unclaimed job place ∷ []) (unclaimed 0 0) j before)) (ascending i j below before)
      | inr after ↦ subst (λ (one : SubmitEntry). job_at entries i < one.job) (sym (get_or_push entries (unclaimed job place) (unclaimed 0 0) j (omega (arith, after, within, pushed)))) (below_last i inside)
    ])
  where
    below_last : (i : ℕ) → i < length entries → job_at entries i < job
    below_last i inside = elim (cases_lt (i + 1) (length entries)) [
      | inl before ↦ omega (arith, ascending i (length entries - 1) (omega (arith, before)) (omega (arith, before)), above (length entries - 1) (omega (arith, before)))
      | inr after ↦ above i (omega (arith, inside, after))
    ]

job_stays : (entries : List SubmitEntry) (at i : ℕ) → at < length entries → job_at (set entries at (claimed (entry_at entries at))) i ≡ job_at entries i
job_stays entries at i within = elim (cases_eq i at) [
  | inl is ↦ subst (λ k. job_at (set entries at (claimed (entry_at entries at))) k ≡ job_at entries k) (sym is) (ap (λ (one : SubmitEntry). one.job) (get_or-set_same entries at (claimed (entry_at entries at)) (unclaimed 0 0) within))
  | inr differs ↦ ap (λ (one : SubmitEntry). one.job) (get_or-set_other entries at i (claimed (entry_at entries at)) (unclaimed 0 0) differs)
]

pub ascending_set : (entries : List SubmitEntry) (at : ℕ) → at < length entries → IsAscending entries → IsAscending (set entries at (claimed (entry_at entries at)))
ascending_set entries at within ascending i j below inside =
    let same_length : length (set entries at (claimed (entry_at entries at))) ≡ length entries = length-set entries at (claimed (entry_at entries at)) in
    subst (λ k. k < job_at (set entries at (claimed (entry_at entries at))) j) (sym (job_stays entries at i within))
    (subst (λ k. job_at entries i < k) (sym (job_stays entries at j within)) (ascending i j below (omega (arith, inside, same_length))))

-- ---- the look-up
some_there : (entries : List SubmitEntry) (i : ℕ) (one : SubmitEntry) → slice_get entries i ≡ Some one → entry_at entries i ≡ one
some_there [] i one is = grind (arith, is)
some_there (first ∷ entries) zero one is = grind (arith, is)
some_there (first ∷ entries) (suc i) one is = some_there entries i one is

none_there : (entries : List SubmitEntry) (i : ℕ) → slice_get entries i ≡ None → length entries ≤ i
none_there [] i is = omega arith
none_there (first ∷ entries) zero is = grind (arith, is)
none_there (first ∷ entries) (suc i) is = omega (arith, none_there entries i is)

pub above_last : (entries : List SubmitEntry) (one : SubmitEntry) (job : ℕ) → slice_get entries (length entries - 1) ≡ Some one → one.job < job → IsAboveLast entries job
above_last entries one job is below i last =
    let there : entry_at entries (length entries - 1) ≡ one = some_there entries (length entries - 1) one is in
    subst (λ k. job_at entries k < job) (index i (length entries) last) (subst (λ (e : SubmitEntry). e.job < job) (sym there) below)
  where
    index : (i n : ℕ) → i + 1 ≡ n → n - 1 ≡ i
    index i n last = omega (arith, last)

pub above_none : (entries : List SubmitEntry) (job : ℕ) → slice_get entries (length entries - 1) ≡ None → IsAboveLast entries job
above_none entries job is i last = absurd (omega (arith, last, none_there entries (length entries - 1) is))

-- the comparisons with the job rise along the ascending entries, as a binary search asks
comparisons_rise : (entries : List SubmitEntry) (job : ℕ) → IsAscending entries → IsNonDecreasingBy (λ (entry : SubmitEntry). ordering_index (nat_cmp entry.job job)) entries
comparisons_rise entries job ascending = IsNonDecreasingBy-from_default (λ (entry : SubmitEntry). ordering_index (nat_cmp entry.job job)) entries (unclaimed 0 0) (λ i j le in_range.
    let rise : job_at entries i ≤ job_at entries j = grind (arith, ascending i j, λ (same : i ≡ j). ap (job_at entries) same) in
    grind (arith, nat_tests))

pub searched : (entries : List SubmitEntry) (job : ℕ) → IsAscending entries → (r : Result ℕ ℕ) → IsSearchInRange r (length entries) → IsBinarySearchResult (λ (entry : SubmitEntry). nat_cmp entry.job job) entries r
    → record { found : IfOk r (IsLastOf entries job); absent : IfErr r (λ at. IsAbsent entries job) }
searched entries job ascending (Ok at) in_range equal =
    let is : job_at entries at ≡ job = ranked _ job _ (sym (equal (unclaimed 0 0))) in
    record {
      found = record { within = in_range; is = is; last = λ k later within here. omega (arith, is, here, ascending at k later within) };
      absent = tt;
    }
searched entries job ascending (Err at) in_range parted =
    let rises = comparisons_rise entries job ascending in
    record {
      found = tt;
      absent = λ k within here. elim (cases_lt k at) [
        | inl before ↦ omega (arith, here, ranked _ job _ (sym ((parted rises).0 k (unclaimed 0 0) (omega (arith, before, in_range)) before)))
        | inr after ↦ omega (arith, here, ranked _ job _ (sym ((parted rises).1 k (unclaimed 0 0) after within)))
      ];
    }

-- ---- what the calls leave
-- the index after a submit that is removed, where n and m are the lengths
pub dropped : (job n m : ℕ) (path path_then : List RecordedStep) (entries entries_then : List SubmitEntry) → ends_with_submit job path ≡ true → entries ≡ entries_of path → n ≡ length path → m ≡ length entries
    → path_then ≡ take (n - 1) path → entries_then ≡ take (m - 1) entries → entries_then ≡ entries_of path_then
dropped job n m path path_then entries entries_then ends are n_is m_is path_is entries_are =
    entries_are
    ∙ (ap (λ k. take (k - 1) entries) m_is
    ∙ (ap (λ (one : List SubmitEntry). take (length one - 1) one) are
    ∙ (sym (entries_drop job path ends) ∙ ap entries_of (ap (λ k. take (k - 1) path) (sym n_is) ∙ sym path_is))))

-- the index after a submit
pub pushed : (job place : ℕ) (path path_then : List RecordedStep) (entries entries_then : List SubmitEntry) → entries ≡ entries_of path → place ≡ length path → path_then ≡ path ++ Submits job ∷ []
    → entries_then ≡ entries ++ unclaimed job place ∷ [] → entries_then ≡ entries_of path_then
pushed job place path path_then entries entries_then are place_is path_is entries_are =
    entries_are
    ∙ (ap (λ k. entries ++ unclaimed job k ∷ []) place_is
    ∙ (ap (λ (one : List SubmitEntry). one ++ unclaimed job (length path) ∷ []) are ∙ (sym (entries_submit path job) ∙ ap entries_of (sym path_is))))

-- the index after a get
pub claims : (at : ℕ) (path path_then : List RecordedStep) (entries entries_then : List SubmitEntry) → entries ≡ entries_of path → at < length entries → path_then ≡ path ++ Gets (entry_at entries at).place ∷ []
    → entries_then ≡ set entries at (claimed (entry_at entries at)) → entries_then ≡ entries_of path_then
claims at path path_then entries entries_then are within path_is entries_are =
    let there : at < length (entries_of path) = subst (λ (one : List SubmitEntry). at < length one) are within in
    entries_are
    ∙ (ap (λ (one : List SubmitEntry). set one at (claimed (entry_at one at))) are
    ∙ (sym (entries_get path at there) ∙ ap entries_of (ap (λ (one : List SubmitEntry). path ++ Gets (place_at one at) ∷ []) (sym are) ∙ sym path_is)))

-- ---- what the look-up says of a get, where `steps` is the path and `entries` its index
pub found_nowhere : (path steps : List RecordedStep) (entries : List SubmitEntry) (job : ℕ) → steps ≡ path → entries ≡ entries_of steps → IsAbsent entries job → path ≡ with_get job path
found_nowhere path steps entries job path_is are absent =
    sym (subst (λ p. with_get job p ≡ p) path_is (get_absent steps job (subst (λ (es : List SubmitEntry). IsAbsent es job) are absent)))

pub found_again : (path steps : List RecordedStep) (entries : List SubmitEntry) (job at : ℕ) (one : SubmitEntry) → steps ≡ path → entries ≡ entries_of steps → IsLastOf entries job at → one ≡ entry_at entries at → one.got ≡ true → path ≡ with_get job path
found_again path steps entries job at one path_is are last one_is got =
    let there : IsLastOf (entries_of steps) job at = subst (λ (es : List SubmitEntry). IsLastOf es job at) are last in
    let entry : entry_at (entries_of steps) at ≡ one = sym (one_is ∙ ap (λ (es : List SubmitEntry). entry_at es at) are) in
    sym (subst (λ p. with_get job p ≡ p) path_is (get_again steps job at there (ap (λ (e : SubmitEntry). e.got) entry ∙ got)))

pub found_first : (path steps steps_then : List RecordedStep) (entries : List SubmitEntry) (job at : ℕ) (one two : SubmitEntry) → steps ≡ path → entries ≡ entries_of steps → IsLastOf entries job at → one ≡ entry_at entries at
    → one.got ≡ false → two ≡ entry_at entries at → steps_then ≡ steps ++ Gets two.place ∷ [] → steps_then ≡ with_get job path
found_first path steps steps_then entries job at one two path_is are last one_is got two_is then_is =
    let there : IsLastOf (entries_of steps) job at = subst (λ (es : List SubmitEntry). IsLastOf es job at) are last in
    let entry : entry_at (entries_of steps) at ≡ one = sym (one_is ∙ ap (λ (es : List SubmitEntry). entry_at es at) are) in
    let entry_two : two ≡ entry_at (entries_of steps) at = two_is ∙ ap (λ (es : List SubmitEntry). entry_at es at) are in
    then_is
    ∙ (ap (λ (e : SubmitEntry). steps ++ Gets e.place ∷ []) entry_two
    ∙ (sym (get_first steps job at there (ap (λ (e : SubmitEntry). e.got) entry ∙ got)) ∙ ap (with_get job) path_is))
