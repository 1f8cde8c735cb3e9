-- The numbers of the remaining actors, in a loop that pops them from a list.
use Rattle.std.proofs.Common.{◌≡◌, ◌<◌, ◌≤◌, ◌+◌, ◌==◌, ℕ, nat_eq, true, false, if◌then◌else◌, List, [], ◌∷◌, ◌++◌, length, slice_index_or, is_some, None, ap, sym, subst, ◌∙◌, arith}
use Rattle.std.specs.List.Sorted.{IsNonDecreasing}
use Rattle.std.specs.Set.{is_member}
use Rattle.std.proofs.lemmas.List.{get_or_append_left, get_or-append-add, length-append}
use Rattle.std.proofs.lemmas.List.Folds.{list_any-append, Any-from_list_any}
use Rattle.recordings.specs.declared.recording_line.RecordedActor.{RecordedActor}
use Rattle.recordings.specs.declared.recording_line.RecordedActor.TheVariants.{Job, Round}
use Rattle.recordings.specs.LineParts.{is_same_actor}
use Rattle.recordings.proofs.SubmitIndices.{same_self}
use Rattle.conformance.specs.declared.actor_table.ActorTable.{ActorTable}
use Rattle.conformance.specs.ActorTables.{in_table}
use Rattle.conformance.specs.RemainingActors.{AreNoneBelow, AreJobsAmong, AreRoundsAmong, HasNoJobs}
use Rattle.conformance.proofs.Words.{by_bool, apart, none_some, is_none_of, or_either, if_true, if_false}

-- ---- lists
equal_numbers : (a b : ℕ) → nat_eq a b ≡ true → a ≡ b
equal_numbers a b h = grind (arith, h)

last_is : (xs : List ℕ) (last d : ℕ) → slice_index_or (xs ++ last ∷ []) (length xs) d ≡ last
last_is xs last d =
    let at : length xs + 0 ≡ length xs = omega arith in
    subst (λ (k : ℕ). slice_index_or (xs ++ last ∷ []) k d ≡ last) at (get_or-append-add xs (last ∷ []) 0 d)

one_more : (xs : List ℕ) (last : ℕ) → length (xs ++ last ∷ []) ≡ length xs + 1
one_more xs last = length-append xs (last ∷ [])

pub sorted_front : (xs : List ℕ) (last : ℕ) → IsNonDecreasing (xs ++ last ∷ []) → IsNonDecreasing xs
sorted_front xs last sorted = λ i j d le low.
    let long = one_more xs last in
    let less : j < length (xs ++ last ∷ []) = omega (arith, long, low) in
    let first : i < length xs = omega (arith, le, low) in
    subst (λ (x : ℕ). x ≤ slice_index_or xs j d) (get_or_append_left xs (last ∷ []) d i first)
    (subst (λ (y : ℕ). slice_index_or (xs ++ last ∷ []) i d ≤ y) (get_or_append_left xs (last ∷ []) d j low) (sorted i j d le less))

below_last : (xs : List ℕ) (last job : ℕ) → IsNonDecreasing (xs ++ last ∷ []) → is_member nat_eq xs job ≡ true → job ≤ last
below_last xs last job sorted h =
    let a = Any-from_list_any (nat_eq job) xs h in
    let long = one_more xs last in
    let low : a.0 < length xs = a.2 in
    let up : a.0 ≤ length xs = omega (arith, low) in
    let less : length xs < length (xs ++ last ∷ []) = omega (arith, long) in
    let most : slice_index_or (xs ++ last ∷ []) a.0 a.1 ≤ slice_index_or (xs ++ last ∷ []) (length xs) a.1 = sorted a.0 (length xs) a.1 up less in
    let here : slice_index_or (xs ++ last ∷ []) a.0 a.1 ≡ slice_index_or xs a.0 a.1 = get_or_append_left xs (last ∷ []) a.1 a.0 low in
    let itself : slice_index_or xs a.0 a.1 ≡ a.1 = a.3 in
    let top : slice_index_or (xs ++ last ∷ []) (length xs) a.1 ≡ last = last_is xs last a.1 in
    let is : job ≡ a.1 = equal_numbers job a.1 a.4 in
    omega (arith, most, here, itself, top, is)

member_or : (xs : List ℕ) (last job : ℕ) → is_member nat_eq (xs ++ last ∷ []) job ≡ true → {P : Type 0} → (is_member nat_eq xs job ≡ true → P) → (job ≡ last → P) → P
member_or xs last job h front here =
    or_either (is_member nat_eq xs job) (is_member nat_eq (last ∷ []) job) (sym (list_any-append (nat_eq job) xs (last ∷ [])) ∙ h) front
    (λ g. here (equal_numbers job last (or_either (nat_eq job last) false g (λ e. e) (λ never. absurd (let e : false ≡ true = never in cc)))))

-- ---- jobs
pub none_below : (actors : ActorTable) (xs : List ℕ) (last : ℕ) → IsNonDecreasing (xs ++ last ∷ []) → AreJobsAmong actors (xs ++ last ∷ []) → AreNoneBelow actors (Job last)
none_below actors xs last sorted among = λ one less.
    by_bool (is_some (in_table actors (Job one)))
    (λ there.
    let most : one ≤ last = member_or xs last one (among one there) (λ front. below_last xs last one sorted front) (λ is. omega (arith, is)) in
    absurd (omega (arith, less, most)))
    (is_none_of (in_table actors (Job one)))

gone_itself : (old new : ActorTable) (actor one : RecordedActor) → ((one : RecordedActor) → in_table new one ≡ (if is_same_actor actor one then None else in_table old one)) → is_same_actor actor one ≡ true → in_table new one ≡ None
gone_itself old new actor one goes same = goes one ∙ if_true (is_same_actor actor one) None (in_table old one) same

was_there : (old new : ActorTable) (actor one : RecordedActor) → ((one : RecordedActor) → in_table new one ≡ (if is_same_actor actor one then None else in_table old one)) → is_some (in_table new one) ≡ true → (is_same_actor actor one ≡ false) × (is_some (in_table old one) ≡ true)
was_there old new actor one goes there = by_bool (is_same_actor actor one)
    (λ same. none_some (in_table new one) (gone_itself old new actor one goes same) there)
    (λ other. (other, ap is_some (sym (goes one ∙ if_false (is_same_actor actor one) None (in_table old one) other)) ∙ there))

pub jobs_among : (old new : ActorTable) (xs : List ℕ) (last : ℕ) → ((one : RecordedActor) → in_table new one ≡ (if is_same_actor (Job last) one then None else in_table old one)) → AreJobsAmong old (xs ++ last ∷ []) → AreJobsAmong new xs
jobs_among old new xs last goes among = λ job there.
    let was = was_there old new (Job last) (Job job) goes there in
    member_or xs last job (among job was.1) (λ front. front) (λ is. apart (last == job) (subst (λ (n : ℕ). (n == job) ≡ true) is (same_self job)) was.0)

pub jobs_still_none : (old new : ActorTable) (round : ℕ) → ((one : RecordedActor) → in_table new one ≡ (if is_same_actor (Round round) one then None else in_table old one)) → HasNoJobs old → HasNoJobs new
jobs_still_none old new round goes none = λ job. goes (Job job) ∙ none job

-- ---- rounds
pub rounds_among : (old new : ActorTable) (xs : List ℕ) (last : ℕ) → ((one : RecordedActor) → in_table new one ≡ (if is_same_actor (Round last) one then None else in_table old one)) → AreRoundsAmong old (xs ++ last ∷ []) → AreRoundsAmong new xs
rounds_among old new xs last goes among = λ round there.
    let was = was_there old new (Round last) (Round round) goes there in
    member_or xs last round (among round was.1) (λ front. front) (λ is. apart (last == round) (subst (λ (n : ℕ). (n == round) ≡ true) is (same_self round)) was.0)

-- The table has no job once the list is empty.
pub no_jobs : (actors : ActorTable) → AreJobsAmong actors [] → (job : ℕ) → in_table actors (Job job) ≡ None
no_jobs actors among job = by_bool (is_some (in_table actors (Job job))) (λ there. absurd (let e : false ≡ true = among job there in cc)) (is_none_of (in_table actors (Job job)))

pub no_rounds : (actors : ActorTable) → AreRoundsAmong actors [] → (round : ℕ) → in_table actors (Round round) ≡ None
no_rounds actors among round = by_bool (is_some (in_table actors (Round round))) (λ there. absurd (let e : false ≡ true = among round there in cc)) (is_none_of (in_table actors (Round round)))

pub nobody : (actors : ActorTable) → ((job : ℕ) → in_table actors (Job job) ≡ None) → ((round : ℕ) → in_table actors (Round round) ≡ None) → (actor : RecordedActor) → in_table actors actor ≡ None
nobody actors jobs rounds (Job job) = jobs job
nobody actors jobs rounds (Round round) = rounds round
