-- The first lines that meet some conditions, after one more line.
use Rattle.std.proofs.Common.{◌≡◌, ◌≤◌, ℕ, zero, suc, ◌+◌, ◌==◌, ◌&&◌, ◌||◌, Bool, true, false, if◌then◌else◌, List, [], ◌∷◌, ◌++◌, length, take, slice_get, Option, Some, None, refl, ap, sym, subst, ◌∙◌, string_bytes, option_map, length-take, arith}
use Rattle.std.specs.List.{list_any}
use Rattle.std.specs.Option.{unwrap_or}
use Rattle.std.specs.HashMap.{HashMap, get}
use Rattle.std.specs.Map.{lookup}
use Rattle.recordings.specs.declared.recording_line.RecordedActor.{RecordedActor}
use Rattle.recordings.specs.declared.recording_line.RecordedActor.TheVariants.{Job, Round}
use Rattle.recordings.specs.contracts.recording_line.RecordedActorPartialEq.TheImpl as actor_eq
use Rattle.recordings.specs.RecordingLine.{RecordedLine, Submits, RoundBegins, RoundEnds, JobEnds, JobThrew, Got, InvokesAny, Unseen}
use Rattle.recordings.specs.LineParts.{is_same_actor, submits_job, begins_round, ends_round, finishes_job}
use Rattle.recordings.specs.LineSteps.{gets_by}
use Rattle.conformance.specs.declared.first_lines.FoundLine.{FoundLine}
use Rattle.conformance.specs.declared.line_query.LineQuery.{LineQuery}
use Rattle.conformance.specs.declared.line_query.LineQuery.TheVariants as line_query
use Rattle.conformance.specs.LineQuery.{is_match, is_any, is_unseen, query_of, IsFirstLine, IsLabelOf}
use Rattle.conformance.specs.FirstLines.{is_same_query, IsSeenAs, IsFound, nowhere, somewhere, AreFirst, is_sought, is_without_line, NotesMatch, noted, passed, IsCopy, neither, both}
use Rattle.conformance.specs.Description.{number_seen}

-- ---- options and truth values
pub some_is : {X : Type 0} (x y : X) → Some x ≡ Some y → x ≡ y
some_is x y h = ap (λ o. unwrap_or o x) h

false_unless : (a : Bool) → (a ≡ true → false ≡ true) → a ≡ false
false_unless true wrong = sym (wrong refl)
false_unless false wrong = refl

pub and_both : (a b : Bool) → (a && b) ≡ true → (a ≡ true) × (b ≡ true)
and_both true b h = (refl, h)
and_both false b h = absurd (let e : false ≡ true = h in cc)

both_true : (a b : Bool) → a ≡ true → b ≡ true → (a && b) ≡ true
both_true a b first second = ap (λ x. x && b) first ∙ second

number_is_own : (n : ℕ) → (n == n) ≡ true
number_is_own n = grind arith

pub same_number : (n m : ℕ) → (n == m) ≡ true → n ≡ m
same_number n m h = grind (arith, h)

-- ---- the equality of conditions
pub same_actors : (one other : RecordedActor) → (actor_eq.ghosts).eq one other ≡ true → one ≡ other
same_actors (Job n) (Job m) h = ap Job (same_number n m h)
same_actors (Round n) (Round m) h = ap Round (same_number n m h)
same_actors one other h = absurd (let e : false ≡ true = h in cc)

own_actor : (one : RecordedActor) → (actor_eq.ghosts).eq one one ≡ true
own_actor (Job n) = number_is_own n
own_actor (Round n) = number_is_own n

same_query : (one other : LineQuery) → is_same_query one other ≡ true → one ≡ other
same_query (line_query.Submit n) (line_query.Submit m) h = ap line_query.Submit (same_number n m h)
same_query (line_query.Begin n) (line_query.Begin m) h = ap line_query.Begin (same_number n m h)
same_query (line_query.Got one n) (line_query.Got other m) h =
    let parts = and_both ((actor_eq.ghosts).eq one other) (n == m) h in
    ap (λ actor. line_query.Got actor n) (same_actors one other parts.0) ∙ ap (line_query.Got other) (same_number n m parts.1)
same_query (line_query.Last one) (line_query.Last other) h = ap line_query.Last (same_actors one other h)
same_query line_query.InvokesAny line_query.InvokesAny h = refl
same_query line_query.Unseen line_query.Unseen h = refl
same_query one other h = absurd (let e : false ≡ true = h in cc)

own_query : (one : LineQuery) → is_same_query one one ≡ true
own_query (line_query.Submit n) = number_is_own n
own_query (line_query.Begin n) = number_is_own n
own_query (line_query.Got actor n) = both_true ((actor_eq.ghosts).eq actor actor) (n == n) (own_actor actor) (number_is_own n)
own_query (line_query.Last actor) = own_actor actor
own_query line_query.InvokesAny = refl
own_query line_query.Unseen = refl

-- ---- the condition that a line meets
actor_is : (one other : RecordedActor) → is_same_actor one other ≡ true → one ≡ other
actor_is (Job n) (Job m) h = ap Job (same_number n m h)
actor_is (Round n) (Round m) h = ap Round (same_number n m h)
actor_is one other h = absurd (let e : false ≡ true = h in cc)

actor_is_own : (one : RecordedActor) → is_same_actor one one ≡ true
actor_is_own (Job n) = number_is_own n
actor_is_own (Round n) = number_is_own n

of_submit : (job : ℕ) (line : RecordedLine) → submits_job job line ≡ true → query_of line ≡ Some (line_query.Submit job)
of_submit job (Submits actor one class pool) h = ap (λ n. Some (line_query.Submit n)) (same_number one job h)
of_submit job line h = absurd (let e : false ≡ true = h in cc)

of_begin : (round : ℕ) (line : RecordedLine) → begins_round round line ≡ true → query_of line ≡ Some (line_query.Begin round)
of_begin round (RoundBegins one kind) h = ap (λ n. Some (line_query.Begin n)) (same_number one round h)
of_begin round line h = absurd (let e : false ≡ true = h in cc)

of_get : (actor : RecordedActor) (job : ℕ) (line : RecordedLine) → gets_by actor job line ≡ true → query_of line ≡ Some (line_query.Got actor job)
of_get actor job (Got who one) h =
    let parts = and_both (is_same_actor who actor) (one == job) h in
    ap (λ by. Some (line_query.Got by one)) (actor_is who actor parts.0) ∙ ap (λ n. Some (line_query.Got actor n)) (same_number one job parts.1)
of_get actor job line h = absurd (let e : false ≡ true = h in cc)

of_last_of_job : (job : ℕ) (line : RecordedLine) → finishes_job job line ≡ true → query_of line ≡ Some (line_query.Last (Job job))
of_last_of_job job (JobEnds one) h = ap (λ n. Some (line_query.Last (Job n))) (same_number one job h)
of_last_of_job job (JobThrew one) h = ap (λ n. Some (line_query.Last (Job n))) (same_number one job h)
of_last_of_job job line h = absurd (let e : false ≡ true = h in cc)

of_last_of_round : (round : ℕ) (line : RecordedLine) → ends_round round line ≡ true → query_of line ≡ Some (line_query.Last (Round round))
of_last_of_round round (RoundEnds one) h = ap (λ n. Some (line_query.Last (Round n))) (same_number one round h)
of_last_of_round round line h = absurd (let e : false ≡ true = h in cc)

of_any : (line : RecordedLine) → is_any line ≡ true → query_of line ≡ Some line_query.InvokesAny
of_any (InvokesAny actor pool) h = refl
of_any line h = absurd (let e : false ≡ true = h in cc)

of_unseen : (line : RecordedLine) → is_unseen line ≡ true → query_of line ≡ Some line_query.Unseen
of_unseen (Unseen pool jobs) h = refl
of_unseen line h = absurd (let e : false ≡ true = h in cc)

matched : (query : LineQuery) (line : RecordedLine) → is_match query line ≡ true → query_of line ≡ Some query
matched (line_query.Submit job) line h = of_submit job line h
matched (line_query.Begin round) line h = of_begin round line h
matched (line_query.Got actor job) line h = of_get actor job line h
matched (line_query.Last (Job job)) line h = of_last_of_job job line h
matched (line_query.Last (Round round)) line h = of_last_of_round round line h
matched line_query.InvokesAny line h = of_any line h
matched line_query.Unseen line h = of_unseen line h

match_is : (line : RecordedLine) (one query : LineQuery) → Some one ≡ Some query → is_match one line ≡ true → is_match query line ≡ true
match_is line one query is h = subst (λ (q : LineQuery). is_match q line ≡ true) (some_is one query is) h

matches : (line : RecordedLine) (query : LineQuery) → query_of line ≡ Some query → is_match query line ≡ true
matches (Submits actor job class pool) query is = match_is (Submits actor job class pool) (line_query.Submit job) query is (number_is_own job)
matches (RoundBegins round kind) query is = match_is (RoundBegins round kind) (line_query.Begin round) query is (number_is_own round)
matches (Got actor job) query is = match_is (Got actor job) (line_query.Got actor job) query is (both_true (is_same_actor actor actor) (job == job) (actor_is_own actor) (number_is_own job))
matches (RoundEnds round) query is = match_is (RoundEnds round) (line_query.Last (Round round)) query is (number_is_own round)
matches (JobEnds job) query is = match_is (JobEnds job) (line_query.Last (Job job)) query is (number_is_own job)
matches (JobThrew job) query is = match_is (JobThrew job) (line_query.Last (Job job)) query is (number_is_own job)
matches (InvokesAny actor pool) query is = match_is (InvokesAny actor pool) line_query.InvokesAny query is refl
matches (Unseen pool jobs) query is = match_is (Unseen pool jobs) line_query.Unseen query is refl
matches line query is = absurd (let e : None ≡ Some query = is in cc)

-- ---- one more line
any_last_if : {X : Type 0} (p : X → Bool) (first : Bool) (before : List X) (one : X) → (first || list_any p before) ≡ false → (list_any p before ≡ false → p one ≡ false → list_any p (before ++ one ∷ []) ≡ false) → p one ≡ false
    → (first || list_any p (before ++ one ∷ [])) ≡ false
any_last_if p true before one h rest last = h
any_last_if p false before one h rest last = rest h last

any_last : {X : Type 0} (p : X → Bool) (before : List X) (one : X) → list_any p before ≡ false → p one ≡ false → list_any p (before ++ one ∷ []) ≡ false
any_last p [] one h last = grind (arith, last)
any_last p (first ∷ before) one h last = any_last_if p (p first) before one h (any_last p before one) last

get_more : {X : Type 0} (xs ys : List X) (i : ℕ) (x : X) → slice_get xs i ≡ Some x → slice_get (xs ++ ys) i ≡ Some x
get_more [] ys i x h = absurd (let e : None ≡ Some x = h in cc)
get_more (first ∷ xs) ys zero x h = h
get_more (first ∷ xs) ys (suc i) x h = get_more xs ys i x h

taken_more : {X : Type 0} (xs ys : List X) (i : ℕ) (x : X) → slice_get xs i ≡ Some x → take i (xs ++ ys) ≡ take i xs
taken_more [] ys i x h = absurd (let e : None ≡ Some x = h in cc)
taken_more (first ∷ xs) ys zero x h = refl
taken_more (first ∷ xs) ys (suc i) x h = ap (λ rest. first ∷ rest) (taken_more xs ys i x h)

last_there : {X : Type 0} (xs : List X) (x : X) → slice_get (xs ++ x ∷ []) (length xs) ≡ Some x
last_there [] x = refl
last_there (first ∷ xs) x = last_there xs x

all_before : {X : Type 0} (xs : List X) (x : X) → take (length xs) (xs ++ x ∷ []) ≡ xs
all_before [] x = refl
all_before (first ∷ xs) x = ap (λ rest. first ∷ rest) (all_before xs x)

found_more : (before : List RecordedLine) (line : RecordedLine) (query : LineQuery) (found : Option FoundLine) → (found ≡ None → is_match query line ≡ false) → IsFound before query found → IsFound (before ++ line ∷ []) query found
found_more before line query _ none (nowhere h) = nowhere (any_last (is_match query) before line h (none refl))
found_more before line query _ none (somewhere number there found first seen) =
    somewhere number there found
    (record {
      before = first.before;
      number_is = first.number_is;
      there = get_more before (line ∷ []) first.before there first.there;
      is = first.is;
      none_before = ap (list_any (is_match query)) (taken_more before (line ∷ []) first.before there first.there) ∙ first.none_before;
    })
    seen

found_last : (before : List RecordedLine) (line : RecordedLine) (query : LineQuery) (number : ℕ) (found : FoundLine) → number ≡ length before + 1 → is_match query line ≡ true → list_any (is_match query) before ≡ false → IsSeenAs number line found
    → IsFound (before ++ line ∷ []) query (Some found)
found_last before line query number found at is none seen =
    somewhere number line found (record { before = length before; number_is = at; there = last_there before line; is = is; none_before = ap (list_any (is_match query)) (all_before before line) ∙ none }) seen

nowhere_yet : (before : List RecordedLine) (query : LineQuery) (found : Option FoundLine) → found ≡ None → IsFound before query found → list_any (is_match query) before ≡ false
nowhere_yet before query _ is (nowhere h) = h
nowhere_yet before query _ is (somewhere number line found first seen) = absurd (let e : Some found ≡ None = is in cc)

pub empty_if : {X : Type 0} (xs : List X) → length xs ≡ 0 → xs ≡ []
empty_if [] h = refl
empty_if (x ∷ xs) h = absurd (let e : ⊥ = omega (arith, h) in e)

sought_is : (there : Option (Option FoundLine)) → is_without_line there ≡ true → there ≡ Some None
sought_is None h = absurd (let e : false ≡ true = h in cc)
sought_is (Some None) h = refl
sought_is (Some (Some found)) h = absurd (let e : false ≡ true = h in cc)

module _ {S : Type 0} where
  noted_if : (query : LineQuery) (number : ℕ) (line : RecordedLine) (before : List RecordedLine) (old : HashMap LineQuery (Option FoundLine) S) (found : FoundLine) → query_of line ≡ Some query → number ≡ length before + 1 → is_sought old query ≡ true → IsSeenAs number line found
      → AreFirst before old → (one : LineQuery) (entry : Option FoundLine) (same : Bool) → is_same_query query one ≡ same → (if same then Some (Some found) else get is_same_query old one) ≡ Some entry → IsFound (before ++ line ∷ []) one entry
  noted_if query number line before old found at next sought seen first one entry true same is =
      let own : query ≡ one = same_query query one same in
      let none = nowhere_yet before query None refl (first query None (sought_is (get is_same_query old query) sought)) in
      subst (λ (f : Option FoundLine). IsFound (before ++ line ∷ []) one f) (some_is (Some found) entry is)
      (subst (λ (q : LineQuery). IsFound (before ++ line ∷ []) q (Some found)) own (found_last before line query number found next (matches line query at) none seen))
  noted_if query number line before old found at next sought seen first one entry false same is =
      found_more before line one entry
      (λ _. false_unless (is_match one line)
      (λ h. let own : query ≡ one = some_is query one (sym at ∙ matched one line h) in
      sym same ∙ (ap (is_same_query query) (sym own) ∙ own_query query)))
      (first one entry is)

  pub match_noted : (query : LineQuery) (number : ℕ) (line : RecordedLine) (before : List RecordedLine) (old new : HashMap LineQuery (Option FoundLine) S) → query_of line ≡ Some query → number ≡ length before + 1 → AreFirst before old → NotesMatch query number line old new
      → AreFirst (before ++ line ∷ []) new
  match_noted query number line before old new at next first (noted sought found seen lines) = λ one entry is.
      noted_if query number line before old found at next sought seen first one entry (is_same_query query one) refl (sym (lines one) ∙ is)
  match_noted query number line before old new at next first (passed sought same) = λ one entry is.
      let there : get is_same_query old one ≡ Some entry = ap (λ (table : HashMap LineQuery (Option FoundLine) S). get is_same_query table one) (sym same) ∙ is in
      found_more before line one entry
      (λ none. false_unless (is_match one line)
      (λ h. let own : query ≡ one = some_is query one (sym at ∙ matched one line h) in
      sym sought ∙ (ap (λ (q : LineQuery). is_sought old q) own ∙ ap is_without_line (there ∙ ap Some none))))
      (first one entry there)

  pub none_noted : (line : RecordedLine) (before : List RecordedLine) (table : HashMap LineQuery (Option FoundLine) S) → query_of line ≡ None → AreFirst before table → AreFirst (before ++ line ∷ []) table
  none_noted line before table at first = λ one entry is.
      found_more before line one entry (λ _. false_unless (is_match one line) (λ h. let e : None ≡ Some one = sym at ∙ matched one line h in absurd (let f : None ≡ Some one = e in cc))) (first one entry is)

  -- ---- conditions without a line
  sought_if : (query one : LineQuery) (old : HashMap LineQuery (Option FoundLine) S) → AreFirst [] old → (entry : Option FoundLine) (same : Bool) → (if same then Some None else get is_same_query old one) ≡ Some entry → IsFound [] one entry
  sought_if query one old first entry true is = subst (λ (f : Option FoundLine). IsFound [] one f) (some_is None entry is) (nowhere refl)
  sought_if query one old first entry false is = first one entry is

  pub sought_more : (query : LineQuery) (old new : HashMap LineQuery (Option FoundLine) S) → ((one : LineQuery) → get is_same_query new one ≡ (if is_same_query query one then Some None else get is_same_query old one)) → AreFirst [] old → AreFirst [] new
  sought_more query old new lines first = λ one entry is. sought_if query one old first entry (is_same_query query one) (sym (lines one) ∙ is)

  pub none_sought : (lines : List RecordedLine) (table : HashMap LineQuery (Option FoundLine) S) → table.entries ≡ [] → AreFirst lines table
  none_sought lines table empty = λ one entry is. let e : None ≡ Some entry = ap (λ entries. lookup (is_same_query one) entries) (sym empty) ∙ is in absurd (let f : None ≡ Some entry = e in cc)

  pub nothing_sought : (lines : List RecordedLine) (table : HashMap LineQuery (Option FoundLine) S) → length table.entries ≡ 0 → AreFirst lines table
  nothing_sought lines table none = none_sought lines table (empty_if table.entries none)

-- ---- what was found
copied_if : (lines : List RecordedLine) (query : LineQuery) (there : Option FoundLine) (found copy : FoundLine) → there ≡ Some found → copy.number ≡ found.number → string_bytes copy.label ≡ string_bytes found.label → string_bytes copy.pool ≡ string_bytes found.pool
    → IsFound lines query there → IsFound lines query (Some copy)
copied_if lines query _ found copy is number label pool (nowhere h) = absurd (let e : None ≡ Some found = is in cc)
copied_if lines query _ found copy is number label pool (somewhere at line one first seen) =
    let same : one ≡ found = some_is one found is in
    somewhere at line copy first (record {
      number_is = number ∙ (ap (λ (f : FoundLine). f.number) (sym same) ∙ seen.number_is);
      label_is = label ∙ (ap (λ (f : FoundLine). string_bytes f.label) (sym same) ∙ seen.label_is);
      pool_is = pool ∙ (ap (λ (f : FoundLine). string_bytes f.pool) (sym same) ∙ seen.pool_is);
    })

pub copied : (lines : List RecordedLine) (query : LineQuery) (found copy : Option FoundLine) → IsFound lines query found → IsCopy found copy → IsFound lines query copy
copied lines query _ _ is neither = is
copied lines query _ _ is (both found copy number label pool) = copied_if lines query (Some found) found copy refl number label pool is

label_if : (lines : List RecordedLine) (job : ℕ) (there : Option FoundLine) (found : FoundLine) → there ≡ Some found → IsFound lines (line_query.Submit job) there → IsLabelOf lines (Job job) (string_bytes found.label) (string_bytes found.pool)
label_if lines job _ found is (nowhere h) = absurd (let e : None ≡ Some found = is in cc)
label_if lines job _ found is (somewhere at line one first seen) =
    let same : one ≡ found = some_is one found is in
    record {
      found = Some (at, line);
      first = first;
      label_is = ap (λ (f : FoundLine). string_bytes f.label) (sym same) ∙ seen.label_is;
      pool_is = ap (λ (f : FoundLine). string_bytes f.pool) (sym same) ∙ seen.pool_is;
    }

pub label_found : (lines : List RecordedLine) (job : ℕ) (there : Option FoundLine) (found : FoundLine) → there ≡ Some found → IsFound lines (line_query.Submit job) there → IsLabelOf lines (Job job) (string_bytes found.label) (string_bytes found.pool)
label_found lines job there found is so = label_if lines job there found is so

pub no_label : (lines : List RecordedLine) (job : ℕ) (label pool : List ℕ) → label ≡ [] → pool ≡ [] → IsFound lines (line_query.Submit job) None → IsLabelOf lines (Job job) label pool
no_label lines job label pool label_is pool_is is = record { found = None; first = nowhere_yet lines (line_query.Submit job) None refl is; label_is = label_is; pool_is = pool_is }

-- The line that was found, and its number.
pub record IsLineFound (lines : List RecordedLine) (query : LineQuery) (found : Option FoundLine) : Type 0 where
  pub line : Option (ℕ × RecordedLine)
  pub first : IsFirstLine lines query line
  pub number_is : option_map (λ (one : FoundLine). one.number) found ≡ number_seen line

pub line_found : (lines : List RecordedLine) (query : LineQuery) (found : Option FoundLine) → IsFound lines query found → IsLineFound lines query found
line_found lines query _ (nowhere h) = record { line = None; first = h; number_is = refl }
line_found lines query _ (somewhere number line found first seen) = record { line = Some (number, line); first = first; number_is = ap Some seen.number_is }

-- The next line after those that were read.
pub taken_number : {X : Type 0} (xs : List X) (n : ℕ) → n ≤ length xs → n + 1 ≡ length (take n xs) + 1
taken_number xs n within = omega (arith, within, length-take n xs)
