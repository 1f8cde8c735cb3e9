-- The list of events after the pending event of a line's actor was decided, and after one more event.
use Rattle.std.proofs.Common.{◌≡◌, ◌<◌, ℕ, ◌+◌, ◌==◌, ◌&&◌, ◌||◌, not, Bool, true, false, if◌then◌else◌, cond, List, [], ◌∷◌, ◌++◌, map, Option, Some, None, refl, ap, sym, subst, ◌∙◌, arith}
use Rattle.std.specs.List.{AllByRecursion, list_any, filter}
use Rattle.std.specs.Option.{option_and_then, option_map, unwrap_or}
use Rattle.std.specs.BTreeMap.{BTreeMap, IsOrdered, get, keys, is_at, insert_entry}
use Rattle.std.specs.Map.{lookup, remove_entry, keys_of}
use Rattle.std.specs.Ordering.{nat_cmp, eq_by_cmp, is_eq}
use Rattle.std.specs.declared.cmp.Ordering.{Ordering}
use Rattle.std.specs.declared.cmp.Ordering.TheVariants.{Less, Equal, Greater}
use Rattle.std.proofs.lemmas.Cmp.{nat_cmp_total, eq_by_cmp_equiv, ranked}
use Rattle.std.proofs.lemmas.List.Elements.{recursion_from_All}
use Rattle.std.proofs.lemmas.Map.Entries.{none_past_head}
use Rattle.std.proofs.lemmas.Map.Keys.{IsDistinct-from_sorted, IsDistinct-tail}
use Rattle.std.proofs.lemmas.Map.Lookups.{exact_unsigned}
use Rattle.std.proofs.lemmas.Map.Views.{All-found}
use Rattle.std.specs.List.{IsDistinct}
use Rattle.recordings.specs.declared.recording_line.RecordedActor.{RecordedActor}
use Rattle.recordings.specs.declared.recording_line.RecordedActor.TheVariants.{Job, Round}
use Rattle.recordings.specs.RecordingLine.{RecordedLine, Refused, JobThrew, TimedOut, Interrupted, Cancels, InvokesAny, Removed, Unseen}
use Rattle.recordings.specs.LineParts.{actor_of, is_actor, is_of, is_same_actor}
use Rattle.recordings.specs.declared.invalidation.Invalidation.{Invalidation}
use Rattle.recordings.specs.declared.invalidation.InvalidatingEvent.{InvalidatingEvent}
use Rattle.recordings.specs.declared.invalidation.InvalidatingEvent.TheVariants as event
use Rattle.recordings.specs.declared.invalidation_list.InvalidationList.{InvalidationList}
use Rattle.recordings.specs.declared.pending_lines.PendingLines.{PendingLines}
use Rattle.recordings.specs.Invalidations.{is_same_type, repeats_get, event_of}
use Rattle.recordings.specs.InvalidationList.{InvalidationEntry, invalidations_in, can_be_excused, is_certain_first, excuses, ends_pending, is_excused_by, remains_after, with_pending_ended, entries_after_line, getter_of, line_in, is_line, is_pending_in, entry_in, kept_in, is_of_type, IsBefore, SettlesEvent, discards, ends, stays, HasNoPending, IsSettledBy, IsNotPending, new_entry, IsWithFirst, appended, skipped, IsWithEntry, entry_of, IsNoted, noted_pending, noted_certain, IsPushed}
use Rattle.recordings.proofs.EventsAfter.{asked_by}
use Rattle.recordings.proofs.Refusals.{same_actor}
use Rattle.recordings.proofs.Tests.{any_more}

-- ---- truth values
same_bool : (a b : Bool) → (a ≡ true → b ≡ true) → (b ≡ true → a ≡ true) → a ≡ b
same_bool true b there back = sym (there refl)
same_bool false true there back = back refl
same_bool false false there back = refl

false_unless : (a : Bool) → (a ≡ true → false ≡ true) → a ≡ false
false_unless true wrong = sym (wrong refl)
false_unless false wrong = refl

and_both : (a b : Bool) → (a && b) ≡ true → (a ≡ true) × (b ≡ true)
and_both true b h = (refl, h)
and_both false b h = absurd (let e : false ≡ true = h in cc)

both_true : (a b : Bool) → a ≡ true → b ≡ true → (a && b) ≡ true
both_true a b first second = ap (λ x. x && b) first ∙ second

and_false : (a : Bool) → (a && false) ≡ false
and_false true = refl
and_false false = refl

and_true : (a : Bool) → (a && true) ≡ a
and_true true = refl
and_true false = refl

or_right : (a b : Bool) → b ≡ true → (a || b) ≡ true
or_right true b h = refl
or_right false b h = h

or_left : (a b : Bool) → a ≡ true → (a || b) ≡ true
or_left a b h = ap (λ x. x || b) h

or_elim : {P : Type 0} (a b : Bool) → (a ≡ true → P) → (b ≡ true → P) → (a || b) ≡ true → P
or_elim true b first second h = first refl
or_elim false b first second h = second h

none_is_some : {X : Type 0} (x : X) → None ≡ Some x → false ≡ true
none_is_some x h = absurd (let e : None ≡ Some x = h in cc)

some_is : {X : Type 0} (x y : X) → Some x ≡ Some y → x ≡ y
some_is x y h = ap (λ o. unwrap_or o x) h

-- ---- lists
all_both : {X : Type 0} {P Q R : X → Type 0} → ((x : X) → P x → Q x → R x) → (xs : List X) → AllByRecursion P xs → AllByRecursion Q xs → AllByRecursion R xs
all_both both [] p q = p
all_both both (x ∷ xs) p q = (both x p.0 q.0, all_both both xs p.1 q.1)

all_weaker : {X : Type 0} {P Q : X → Type 0} → ((x : X) → P x → Q x) → (xs : List X) → AllByRecursion P xs → AllByRecursion Q xs
all_weaker weaker xs p = all_both (λ x h _. weaker x h) xs p p

-- ---- the line that settles an event
-- The index of pending events, without the line's actor.
abbrev IsWithout : RecordedActor → PendingLines → PendingLines → Type 0
IsWithout actor old new = (one : RecordedActor) → line_in new one ≡ (if is_same_actor actor one then None else line_in old one)

at_actor : (actor one : RecordedActor) (line : RecordedLine) → actor_of line ≡ Some actor → is_of one line ≡ is_same_actor actor one
at_actor actor one line at = ap (λ (of : Option RecordedActor). is_actor one of) at

is_line_if : (number : ℕ) (same : Bool) (there : Option ℕ) → is_line number (if same then None else there) ≡ (is_line number there && not same)
is_line_if number true there = sym (and_false (is_line number there))
is_line_if number false there = sym (and_true (is_line number there))

flag_after : (actor : RecordedActor) (old new : PendingLines) (line : RecordedLine) → actor_of line ≡ Some actor → IsWithout actor old new → (number : ℕ) (event : InvalidatingEvent)
    → is_line number (option_and_then (line_in new) (getter_of event)) ≡ (is_line number (option_and_then (line_in old) (getter_of event)) && not (ends_pending line event))
flag_after actor old new line at rest number (event.TimedOut one job) =
    ap (is_line number) (rest one) ∙ (is_line_if number (is_same_actor actor one) (line_in old one) ∙ ap (λ b. is_line number (line_in old one) && not b) (sym (at_actor actor one line at)))
flag_after actor old new line at rest number (event.Interrupted one job) =
    ap (is_line number) (rest one) ∙ (is_line_if number (is_same_actor actor one) (line_in old one) ∙ ap (λ b. is_line number (line_in old one) && not b) (sym (at_actor actor one line at)))
flag_after actor old new line at rest number event = refl

abbrev entry_with : Invalidation → Bool → InvalidationEntry
entry_with one flag = record { invalidation = one; pending = flag }

abbrev Ends : PendingLines → PendingLines → RecordedLine → Type 0
Ends old new line = (stored : ℕ × Invalidation) → entry_in new stored ≡ with_pending_ended line (entry_in old stored)

entry_after : (actor : RecordedActor) (old new : PendingLines) (line : RecordedLine) → actor_of line ≡ Some actor → IsWithout actor old new → Ends old new line
entry_after actor old new line at rest stored = ap (entry_with stored.1) (flag_after actor old new line at rest stored.0 stored.1.event)

-- The actor whose next line can discard the event is that of a line that does.
getter_excused : (actor : RecordedActor) (line : RecordedLine) → actor_of line ≡ Some actor → (event : InvalidatingEvent) → excuses line event ≡ true → getter_of event ≡ Some actor
getter_excused actor line at (event.TimedOut one job) h = ap Some (sym (same_actor actor one (sym (at_actor actor one line at) ∙ asked_by one job line h)))
getter_excused actor line at (event.Interrupted one job) h = ap Some (sym (same_actor actor one (sym (at_actor actor one line at) ∙ asked_by one job line h)))
getter_excused actor line at event h = absurd (let e : false ≡ true = h in cc)

line_is : (number : ℕ) (there : Option ℕ) → is_line number there ≡ true → there ≡ Some number
line_is number None h = absurd (let e : false ≡ true = h in cc)
line_is number (Some line) h = ap Some (grind (arith, h))

-- Only the event of the actor's line in the index is discarded.
discarded : (actor : RecordedActor) (old : PendingLines) (line : RecordedLine) → actor_of line ≡ Some actor → (stored : ℕ × Invalidation) → is_excused_by line (entry_in old stored) ≡ true → line_in old actor ≡ Some stored.0
discarded actor old line at stored h =
    let both = and_both (is_pending_in old stored) (excuses line stored.1.event) h in
    let own = getter_excused actor line at stored.1.event both.1 in
    line_is stored.0 (line_in old actor) (sym (ap (λ (getter : Option RecordedActor). is_line stored.0 (option_and_then (line_in old) getter)) own) ∙ both.0)

remaining_if : (line : RecordedLine) (excused : Bool) (x : InvalidationEntry) (xs : List InvalidationEntry) → excused ≡ false → map (with_pending_ended line) (if not excused then x ∷ xs else xs) ≡ with_pending_ended line x ∷ map (with_pending_ended line) xs
remaining_if line true x xs h = absurd (let e : true ≡ false = h in cc)
remaining_if line false x xs h = refl

gone_if : (line : RecordedLine) (excused : Bool) (x : InvalidationEntry) (xs : List InvalidationEntry) → excused ≡ true → map (with_pending_ended line) (if not excused then x ∷ xs else xs) ≡ map (with_pending_ended line) xs
gone_if line true x xs h = refl
gone_if line false x xs h = absurd (let e : false ≡ true = h in cc)

abbrev remaining : RecordedLine → PendingLines → List (ℕ × Invalidation) → List InvalidationEntry
remaining line old stored = filter (remains_after line) (map (entry_in old) stored)

none_goes : (old new : PendingLines) (line : RecordedLine) → Ends old new line → (stored : List (ℕ × Invalidation)) → AllByRecursion (λ one. is_excused_by line (entry_in old one) ≡ false) stored
    → map (entry_in new) stored ≡ entries_after_line line (map (entry_in old) stored)
none_goes old new line after [] all = refl
none_goes old new line after (one ∷ stored) all =
    ap (λ (x : InvalidationEntry). x ∷ map (entry_in new) stored) (after one)
    ∙ (ap (λ (xs : List InvalidationEntry). with_pending_ended line (entry_in old one) ∷ xs) (none_goes old new line after stored all.1)
    ∙ sym (remaining_if line (is_excused_by line (entry_in old one)) (entry_in old one) (remaining line old stored) all.0))

goes_if : (old new : PendingLines) (line : RecordedLine) (number : ℕ) → Ends old new line → (one : ℕ × Invalidation) (stored : List (ℕ × Invalidation)) → IsDistinct (eq_by_cmp nat_cmp) (keys_of (one ∷ stored)) → is_excused_by line (entry_in old one) ≡ is_at (nat_cmp number) one.0
    → AllByRecursion (λ one. is_excused_by line (entry_in old one) ≡ is_at (nat_cmp number) one.0) stored
    → map (entry_in new) (remove_entry (is_at (nat_cmp number)) stored) ≡ entries_after_line line (map (entry_in old) stored)
    → (there : Bool) → is_at (nat_cmp number) one.0 ≡ there → map (entry_in new) (cond there stored (one ∷ remove_entry (is_at (nat_cmp number)) stored)) ≡ entries_after_line line (map (entry_in old) (one ∷ stored))
goes_if old new line number after one stored distinct first all rest true at =
    none_goes old new line after stored (all_both (λ other p q. p ∙ q) stored all (none_past_head (eq_by_cmp_equiv nat_cmp_total) number one stored distinct at))
    ∙ sym (gone_if line (is_excused_by line (entry_in old one)) (entry_in old one) (remaining line old stored) (first ∙ at))
goes_if old new line number after one stored distinct first all rest false at =
    ap (λ (x : InvalidationEntry). x ∷ map (entry_in new) (remove_entry (is_at (nat_cmp number)) stored)) (after one)
    ∙ (ap (λ (xs : List InvalidationEntry). with_pending_ended line (entry_in old one) ∷ xs) rest
    ∙ sym (remaining_if line (is_excused_by line (entry_in old one)) (entry_in old one) (remaining line old stored) (first ∙ at)))

one_goes : (old new : PendingLines) (line : RecordedLine) (number : ℕ) → Ends old new line → (stored : List (ℕ × Invalidation)) → IsDistinct (eq_by_cmp nat_cmp) (keys_of stored)
    → AllByRecursion (λ one. is_excused_by line (entry_in old one) ≡ is_at (nat_cmp number) one.0) stored → map (entry_in new) (remove_entry (is_at (nat_cmp number)) stored) ≡ entries_after_line line (map (entry_in old) stored)
one_goes old new line number after [] distinct all = refl
one_goes old new line number after (one ∷ stored) distinct all =
    goes_if old new line number after one stored distinct all.0 all.1 (one_goes old new line number after stored (IsDistinct-tail (eq_by_cmp nat_cmp) one.0 (keys_of stored) distinct) all.1) (is_at (nat_cmp number) one.0) refl

-- ---- which events the line discards
is_equal : (order : Ordering) → is_eq order ≡ true → order ≡ Equal
is_equal Less h = absurd (let e : false ≡ true = h in cc)
is_equal Equal h = refl
is_equal Greater h = absurd (let e : false ≡ true = h in cc)

equal_keys : (n k : ℕ) (order : Ordering) → order ≡ nat_cmp n k → n ≡ k → is_eq order ≡ true
equal_keys n k Less is same = let wrong : n < k = ranked n k Less is in absurd (let e : ⊥ = omega (arith, wrong, same) in e)
equal_keys n k Equal is same = refl
equal_keys n k Greater is same = let wrong : k < n = ranked n k Greater is in absurd (let e : ⊥ = omega (arith, wrong, same) in e)

abbrev AreFound : BTreeMap ℕ Invalidation → List (ℕ × Invalidation) → Type 0
AreFound events stored = AllByRecursion (λ one. get nat_cmp events one.0 ≡ Some one.1) stored

are_found : (events : BTreeMap ℕ Invalidation) → IsOrdered nat_cmp events → AreFound events events.entries
are_found events ordered = recursion_from_All _ _ (All-found nat_cmp_total events ordered)

excused_one : (actor : RecordedActor) (old : PendingLines) (line : RecordedLine) (events : BTreeMap ℕ Invalidation) (number : ℕ) (found : Invalidation) → actor_of line ≡ Some actor → line_in old actor ≡ Some number → get nat_cmp events number ≡ Some found
    → excuses line found.event ≡ true → (stored : ℕ × Invalidation) → get nat_cmp events stored.0 ≡ Some stored.1 → is_at (nat_cmp number) stored.0 ≡ true → is_excused_by line (entry_in old stored) ≡ true
excused_one actor old line events number found at index there excused stored here same =
    let key : number ≡ stored.0 = exact_unsigned number stored.0 (is_equal (nat_cmp number stored.0) same) in
    let is : found ≡ stored.1 = some_is found stored.1 (sym there ∙ (ap (get nat_cmp events) key ∙ here)) in
    let discards : excuses line stored.1.event ≡ true = subst (λ (one : Invalidation). excuses line one.event ≡ true) is excused in
    let own = getter_excused actor line at stored.1.event discards in
    both_true (is_pending_in old stored) (excuses line stored.1.event)
    (ap (λ (getter : Option RecordedActor). is_line stored.0 (option_and_then (line_in old) getter)) own ∙ (ap (is_line stored.0) index ∙ (let e : (number == stored.0) ≡ true = grind (arith, key) in e))) discards

excused_at : (actor : RecordedActor) (old : PendingLines) (line : RecordedLine) (events : BTreeMap ℕ Invalidation) (number : ℕ) (found : Invalidation) → actor_of line ≡ Some actor → line_in old actor ≡ Some number → get nat_cmp events number ≡ Some found
    → excuses line found.event ≡ true → (stored : ℕ × Invalidation) → get nat_cmp events stored.0 ≡ Some stored.1 → is_excused_by line (entry_in old stored) ≡ is_at (nat_cmp number) stored.0
excused_at actor old line events number found at index there excused stored here =
    same_bool (is_excused_by line (entry_in old stored)) (is_at (nat_cmp number) stored.0)
    (λ h. equal_keys number stored.0 (nat_cmp number stored.0) refl (some_is number stored.0 (sym index ∙ discarded actor old line at stored h)))
    (excused_one actor old line events number found at index there excused stored here)

excused_nowhere : (actor : RecordedActor) (old : PendingLines) (line : RecordedLine) (events : BTreeMap ℕ Invalidation) (number : ℕ) → actor_of line ≡ Some actor → line_in old actor ≡ Some number
    → ((one : Invalidation) → get nat_cmp events number ≡ Some one → excuses line one.event ≡ false) → (stored : ℕ × Invalidation) → get nat_cmp events stored.0 ≡ Some stored.1 → is_excused_by line (entry_in old stored) ≡ false
excused_nowhere actor old line events number at index none stored here =
    false_unless (is_excused_by line (entry_in old stored))
    (λ h. let key : number ≡ stored.0 = some_is number stored.0 (sym index ∙ discarded actor old line at stored h) in
    sym (none stored.1 (ap (get nat_cmp events) key ∙ here)) ∙ (and_both (is_pending_in old stored) (excuses line stored.1.event) h).1)

unexcused : (actor : RecordedActor) (old : PendingLines) (line : RecordedLine) → actor_of line ≡ Some actor → line_in old actor ≡ None → (stored : ℕ × Invalidation) → is_excused_by line (entry_in old stored) ≡ false
unexcused actor old line at index stored = false_unless (is_excused_by line (entry_in old stored)) (λ h. none_is_some stored.0 (sym index ∙ discarded actor old line at stored h))

-- ---- events that are not pending
any_if : (event : InvalidatingEvent) (line : RecordedLine) (b : Bool) (x : InvalidationEntry) (xs : List InvalidationEntry) → list_any (is_certain_first event) (map (with_pending_ended line) (if b then x ∷ xs else xs))
    ≡ (if b then is_certain_first event (with_pending_ended line x) || list_any (is_certain_first event) (map (with_pending_ended line) xs) else list_any (is_certain_first event) (map (with_pending_ended line) xs))
any_if event line true x xs = refl
any_if event line false x xs = refl

stays_any : (pending same excused ended rest after : Bool) → (rest ≡ true → after ≡ true) → ((not pending && same) || rest) ≡ true → (if not (pending && excused) then (not (pending && not ended) && same) || after else after) ≡ true
stays_any false same excused ended rest after more h = or_elim same rest (λ first. or_left same after first) (λ second. or_right same after (more second)) h
stays_any true same true ended rest after more h = more h
stays_any true same false ended rest after more h = or_right (not (not ended) && same) after (more h)

certain_after : (event : InvalidatingEvent) (line : RecordedLine) (kept : List InvalidationEntry) → list_any (is_certain_first event) kept ≡ true → list_any (is_certain_first event) (entries_after_line line kept) ≡ true
certain_after event line [] h = h
certain_after event line (one ∷ kept) h =
    any_if event line (remains_after line one) one (filter (remains_after line) kept)
    ∙ stays_any one.pending (is_same_type one.invalidation.event event) (excuses line one.invalidation.event) (ends_pending line one.invalidation.event) (list_any (is_certain_first event) kept) (list_any (is_certain_first event) (entries_after_line line kept))
    (certain_after event line kept) h

new_certain_if : (event : InvalidatingEvent) (new : PendingLines) (found : Invalidation) → is_same_type found.event event ≡ true → ((number : ℕ) → is_pending_in new (number, found) ≡ false) → (stored : ℕ × Invalidation) (rest : Option Invalidation) (any : Bool)
    → (rest ≡ Some found → any ≡ true) → (there : Bool) → cond there (Some stored.1) rest ≡ Some found → (is_certain_first event (entry_in new stored) || any) ≡ true
new_certain_if event new found same none stored rest any more true h =
    let is : stored.1 ≡ found = some_is stored.1 found h in
    or_left (is_certain_first event (entry_in new stored)) any
    (both_true (not (is_pending_in new stored)) (is_same_type stored.1.event event) (ap not (subst (λ (one : Invalidation). is_pending_in new (stored.0, one) ≡ false) (sym is) (none stored.0))) (subst (λ (one : Invalidation). is_same_type one.event event ≡ true) (sym is) same))
new_certain_if event new found same none stored rest any more false h = or_right (is_certain_first event (entry_in new stored)) any (more h)

new_certain : (event : InvalidatingEvent) (new : PendingLines) (test : ℕ → Bool) (found : Invalidation) → is_same_type found.event event ≡ true → ((number : ℕ) → is_pending_in new (number, found) ≡ false) → (stored : List (ℕ × Invalidation)) → lookup test stored ≡ Some found
    → list_any (is_certain_first event) (map (entry_in new) stored) ≡ true
new_certain event new test found same none [] h = none_is_some found h
new_certain event new test found same none (one ∷ stored) h =
    new_certain_if event new found same none one (lookup test stored) (list_any (is_certain_first event) (map (entry_in new) stored)) (new_certain event new test found same none stored) (test one.0) h

-- ---- the pending event of the line's actor
removed_if : (P : ℕ → Type 0) (test : ℕ → Bool) (one : ℕ × Invalidation) (stored : List (ℕ × Invalidation)) → P one.0 → AllByRecursion P (keys_of stored) → AllByRecursion P (keys_of (remove_entry test stored)) → (there : Bool)
    → AllByRecursion P (keys_of (cond there stored (one ∷ remove_entry test stored)))
removed_if P test one stored first all rest true = all
removed_if P test one stored first all rest false = (first, rest)

removed_keys : (P : ℕ → Type 0) (test : ℕ → Bool) (stored : List (ℕ × Invalidation)) → AllByRecursion P (keys_of stored) → AllByRecursion P (keys_of (remove_entry test stored))
removed_keys P test [] all = all
removed_keys P test (one ∷ stored) all = removed_if P test one stored all.0 all.1 (removed_keys P test stored all.1) (test one.0)

own_actor : (actor : RecordedActor) → is_same_actor actor actor ≡ true
own_actor (Job n) = let e : (n == n) ≡ true = grind arith in e
own_actor (Round n) = let e : (n == n) ≡ true = grind arith in e

no_line : (actor : RecordedActor) (line : RecordedLine) (old new : PendingLines) → actor_of line ≡ Some actor → IsWithout actor old new → HasNoPending line new
no_line actor line old new at rest = ap (λ (of : Option RecordedActor). option_and_then (line_in new) of) at ∙ (rest actor ∙ ap (λ (b : Bool). if b then None else line_in old actor) (own_actor actor))

-- No event is discarded, and none is certain now.
same_events : (number : ℕ) (line : RecordedLine) (actor : RecordedActor) (old new : InvalidationList) → actor_of line ≡ Some actor → IsWithout actor old.pending new.pending → IsBefore number old
    → AllByRecursion (λ one. is_excused_by line (entry_in old.pending one) ≡ false) old.events.entries → new.events ≡ old.events → new.certain.items ≡ old.certain.items → IsSettledBy number line old new
same_events number line actor old new of rest before all same certain =
    let kept : kept_in new ≡ entries_after_line line (kept_in old) =
    ap (λ (events : BTreeMap ℕ Invalidation). map (entry_in new.pending) events.entries) same
    ∙ none_goes old.pending new.pending line (entry_after actor old.pending new.pending line of rest) old.events.entries all in
    record {
      kept = kept;
      none = no_line actor line old.pending new.pending of rest;
      before = record {
        ordered = subst (λ (events : BTreeMap ℕ Invalidation). IsOrdered nat_cmp events) (sym same) before.ordered;
        earlier = subst (λ (events : BTreeMap ℕ Invalidation). AllByRecursion (λ line. line < number) (keys events)) (sym same) before.earlier;
        certain = λ event h. subst (λ (xs : List InvalidationEntry). list_any (is_certain_first event) xs ≡ true) (sym kept) (certain_after event line (kept_in old) (before.certain event (sym (ap (list_any (is_of_type event)) certain) ∙ h)));
      };
    }

settled_if : (number at : ℕ) (line : RecordedLine) (actor : RecordedActor) (old new : InvalidationList) → actor_of line ≡ Some actor → line_in old.pending actor ≡ Some at → IsWithout actor old.pending new.pending → IsBefore number old
    → SettlesEvent line at old.events old.certain.items new.events new.certain.items → IsSettledBy number line old new
settled_if number at line actor old new of index rest before (discards found there excused entries ordered certain) =
    let all = all_weaker (excused_at actor old.pending line old.events at found of index there excused) old.events.entries (are_found old.events before.ordered) in
    let kept : kept_in new ≡ entries_after_line line (kept_in old) =
    ap (map (entry_in new.pending)) entries
    ∙ one_goes old.pending new.pending line at (entry_after actor old.pending new.pending line of rest) old.events.entries (IsDistinct-from_sorted nat_cmp (keys old.events) before.ordered) all in
    record {
      kept = kept;
      none = no_line actor line old.pending new.pending of rest;
      before = record {
        ordered = ordered;
        earlier = subst (λ (stored : List (ℕ × Invalidation)). AllByRecursion (λ line. line < number) (keys_of stored)) (sym entries) (removed_keys (λ line. line < number) (is_at (nat_cmp at)) old.events.entries before.earlier);
        certain = λ event h. subst (λ (xs : List InvalidationEntry). list_any (is_certain_first event) xs ≡ true) (sym kept) (certain_after event line (kept_in old) (before.certain event (sym (ap (list_any (is_of_type event)) certain) ∙ h)));
      };
    }
settled_if number at line actor old new of index rest before (ends found there excused ended same types) =
    let none = excused_nowhere actor old.pending line old.events at of index (λ one is. subst (λ (x : Invalidation). excuses line x.event ≡ false) (some_is found one (sym there ∙ is)) excused) in
    let kept : kept_in new ≡ entries_after_line line (kept_in old) =
    ap (λ (events : BTreeMap ℕ Invalidation). map (entry_in new.pending) events.entries) same
    ∙ none_goes old.pending new.pending line (entry_after actor old.pending new.pending line of rest) old.events.entries (all_weaker none old.events.entries (are_found old.events before.ordered)) in
    let flag : (key : ℕ) → is_pending_in new.pending (key, found) ≡ false = λ key. flag_after actor old.pending new.pending line of rest key found.event ∙ (ap (λ b. is_pending_in old.pending (key, found) && not b) ended ∙ and_false (is_pending_in old.pending (key, found))) in
    let here : lookup (is_at (nat_cmp at)) new.events.entries ≡ Some found = ap (λ (events : BTreeMap ℕ Invalidation). lookup (is_at (nat_cmp at)) events.entries) same ∙ there in
    record {
      kept = kept;
      none = no_line actor line old.pending new.pending of rest;
      before = record {
        ordered = subst (λ (events : BTreeMap ℕ Invalidation). IsOrdered nat_cmp events) (sym same) before.ordered;
        earlier = subst (λ (events : BTreeMap ℕ Invalidation). AllByRecursion (λ line. line < number) (keys events)) (sym same) before.earlier;
        certain = λ event h. or_elim (list_any (is_of_type event) old.certain.items) (is_same_type found.event event)
            (λ first. subst (λ (xs : List InvalidationEntry). list_any (is_certain_first event) xs ≡ true) (sym kept) (certain_after event line (kept_in old) (before.certain event first)))
            (λ second. new_certain event new.pending (is_at (nat_cmp at)) found second flag new.events.entries here) (types event h);
      };
    }
settled_if number at line actor old new of index rest before (stays none same certain) =
    let all = excused_nowhere actor old.pending line old.events at of index none in
    same_events number line actor old new of rest before (all_weaker all old.events.entries (are_found old.events before.ordered)) same certain

pub settled : (number at : ℕ) (line : RecordedLine) (actor : RecordedActor) (old new : InvalidationList) → actor_of line ≡ Some actor → line_in old.pending actor ≡ Some at → IsWithout actor old.pending new.pending → IsBefore number old
    → SettlesEvent line at old.events old.certain.items new.events new.certain.items → IsSettledBy number line old new
settled number at line actor old new of index rest before settles = settled_if number at line actor old new of index rest before settles

pub nothing_pending : (number : ℕ) (line : RecordedLine) (actor : RecordedActor) (old new : InvalidationList) → actor_of line ≡ Some actor → line_in old.pending actor ≡ None → IsWithout actor old.pending new.pending → IsBefore number old → new.events ≡ old.events
    → new.certain.items ≡ old.certain.items → IsSettledBy number line old new
nothing_pending number line actor old new of index rest before same certain =
    same_events number line actor old new of rest before (all_weaker (λ one _. unexcused actor old.pending line of index one) old.events.entries (are_found old.events before.ordered)) same certain

-- ---- a line without an actor
nobody_excused : (line : RecordedLine) → actor_of line ≡ None → (event : InvalidatingEvent) → (excuses line event ≡ false) × (ends_pending line event ≡ false)
nobody_excused line none (event.TimedOut one job) =
    let ended : is_of one line ≡ false = ap (λ (of : Option RecordedActor). is_actor one of) none in
    (false_unless (repeats_get one job line) (λ h. sym ended ∙ asked_by one job line h), ended)
nobody_excused line none (event.Interrupted one job) =
    let ended : is_of one line ≡ false = ap (λ (of : Option RecordedActor). is_actor one of) none in
    (false_unless (repeats_get one job line) (λ h. sym ended ∙ asked_by one job line h), ended)
nobody_excused line none event = (refl, refl)

pub no_actor : (number : ℕ) (line : RecordedLine) (list : InvalidationList) → actor_of line ≡ None → IsBefore number list → IsSettledBy number line list list
no_actor number line list none before =
    let same : Ends list.pending list.pending line = λ stored. ap (entry_with stored.1) (sym (and_true (is_pending_in list.pending stored)) ∙ ap (λ b. is_pending_in list.pending stored && not b) (sym (nobody_excused line none stored.1.event).1)) in
    record {
      kept = none_goes list.pending list.pending line same list.events.entries
          (all_weaker (λ one _. ap (λ b. is_pending_in list.pending one && b) (nobody_excused line none one.1.event).0 ∙ and_false (is_pending_in list.pending one)) list.events.entries (are_found list.events before.ordered));
      none = ap (λ (of : Option RecordedActor). option_and_then (line_in list.pending) of) none;
      before = before;
    }

-- ---- a new event
later_line : (number line : ℕ) → line < number → line < number + 1
later_line number line h = omega (arith, h)

pub later : (number : ℕ) (list : InvalidationList) → IsBefore number list → IsBefore (number + 1) list
later number list before = record { ordered = before.ordered; earlier = all_weaker (later_line number) (keys list.events) before.earlier; certain = before.certain }

after_key : (n k : ℕ) (order : Ordering) → order ≡ nat_cmp n k → k < n → nat_cmp n k ≡ Greater
after_key n k Less is h = let wrong : n < k = ranked n k Less is in absurd (let e : ⊥ = omega (arith, wrong, h) in e)
after_key n k Equal is h = let wrong : n ≡ k = ranked n k Equal is in absurd (let e : ⊥ = omega (arith, wrong, h) in e)
after_key n k Greater is h = sym is

insert_last : (number : ℕ) (one : Invalidation) (stored : List (ℕ × Invalidation)) → AllByRecursion (λ line. line < number) (keys_of stored) → insert_entry nat_cmp stored number one ≡ stored ++ (number, one) ∷ []
insert_last number one [] earlier = refl
insert_last number one (first ∷ stored) earlier =
    rw (after_key number first.0 (nat_cmp number first.0) refl earlier.0) (ap (λ (rest : List (ℕ × Invalidation)). first ∷ rest) (insert_last number one stored earlier.1))

mapped_more : (pending : PendingLines) (stored : List (ℕ × Invalidation)) (one : ℕ × Invalidation) → map (entry_in pending) (stored ++ one ∷ []) ≡ map (entry_in pending) stored ++ entry_in pending one ∷ []
mapped_more pending [] one = refl
mapped_more pending (first ∷ stored) one = ap (λ (rest : List InvalidationEntry). entry_in pending first ∷ rest) (mapped_more pending stored one)

more_keys : (number : ℕ) (one : Invalidation) (stored : List (ℕ × Invalidation)) → AllByRecursion (λ line. line < number) (keys_of stored) → AllByRecursion (λ line. line < number + 1) (keys_of (stored ++ (number, one) ∷ []))
more_keys number one [] earlier = (let e : number < number + 1 = omega arith in e, tt)
more_keys number one (first ∷ stored) earlier = (later_line number first.0 earlier.0, more_keys number one stored earlier.1)

-- The flags of earlier events stay.
same_line : (number line : ℕ) (same : Bool) (there : Option ℕ) → line < number → (same ≡ true → there ≡ None) → is_line line (if same then Some number else there) ≡ is_line line there
same_line number line true there h none = (let e : (number == line) ≡ false = grind (arith, h) in e) ∙ sym (ap (is_line line) (none refl))
same_line number line false there h none = refl

same_flag : (number : ℕ) (actor : RecordedActor) (old new : PendingLines) → line_in old actor ≡ None → ((one : RecordedActor) → line_in new one ≡ (if is_same_actor actor one then Some number else line_in old one)) → (line : ℕ) → line < number → (event : InvalidatingEvent)
    → is_line line (option_and_then (line_in new) (getter_of event)) ≡ is_line line (option_and_then (line_in old) (getter_of event))
same_flag number actor old new none lines line h (event.TimedOut one job) =
    ap (is_line line) (lines one) ∙ same_line number line (is_same_actor actor one) (line_in old one) h (λ same. ap (line_in old) (sym (same_actor actor one same)) ∙ none)
same_flag number actor old new none lines line h (event.Interrupted one job) =
    ap (is_line line) (lines one) ∙ same_line number line (is_same_actor actor one) (line_in old one) h (λ same. ap (line_in old) (sym (same_actor actor one same)) ∙ none)
same_flag number actor old new none lines line h event = refl

same_entries : (number : ℕ) (actor : RecordedActor) (old new : PendingLines) → line_in old actor ≡ None → ((one : RecordedActor) → line_in new one ≡ (if is_same_actor actor one then Some number else line_in old one)) → (stored : List (ℕ × Invalidation))
    → AllByRecursion (λ line. line < number) (keys_of stored) → map (entry_in new) stored ≡ map (entry_in old) stored
same_entries number actor old new none lines [] earlier = refl
same_entries number actor old new none lines (one ∷ stored) earlier =
    ap (λ (x : InvalidationEntry). x ∷ map (entry_in new) stored) (ap (entry_with one.1) (same_flag number actor old new none lines one.0 earlier.0 one.1.event))
    ∙ ap (λ (xs : List InvalidationEntry). entry_in old one ∷ xs) (same_entries number actor old new none lines stored earlier.1)

excusable : (event : InvalidatingEvent) (actor : RecordedActor) → getter_of event ≡ Some actor → can_be_excused event ≡ true
excusable (event.TimedOut one job) actor h = refl
excusable (event.Interrupted one job) actor h = refl
excusable event actor h = none_is_some actor h

inexcusable : (event : InvalidatingEvent) → getter_of event ≡ None → can_be_excused event ≡ false
inexcusable (event.TimedOut one job) h = sym (none_is_some one (sym h))
inexcusable (event.Interrupted one job) h = sym (none_is_some one (sym h))
inexcusable event h = refl

any_append : (event : InvalidatingEvent) (kept : List InvalidationEntry) (one : InvalidationEntry) → list_any (is_certain_first event) kept ≡ true → list_any (is_certain_first event) (kept ++ one ∷ []) ≡ true
any_append event kept one h = any_more (is_certain_first event) kept one ∙ or_left (list_any (is_certain_first event) kept) (is_certain_first event one) h

pushed_if : (one : Invalidation) (old new : InvalidationList) → IsBefore one.line old → new.events.entries ≡ insert_entry nat_cmp old.events.entries one.line one → IsOrdered nat_cmp new.events → (entry : InvalidationEntry) → kept_in new ≡ kept_in old ++ entry ∷ []
    → new_entry one ≡ entry → ((event : InvalidatingEvent) → list_any (is_of_type event) new.certain.items ≡ true → (list_any (is_of_type event) old.certain.items || is_certain_first event entry) ≡ true) → IsPushed one old new
pushed_if one old new before entries ordered entry kept is types = record {
  kept = appended (kept ∙ ap (λ (x : InvalidationEntry). kept_in old ++ x ∷ []) (sym is));
  before = record {
    ordered = ordered;
    earlier = subst (λ (stored : List (ℕ × Invalidation)). AllByRecursion (λ line. line < one.line + 1) (keys_of stored)) (sym (entries ∙ insert_last one.line one old.events.entries before.earlier)) (more_keys one.line one old.events.entries before.earlier);
    certain = λ event h. subst (λ (xs : List InvalidationEntry). list_any (is_certain_first event) xs ≡ true) (sym kept)
        (or_elim (list_any (is_of_type event) old.certain.items) (is_certain_first event entry) (λ first. any_append event (kept_in old) entry (before.certain event first))
        (λ second. any_more (is_certain_first event) (kept_in old) entry ∙ or_right (list_any (is_certain_first event) (kept_in old)) (is_certain_first event entry) second) (types event h));
  };
}

appended_kept : (one : Invalidation) (old new : InvalidationList) → IsBefore one.line old → new.events.entries ≡ insert_entry nat_cmp old.events.entries one.line one → map (entry_in new.pending) old.events.entries ≡ kept_in old
    → kept_in new ≡ kept_in old ++ entry_in new.pending (one.line, one) ∷ []
appended_kept one old new before entries same =
    ap (map (entry_in new.pending)) (entries ∙ insert_last one.line one old.events.entries before.earlier)
    ∙ (mapped_more new.pending old.events.entries (one.line, one) ∙ ap (λ (xs : List InvalidationEntry). xs ++ entry_in new.pending (one.line, one) ∷ []) same)

pub pushed : (one : Invalidation) (old new : InvalidationList) → IsBefore one.line old → IsNotPending old.pending one.event → IsNoted one.event one.line old.pending old.certain.items new.pending new.certain.items
    → new.events.entries ≡ insert_entry nat_cmp old.events.entries one.line one → IsOrdered nat_cmp new.events → IsPushed one old new
pushed one old new before free (noted_pending actor getter lines certain) entries ordered =
    let none : line_in old.pending actor ≡ None = sym (ap (λ (of : Option RecordedActor). option_and_then (line_in old.pending) of) getter) ∙ free in
    let flag : is_pending_in new.pending (one.line, one) ≡ true =
    ap (λ (of : Option RecordedActor). is_line one.line (option_and_then (line_in new.pending) of)) getter
    ∙ (ap (is_line one.line) (lines actor ∙ ap (λ (b : Bool). if b then Some one.line else line_in old.pending actor) (own_actor actor)) ∙ (let e : (one.line == one.line) ≡ true = grind arith in e)) in
    pushed_if one old new before entries ordered (entry_in new.pending (one.line, one))
    (appended_kept one old new before entries (same_entries one.line actor old.pending new.pending none lines old.events.entries before.earlier))
    (ap (entry_with one) (excusable one.event actor getter ∙ sym flag))
    (λ event h. or_left (list_any (is_of_type event) old.certain.items) (is_certain_first event (entry_in new.pending (one.line, one))) (sym (ap (list_any (is_of_type event)) certain) ∙ h))
pushed one old new before free (noted_certain getter same types) entries ordered =
    let flag : is_pending_in new.pending (one.line, one) ≡ false = ap (λ (of : Option RecordedActor). is_line one.line (option_and_then (line_in new.pending) of)) getter in
    pushed_if one old new before entries ordered (entry_in new.pending (one.line, one)) (appended_kept one old new before entries (ap (λ (pending : PendingLines). map (entry_in pending) old.events.entries) same))
    (ap (entry_with one) (inexcusable one.event getter ∙ sym flag))
    (λ event h. or_elim (list_any (is_of_type event) old.certain.items) (is_same_type one.event event) (λ first. or_left (list_any (is_of_type event) old.certain.items) (is_certain_first event (entry_in new.pending (one.line, one))) first)
    (λ second. or_right (list_any (is_of_type event) old.certain.items) (is_certain_first event (entry_in new.pending (one.line, one))) (both_true (not (is_pending_in new.pending (one.line, one))) (is_same_type one.event event) (ap not flag) second)) (types event h))

pub left_alone : (one : Invalidation) (list : InvalidationList) → IsBefore one.line list → list_any (is_of_type one.event) list.certain.items ≡ true → IsPushed one list list
left_alone one list before there = record { kept = skipped (before.certain one.event there) refl; before = later one.line list before }

-- ---- the event of the line
pub not_pending : (pending : PendingLines) (line : RecordedLine) (one : InvalidatingEvent) → event_of line ≡ Some one → HasNoPending line pending → IsNotPending pending one
not_pending pending (TimedOut actor job) one is none = subst (IsNotPending pending) (some_is (event.TimedOut actor job) one is) none
not_pending pending (Interrupted actor job) one is none = subst (IsNotPending pending) (some_is (event.Interrupted actor job) one is) none
not_pending pending (Refused actor job) one is none = subst (IsNotPending pending) (some_is (event.Refused actor job) one is) refl
not_pending pending (Cancels actor job) one is none = subst (IsNotPending pending) (some_is (event.Cancelled actor job) one is) refl
not_pending pending (InvokesAny actor pool) one is none = subst (IsNotPending pending) (some_is (event.AnyInvoked actor) one is) refl
not_pending pending (Removed job) one is none = subst (IsNotPending pending) (some_is (event.Removed job) one is) refl
not_pending pending (JobThrew job) one is none = subst (IsNotPending pending) (some_is (event.Threw job) one is) refl
not_pending pending (Unseen pool jobs) one is none = subst (IsNotPending pending) (some_is (event.Unseen jobs) one is) refl
not_pending pending line one is none = absurd (let e : false ≡ true = none_is_some one is in cc)

pub with_event : (number : ℕ) (line : RecordedLine) (event : InvalidatingEvent) (kept new : List InvalidationEntry) → event_of line ≡ Some event → IsWithFirst (new_entry (record { line = number; event = event })) kept new → IsWithEntry (entry_of number line) kept new
with_event number line event kept new is h = subst (λ (of : Option InvalidatingEvent). IsWithEntry (option_map (λ (event : InvalidatingEvent). new_entry (record { line = number; event = event })) of) kept new) (sym is) h

pub without_event : (number : ℕ) (line : RecordedLine) (kept new : List InvalidationEntry) → event_of line ≡ None → new ≡ kept → IsWithEntry (entry_of number line) kept new
without_event number line kept new is h = subst (λ (of : Option InvalidatingEvent). IsWithEntry (option_map (λ (event : InvalidatingEvent). new_entry (record { line = number; event = event })) of) kept new) (sym is) h

-- ---- the first events
pub invalidations_kept : (pending : PendingLines) (stored : List (ℕ × Invalidation)) → invalidations_in (map (entry_in pending) stored) ≡ map (λ (one : ℕ × Invalidation). one.1) stored
invalidations_kept pending [] = refl
invalidations_kept pending (one ∷ stored) = ap (λ (rest : List Invalidation). one.1 ∷ rest) (invalidations_kept pending stored)
