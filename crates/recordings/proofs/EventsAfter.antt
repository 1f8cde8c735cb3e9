-- The invalidating events after one more line.
use Rattle.std.proofs.Common.{◌≡◌, ℕ, ◌+◌, suc, not, Bool, true, false, if◌then◌else◌, List, [], ◌∷◌, ◌++◌, length, map, is_none, Option, Some, None, slice_get, refl, ap, sym, ◌∙◌, arith}
use Rattle.std.specs.Option.{option_to_list, option_map, option_and_then}
use Rattle.std.specs.List.{filter, cons_option}
use Rattle.recordings.specs.declared.recording_line.RecordedActor.{RecordedActor}
use Rattle.recordings.specs.RecordingLine.{RecordedLine, Got, TimedOut, Interrupted}
use Rattle.recordings.specs.LineParts.{is_of}
use Rattle.recordings.proofs.Tests.{and_first, filter_more, not_weaker}
use Rattle.recordings.specs.declared.invalidation.InvalidatingEvent.{InvalidatingEvent}
use Rattle.recordings.specs.declared.invalidation.InvalidatingEvent.TheVariants as event
use Rattle.recordings.specs.Invalidations.{repeats_get, next_of, is_repeated_next, event_of, is_excused, invalidation_of, invalidations_from}
use Rattle.recordings.specs.InvalidationList.{InvalidationEntry, invalidations_in, is_pending, entry_unless_excused, entry_at, entries_from, can_be_excused, entry_of, excuses, ends_pending, remains_after, with_pending_ended, entries_after_line}

-- ---- the next line of an actor
abbrev or_else : Option RecordedLine → Option RecordedLine → Option RecordedLine
or_else None next = next
or_else (Some line) next = Some line

first_or : (lines : List RecordedLine) (b : Bool) (line : RecordedLine) → slice_get (if b then lines ++ line ∷ [] else lines) 0 ≡ or_else (slice_get lines 0) (if b then Some line else None)
first_or [] true line = refl
first_or [] false line = refl
first_or (first ∷ lines) true line = refl
first_or (first ∷ lines) false line = refl

next_more : (actor : RecordedActor) (after : List RecordedLine) (line : RecordedLine) → next_of actor (after ++ line ∷ []) ≡ or_else (next_of actor after) (if is_of actor line then Some line else None)
unfolding next_of
next_more actor after line = ap (λ (lines : List RecordedLine). slice_get lines 0) (filter_more (is_of actor) after line) ∙ first_or (filter (is_of actor) after) (is_of actor line) line

none_after : (actor : RecordedActor) → next_of actor [] ≡ None
unfolding next_of
none_after actor = refl

pub asked_by : (actor : RecordedActor) (job : ℕ) (line : RecordedLine) → repeats_get actor job line ≡ true → is_of actor line ≡ true
asked_by actor job (Got who one) h = and_first _ _ h
asked_by actor job (TimedOut who one) h = and_first _ _ h
asked_by actor job (Interrupted who one) h = and_first _ _ h
asked_by actor job line h = absurd (let e : false ≡ true = h in cc)

-- ---- an event after a line
abbrev after_one : RecordedLine → Option InvalidationEntry → Option InvalidationEntry
after_one line None = None
after_one line (Some one) = if remains_after line one then Some (with_pending_ended line one) else None

abbrev noted_with : ℕ → InvalidatingEvent → Bool → InvalidationEntry
noted_with number event pending = record { invalidation = record { line = number; event = event }; pending = pending }

-- The entry for a get that timed out or was interrupted, from the next line of its actor.
abbrev asked : ℕ → InvalidatingEvent → RecordedActor → ℕ → Option RecordedLine → Option InvalidationEntry
asked number event actor job next = if is_repeated_next actor job next then None else Some (noted_with number event (is_none next))

closed_stays : (line : RecordedLine) (number : ℕ) (event : InvalidatingEvent) (b : Bool) → (if b then None else Some (noted_with number event false)) ≡ after_one line (if b then None else Some (noted_with number event false))
closed_stays line number event true = refl
closed_stays line number event false = refl

open_after : (line : RecordedLine) (number : ℕ) (event : InvalidatingEvent) (asks of : Bool) → excuses line event ≡ asks → ends_pending line event ≡ of
    → (if asks then None else Some (noted_with number event (not of))) ≡ after_one line (Some (noted_with number event true))
open_after line number event true of e c = sym (ap (λ (b : Bool). if not b then Some (noted_with number event (not (ends_pending line event))) else None) e)
open_after line number event false of e c =
    sym (ap (λ (b : Bool). if not b then Some (noted_with number event (not (ends_pending line event))) else None) e ∙ ap (λ b. Some (noted_with number event (not b))) c)

fresh_more : (line : RecordedLine) (number : ℕ) (event : InvalidatingEvent) (actor : RecordedActor) (job : ℕ) → excuses line event ≡ repeats_get actor job line → ends_pending line event ≡ is_of actor line → (of : Bool) → is_of actor line ≡ of
    → asked number event actor job (if of then Some line else None) ≡ after_one line (Some (noted_with number event true))
fresh_more line number event actor job e c true of = open_after line number event (repeats_get actor job line) true e (c ∙ of)
fresh_more line number event actor job e c false of = open_after line number event false false (e ∙ not_weaker (repeats_get actor job line) (is_of actor line) (asked_by actor job line) of) (c ∙ of)

asked_more : (line : RecordedLine) (number : ℕ) (event : InvalidatingEvent) (actor : RecordedActor) (job : ℕ) → excuses line event ≡ repeats_get actor job line → ends_pending line event ≡ is_of actor line → (next : Option RecordedLine)
    → asked number event actor job (or_else next (if is_of actor line then Some line else None)) ≡ after_one line (asked number event actor job next)
asked_more line number event actor job e c None = fresh_more line number event actor job e c (is_of actor line) refl
asked_more line number event actor job e c (Some next) = closed_stays line number event (repeats_get actor job next)

by_what : (line : RecordedLine) (number : ℕ) (after : List RecordedLine) (event : InvalidatingEvent) → entry_unless_excused number (after ++ line ∷ []) event ≡ after_one line (entry_unless_excused number after event)
by_what line number after (event.TimedOut actor job) =
    ap (asked number (event.TimedOut actor job) actor job) (next_more actor after line) ∙ asked_more line number (event.TimedOut actor job) actor job refl refl (next_of actor after)
by_what line number after (event.Interrupted actor job) =
    ap (asked number (event.Interrupted actor job) actor job) (next_more actor after line) ∙ asked_more line number (event.Interrupted actor job) actor job refl refl (next_of actor after)
by_what line number after (event.Refused actor job) = refl
by_what line number after (event.Cancelled actor job) = refl
by_what line number after (event.AnyInvoked actor) = refl
by_what line number after (event.Removed job) = refl
by_what line number after (event.Threw job) = refl
by_what line number after (event.Unseen jobs) = refl

at_line : (line : RecordedLine) (number : ℕ) (after : List RecordedLine) (said : Option InvalidatingEvent) → option_and_then (entry_unless_excused number (after ++ line ∷ [])) said ≡ after_one line (option_and_then (entry_unless_excused number after) said)
at_line line number after None = refl
at_line line number after (Some event) = by_what line number after event

-- ---- the event of the last line
last_what : (number : ℕ) (event : InvalidatingEvent) → entry_unless_excused number [] event ≡ Some (noted_with number event (can_be_excused event))
last_what number (event.TimedOut actor job) = ap (asked number (event.TimedOut actor job) actor job) (none_after actor)
last_what number (event.Interrupted actor job) = ap (asked number (event.Interrupted actor job) actor job) (none_after actor)
last_what number (event.Refused actor job) = refl
last_what number (event.Cancelled actor job) = refl
last_what number (event.AnyInvoked actor) = refl
last_what number (event.Removed job) = refl
last_what number (event.Threw job) = refl
last_what number (event.Unseen jobs) = refl

last_line : (number : ℕ) (said : Option InvalidatingEvent) → option_and_then (entry_unless_excused number []) said ≡ option_map (λ event. noted_with number event (can_be_excused event)) said
last_line number None = refl
last_line number (Some event) = last_what number event

-- ---- all events
settled_if : (line : RecordedLine) (b : Bool) (one : InvalidationEntry) (rest : List InvalidationEntry)
    → map (with_pending_ended line) (if b then one ∷ rest else rest) ≡ cons_option (if b then Some (with_pending_ended line one) else None) (map (with_pending_ended line) rest)
settled_if line true one rest = refl
settled_if line false one rest = refl

settled_cons : (line : RecordedLine) (one : Option InvalidationEntry) (stored : List InvalidationEntry) → entries_after_line line (cons_option one stored) ≡ cons_option (after_one line one) (entries_after_line line stored)
settled_cons line None stored = refl
settled_cons line (Some one) stored = settled_if line (remains_after line one) one (filter (remains_after line) stored)

cons_append : {X : Type 0} (one : Option X) (xs ys : List X) → cons_option one (xs ++ ys) ≡ cons_option one xs ++ ys
cons_append None xs ys = refl
cons_append (Some x) xs ys = refl

cons_none : {X : Type 0} (one : Option X) → cons_option one [] ≡ option_to_list one
cons_none None = refl
cons_none (Some x) = refl

no_more : (n : ℕ) → n ≡ n + 0
no_more n = omega arith

number_on : (n k : ℕ) → (n + 1) + k ≡ n + suc k
number_on n k = omega arith

pub noted_more : (number : ℕ) (lines : List RecordedLine) (line : RecordedLine) → entries_from number (lines ++ line ∷ []) ≡ entries_after_line line (entries_from number lines) ++ option_to_list (entry_of (number + length lines) line)
noted_more number [] line = cons_none (entry_at number line []) ∙ ap option_to_list (last_line number (event_of line) ∙ ap (λ n. entry_of n line) (no_more number))
noted_more number (first ∷ lines) line =
    let rest = entries_after_line line (entries_from (number + 1) lines) in
    let last = option_to_list (entry_of (number + suc (length lines)) line) in
    ap (cons_option (entry_at number first (lines ++ line ∷ []))) (noted_more (number + 1) lines line ∙ ap (λ n. rest ++ option_to_list (entry_of n line)) (number_on number (length lines)))
    ∙ (ap (λ one. cons_option one (rest ++ last)) (at_line line number lines (event_of first))
    ∙ (cons_append (after_one line (entry_at number first lines)) rest last
    ∙ ap (λ (all : List InvalidationEntry). all ++ last) (sym (settled_cons line (entry_at number first lines) (entries_from (number + 1) lines)))))

-- ---- the events without the pending flag
choice : (b : Bool) (one : InvalidationEntry) → option_map (λ (one : InvalidationEntry). one.invalidation) (if b then None else Some one) ≡ (if b then None else Some one.invalidation)
choice true one = refl
choice false one = refl

invalidation_if : (number : ℕ) (after : List RecordedLine) (said : Option InvalidatingEvent) → option_map (λ (one : InvalidationEntry). one.invalidation) (option_and_then (entry_unless_excused number after) said)
    ≡ option_and_then (λ event. if is_excused event after then None else Some (record { line = number; event = event })) said
invalidation_if number after None = refl
invalidation_if number after (Some event) = choice (is_excused event after) (noted_with number event (is_pending event after))

map_cons : (one : Option InvalidationEntry) (stored : List InvalidationEntry) → invalidations_in (cons_option one stored) ≡ cons_option (option_map (λ (one : InvalidationEntry). one.invalidation) one) (invalidations_in stored)
map_cons None stored = refl
map_cons (Some one) stored = refl

pub invalidations_noted : (number : ℕ) (lines : List RecordedLine) → invalidations_in (entries_from number lines) ≡ invalidations_from number lines
invalidations_noted number [] = refl
invalidations_noted number (line ∷ lines) =
    map_cons (entry_at number line lines) (entries_from (number + 1) lines)
    ∙ (ap (λ one. cons_option one (invalidations_in (entries_from (number + 1) lines))) (invalidation_if number lines (event_of line)) ∙ ap (cons_option (invalidation_of number line lines)) (invalidations_noted (number + 1) lines))
