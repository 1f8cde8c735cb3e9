-- The invalidating events, as they are stored while lines are read.
use Rattle.std.specs.Prelude.{◌≡◌, ◌<◌, ℕ, ◌+◌, ◌==◌, ◌&&◌, ◌||◌, not, Bool, true, false, if◌then◌else◌, List, [], ◌∷◌, ◌++◌, map, is_none, Option, Some, None}
use Rattle.std.specs.Str.{bytes_eq}
use Rattle.std.specs.List.{AllByRecursion, list_any, filter, cons_option}
use Rattle.std.specs.Option.{option_and_then, option_map}
use Rattle.std.specs.BTreeMap.{BTreeMap, IsOrdered, get, keys, is_at}
use Rattle.std.specs.Map.{remove_entry}
use Rattle.std.specs.Ordering.{nat_cmp}
use Rattle.support.specs.Numbered.{value_at}
use Rattle.recordings.specs.declared.recording_line.RecordedActor.{RecordedActor}
use Rattle.recordings.specs.declared.recording_line.RecordedActor.TheVariants.{Job, Round}
use Rattle.recordings.specs.RecordingLine.{RecordedLine}
use Rattle.recordings.specs.LineParts.{actor_of, is_of, is_same_actor}
use Rattle.recordings.specs.declared.pending_lines.PendingLines.{PendingLines}
use Rattle.recordings.specs.declared.invalidation_list.InvalidationList.{InvalidationList}
use Rattle.recordings.specs.declared.invalidation.Invalidation.{Invalidation}
use Rattle.recordings.specs.declared.invalidation.InvalidatingEvent.{InvalidatingEvent}
use Rattle.recordings.specs.declared.invalidation.InvalidatingEvent.TheVariants as event
use Rattle.recordings.specs.Invalidations.{keyword_of, is_same_type, has_type, repeats_get, next_of, event_of, is_excused}

-- An event that invalidates a SAFE answer, unless a later line discards it. It is pending if the next line of its actor can
-- discard it and has not been read yet.
pub record InvalidationEntry : Type 0 where
  pub invalidation : Invalidation
  pub pending : Bool

-- ---- the entries, from all lines read
-- The next line of the event's actor can discard the event, and has not been read yet.
abbrev pub is_pending : InvalidatingEvent → List RecordedLine → Bool
is_pending (event.TimedOut actor job) after = is_none (next_of actor after)
is_pending (event.Interrupted actor job) after = is_none (next_of actor after)
is_pending event after = false

abbrev pub entry_unless_excused : ℕ → List RecordedLine → InvalidatingEvent → Option InvalidationEntry
entry_unless_excused number after event = if is_excused event after then None else Some (record { invalidation = record { line = number; event = event }; pending = is_pending event after })

-- The entry for the event that line `number` reports, if there is one. It depends on this line and the lines after it.
abbrev pub entry_at : ℕ → RecordedLine → List RecordedLine → Option InvalidationEntry
entry_at number line after = option_and_then (entry_unless_excused number after) (event_of line)

abbrev pub entries_from : ℕ → List RecordedLine → List InvalidationEntry
entries_from number [] = []
entries_from number (line ∷ after) = cons_option (entry_at number line after) (entries_from (number + 1) after)

-- ---- the stored events
abbrev pub closed_with : (List ℕ → Bool) → InvalidationEntry → List ℕ → Bool
closed_with closed one word = closed word || (not one.pending && bytes_eq (keyword_of one.invalidation.event) word)

-- `kept` is the list `all` without some events that cannot be the first of their type, because an earlier event of the type
-- is not pending. `closed` says of which types such an earlier event comes before this list.
pub data IsEnough : (List ℕ → Bool) → List InvalidationEntry → List InvalidationEntry → Type 0 where
  none : (closed : List ℕ → Bool) → IsEnough closed [] []
  keep : (closed : List ℕ → Bool) (kept all : List InvalidationEntry) (one : InvalidationEntry) → IsEnough (closed_with closed one) kept all
      → IsEnough closed (one ∷ kept) (one ∷ all)
  leave : (closed : List ℕ → Bool) (kept all : List InvalidationEntry) (one : InvalidationEntry) → closed (keyword_of one.invalidation.event) ≡ true → IsEnough closed kept all → IsEnough closed kept (one ∷ all)

abbrev pub invalidations_in : List InvalidationEntry → List Invalidation
invalidations_in stored = map (λ one. one.invalidation) stored

-- The list with the event appended, unless the list has an event of the same type.
abbrev pub with_new_type : Invalidation → List Invalidation → List Invalidation
with_new_type one firsts = if list_any (has_type one.event) firsts then firsts else firsts ++ one ∷ []

-- ---- the change by one more line
abbrev pub can_be_excused : InvalidatingEvent → Bool
can_be_excused (event.TimedOut actor job) = true
can_be_excused (event.Interrupted actor job) = true
can_be_excused event = false

abbrev pub entry_of : ℕ → RecordedLine → Option InvalidationEntry
entry_of number line = option_map (λ event. record { invalidation = record { line = number; event = event }; pending = can_be_excused event }) (event_of line)

abbrev pub is_certain_first : InvalidatingEvent → InvalidationEntry → Bool
is_certain_first event stored = not stored.pending && is_same_type stored.invalidation.event event

-- The line repeats the get of the event, and so discards the event.
abbrev pub excuses : RecordedLine → InvalidatingEvent → Bool
excuses line (event.TimedOut actor job) = repeats_get actor job line
excuses line (event.Interrupted actor job) = repeats_get actor job line
excuses line event = false

-- The line belongs to the actor of the event, which is a get that timed out or was interrupted.
abbrev pub ends_pending : RecordedLine → InvalidatingEvent → Bool
ends_pending line (event.TimedOut actor job) = is_of actor line
ends_pending line (event.Interrupted actor job) = is_of actor line
ends_pending line event = false

abbrev pub is_excused_by : RecordedLine → InvalidationEntry → Bool
is_excused_by line stored = stored.pending && excuses line stored.invalidation.event

abbrev pub remains_after : RecordedLine → InvalidationEntry → Bool
remains_after line stored = not (is_excused_by line stored)

abbrev pub with_pending_ended : RecordedLine → InvalidationEntry → InvalidationEntry
with_pending_ended line stored = record stored { pending = stored.pending && not (ends_pending line stored.invalidation.event) }

abbrev pub entries_after_line : RecordedLine → List InvalidationEntry → List InvalidationEntry
entries_after_line line kept = map (with_pending_ended line) (filter (remains_after line) kept)

-- ---- the list
-- The actor whose next line can discard the event.
abbrev pub getter_of : InvalidatingEvent → Option RecordedActor
getter_of (event.TimedOut actor job) = Some actor
getter_of (event.Interrupted actor job) = Some actor
getter_of event = None

-- The number of the line that reports the pending event of an actor, if there is one.
abbrev pub line_in : PendingLines → RecordedActor → Option ℕ
line_in pending (Job job) = value_at pending.jobs job
line_in pending (Round round) = value_at pending.rounds round

abbrev pub is_line : ℕ → Option ℕ → Bool
is_line number None = false
is_line number (Some line) = line == number

abbrev pub is_pending_in : PendingLines → ℕ × Invalidation → Bool
is_pending_in pending stored = is_line stored.0 (option_and_then (line_in pending) (getter_of stored.1.event))

abbrev pub entry_in : PendingLines → ℕ × Invalidation → InvalidationEntry
entry_in pending stored = record { invalidation = stored.1; pending = is_pending_in pending stored }

-- The entries of the list, in the order of their lines.
abbrev pub kept_in : InvalidationList → List InvalidationEntry
kept_in list = map (entry_in list.pending) list.events.entries

abbrev pub is_of_type : InvalidatingEvent → InvalidatingEvent → Bool
is_of_type event other = is_same_type other event

-- Each event of the list is from a line before line `number`. For each type in `certain`, the list has an event of this type
-- that is not pending.
pub record IsBefore (number : ℕ) (list : InvalidationList) : Type 0 where
  pub ordered : IsOrdered nat_cmp list.events
  pub earlier : AllByRecursion (λ line. line < number) (keys list.events)
  pub certain : (event : InvalidatingEvent) → list_any (is_of_type event) list.certain.items ≡ true → list_any (is_certain_first event) (kept_in list) ≡ true

-- Each type in the new list is a type in the old list or the type of the event.
abbrev pub AddsType : InvalidatingEvent → List InvalidatingEvent → List InvalidatingEvent → Type 0
AddsType event old new = (one : InvalidatingEvent) → list_any (is_of_type one) new ≡ true → (list_any (is_of_type one) old || is_same_type event one) ≡ true

-- ---- the pending event of the line's actor
-- If `line` repeats the get of the event, the event is removed. Otherwise it stays, and its type may become certain.
pub data SettlesEvent (line : RecordedLine) (number : ℕ) (old : BTreeMap ℕ Invalidation) (certain : List InvalidatingEvent) (new : BTreeMap ℕ Invalidation) (after : List InvalidatingEvent) : Type 0 where
  discards : (one : Invalidation) → get nat_cmp old number ≡ Some one → excuses line one.event ≡ true → new.entries ≡ remove_entry (is_at (nat_cmp number)) old.entries → IsOrdered nat_cmp new → after ≡ certain
      → SettlesEvent line number old certain new after
  ends : (one : Invalidation) → get nat_cmp old number ≡ Some one → excuses line one.event ≡ false → ends_pending line one.event ≡ true → new ≡ old → AddsType one.event certain after
      → SettlesEvent line number old certain new after
  stays : ((one : Invalidation) → get nat_cmp old number ≡ Some one → excuses line one.event ≡ false) → new ≡ old → after ≡ certain → SettlesEvent line number old certain new after

-- The line's actor has no pending event.
abbrev pub HasNoPending : RecordedLine → PendingLines → Type 0
HasNoPending line pending = option_and_then (line_in pending) (actor_of line) ≡ None

pub record IsSettledBy (number : ℕ) (line : RecordedLine) (old new : InvalidationList) : Type 0 where
  pub kept : kept_in new ≡ entries_after_line line (kept_in old)
  pub none : HasNoPending line new.pending
  pub before : IsBefore number new

-- ---- a new event
abbrev pub IsNotPending : PendingLines → InvalidatingEvent → Type 0
IsNotPending pending event = option_and_then (line_in pending) (getter_of event) ≡ None

abbrev pub new_entry : Invalidation → InvalidationEntry
new_entry one = record { invalidation = one; pending = can_be_excused one.event }

-- The event is appended, or left out because the list has an event of the same type that is not pending.
pub data IsWithFirst (one : InvalidationEntry) (kept new : List InvalidationEntry) : Type 0 where
  appended : new ≡ kept ++ one ∷ [] → IsWithFirst one kept new
  skipped : list_any (is_certain_first one.invalidation.event) kept ≡ true → new ≡ kept → IsWithFirst one kept new

abbrev pub IsWithEntry : Option InvalidationEntry → List InvalidationEntry → List InvalidationEntry → Type 0
IsWithEntry None kept new = new ≡ kept
IsWithEntry (Some one) kept new = IsWithFirst one kept new

-- If a later line can discard the event, `line` is stored as the line of its actor's pending event. Otherwise its type may
-- become certain.
pub data IsNoted (event : InvalidatingEvent) (line : ℕ) (old : PendingLines) (certain : List InvalidatingEvent) (new : PendingLines) (after : List InvalidatingEvent) : Type 0 where
  noted_pending : (actor : RecordedActor) → getter_of event ≡ Some actor → ((one : RecordedActor) → line_in new one ≡ (if is_same_actor actor one then Some line else line_in old one)) → after ≡ certain
      → IsNoted event line old certain new after
  noted_certain : getter_of event ≡ None → new ≡ old → AddsType event certain after → IsNoted event line old certain new after

pub record IsPushed (one : Invalidation) (old new : InvalidationList) : Type 0 where
  pub kept : IsWithFirst (new_entry one) (kept_in old) (kept_in new)
  pub before : IsBefore (one.line + 1) new
