-- The notes are correct before the first line, and after one more line.
use Rattle.std.proofs.Common.{◌≡◌, ℕ, ◌+◌, List, [], ◌∷◌, ◌++◌, length, None, ap, sym, subst, ◌∙◌, arith, length-append}
use Rattle.recordings.specs.RecordingLine.{RecordedLine}
use Rattle.recordings.specs.PathsOfLines.{KeepsRules}
use Rattle.recordings.proofs.ByLast.{keeps_before, keeps_last}
use Rattle.recordings.specs.declared.notes.RecordedNotes.{RecordedNotes}
use Rattle.recordings.specs.Invalidations.{first_of_each, invalidations_of}
use Rattle.recordings.specs.ForeignGets.{submitter_of}
use Rattle.recordings.specs.InvalidationList.{InvalidationEntry, invalidations_in, entries_from, entry_of, IsEnough, none, kept_in, IsBefore, IsWithEntry, entries_after_line}
use Rattle.recordings.specs.UnclaimedJobs.{submitter_in, entry_after_line, with_foreign}
use Rattle.recordings.specs.NotesOfLines.{IsNotesOf}
use Rattle.recordings.proofs.Enough.{no_word, enough_more, same_firsts}
use Rattle.recordings.proofs.EventsAfter.{noted_more, invalidations_noted}
use Rattle.recordings.proofs.GetsAfter.{none_submitted, none_got, none_foreign, unclaimed_of, unclaimed_after, foreign_after}

pub notes_none : (notes : RecordedNotes) → kept_in notes.invalidations ≡ [] → ((number : ℕ) → IsBefore number notes.invalidations) → notes.foreign ≡ None → ((job : ℕ) → submitter_in notes.unclaimed job ≡ None) → IsNotesOf notes []
notes_none notes kept before foreign unclaimed = record {
  before = before 1;
  invalidations = subst (λ (xs : List InvalidationEntry). IsEnough no_word xs []) (sym kept) (none no_word);
  foreign = foreign ∙ sym none_foreign;
  unclaimed = λ job. unclaimed job ∙ sym (ap (λ got. unclaimed_of got (submitter_of [] job)) (none_got job) ∙ none_submitted job);
}

one_on : (n : ℕ) → n + 1 ≡ 1 + n
one_on n = omega arith

invalidations_after : (kept new : List InvalidationEntry) (before : List RecordedLine) (line : RecordedLine) (number : ℕ) → number ≡ length before + 1 → IsEnough no_word kept (entries_from 1 before) → IsWithEntry (entry_of number line) (entries_after_line line kept) new
    → IsEnough no_word new (entries_from 1 (before ++ line ∷ []))
invalidations_after kept new before line number at enough is =
    let there : IsWithEntry (entry_of (1 + length before) line) (entries_after_line line kept) new = subst (λ n. IsWithEntry (entry_of n line) (entries_after_line line kept) new) (at ∙ one_on (length before)) is in
    subst (λ (all : List InvalidationEntry). IsEnough no_word new all) (sym (noted_more 1 before line)) (enough_more line (entry_of (1 + length before) line) kept new (entries_from 1 before) enough there)

next_number : (before : List RecordedLine) (line : RecordedLine) (number : ℕ) → number ≡ length before + 1 → number + 1 ≡ length (before ++ line ∷ []) + 1
next_number before line number at = ap (λ n. n + 1) (at ∙ sym (length-append before (line ∷ [])))

pub before_next : (notes : RecordedNotes) (before : List RecordedLine) (number : ℕ) → number ≡ length before + 1 → IsNotesOf notes before → IsBefore number notes.invalidations
before_next notes before number at stand = subst (λ n. IsBefore n notes.invalidations) (sym at) stand.before

pub notes_after : (old new : RecordedNotes) (before : List RecordedLine) (line : RecordedLine) (number : ℕ) → KeepsRules (before ++ line ∷ []) → number ≡ length before + 1 → IsNotesOf old before
    → IsWithEntry (entry_of number line) (entries_after_line line (kept_in old.invalidations)) (kept_in new.invalidations) → IsBefore (number + 1) new.invalidations → new.foreign ≡ with_foreign old.unclaimed number line old.foreign
    → ((job : ℕ) → submitter_in new.unclaimed job ≡ entry_after_line line job (submitter_in old.unclaimed job)) → IsNotesOf new (before ++ line ∷ [])
notes_after old new before line number kept at stand invalidations earlier foreign unclaimed = record {
  before = subst (λ n. IsBefore n new.invalidations) (next_number before line number at) earlier;
  invalidations = invalidations_after (kept_in old.invalidations) (kept_in new.invalidations) before line number at stand.invalidations invalidations;
  foreign = foreign ∙ foreign_after old.unclaimed before line number old.foreign at stand.unclaimed stand.foreign;
  unclaimed = λ job. unclaimed job ∙ (ap (entry_after_line line job) (stand.unclaimed job) ∙ unclaimed_after before line (keeps_before before line kept) (keeps_last before line kept) job);
}

pub invalidations_are : (kept : List InvalidationEntry) (lines : List RecordedLine) → IsEnough no_word kept (entries_from 1 lines) → first_of_each (invalidations_in kept) ≡ invalidations_of lines
unfolding invalidations_of
invalidations_are kept lines enough = same_firsts kept (entries_from 1 lines) enough ∙ ap first_of_each (invalidations_noted 1 lines)
