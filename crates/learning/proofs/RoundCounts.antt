-- Lemmas about the counters for the rounds of a kind after one more line.
use Rattle.std.proofs.Common.{◌≡◌, ◌≤◌, ◌<◌, ℕ, ◌+◌, ◌-◌, max, Bool, true, false, if◌then◌else◌, List, [], ◌∷◌, ◌++◌, length, take, slice_get, Option, Some, None, refl, ap, sym, subst, ◌∙◌, inl, inr, arith}
use Rattle.std.specs.Option.{option_map}
use Rattle.std.proofs.lemmas.List.{take_all, take-append-le}
use Rattle.std.proofs.lemmas.Bool.{cases_lt}
use Rattle.std.proofs.lemmas.List.Sums.{sum_by_push}
use Rattle.recordings.specs.RecordingLine.{RecordedLine, Head, Pool, RoundBegins, RoundEnds, Submits, Refused, JobStarts, JobEnds, JobThrew, Got, TimedOut, Interrupted, Cancels, InvokesAny, Removed, ShutDown, Unseen, End}
use Rattle.learning.specs.declared.counts.KindCount.{KindCount}
use Rattle.learning.specs.Counts.{Kinds, is_kind, begins_one, ends_one, begun_of, ended_of, open_of, IsMostAtOnce}
use Rattle.learning.specs.LearningState.{IsCountOf, AreCountsOf, ChangesOne, with_begin, with_end}

begun_more : (kinds : Kinds) (kind : ℕ) (before : List RecordedLine) (line : RecordedLine) → begun_of kinds kind (before ++ line ∷ []) ≡ begun_of kinds kind before + (if begins_one kinds kind line then 1 else 0)
unfolding begun_of
begun_more kinds kind before line = sum_by_push (λ x. if begins_one kinds kind x then 1 else 0) before line

ended_more : (kinds : Kinds) (kind : ℕ) (before : List RecordedLine) (line : RecordedLine) → ended_of kinds kind (before ++ line ∷ []) ≡ ended_of kinds kind before + (if ends_one kinds kind line then 1 else 0)
unfolding ended_of
ended_more kinds kind before line = sum_by_push (λ x. if ends_one kinds kind x then 1 else 0) before line

-- ---- prefixes of the lines
take_none : (n : ℕ) → take {A = RecordedLine} n [] ≡ []
take_none n = take_all n [] (omega arith)

length_more : (before : List RecordedLine) (line : RecordedLine) → length (before ++ line ∷ []) ≡ length before + 1
length_more [] line = refl
length_more (first ∷ before) line = omega (arith, length_more before line)

-- ---- the maximum number of open rounds
open_before : (kinds : Kinds) (kind n : ℕ) (before : List RecordedLine) (line : RecordedLine) → n ≤ length before → open_of kinds kind (take n (before ++ line ∷ [])) ≡ open_of kinds kind (take n before)
open_before kinds kind n before line within = ap (open_of kinds kind) (take-append-le n before (line ∷ []) within)

open_past : (kinds : Kinds) (kind n : ℕ) (before : List RecordedLine) (line : RecordedLine) → length before < n → open_of kinds kind (take n (before ++ line ∷ [])) ≡ open_of kinds kind (before ++ line ∷ [])
open_past kinds kind n before line past = ap (open_of kinds kind) (take_all n (before ++ line ∷ []) (omega (arith, length_more before line)))

open_now : (kinds : Kinds) (kind most : ℕ) (before : List RecordedLine) → IsMostAtOnce kinds kind before most → open_of kinds kind before ≤ most
open_now kinds kind most before m = subst (λ lines. open_of kinds kind lines ≤ most) (take_all (length before) before (omega arith)) (m.never_more (length before))

-- Each prefix of the extended list is a prefix of the earlier lines, or the whole list.
up_to : (kinds : Kinds) (kind most new : ℕ) (before : List RecordedLine) (line : RecordedLine) → IsMostAtOnce kinds kind before most → most ≤ new → open_of kinds kind (before ++ line ∷ []) ≤ new
    → (n : ℕ) → open_of kinds kind (take n (before ++ line ∷ [])) ≤ new
up_to kinds kind most new before line m less now n = elim (cases_lt (length before) n) [
  | inl past ↦ omega (arith, open_past kinds kind n before line past, now)
  | inr within ↦ omega (arith, open_before kinds kind n before line within, m.never_more n, less)
]

stays_once : (kinds : Kinds) (kind most n : ℕ) (before : List RecordedLine) (line : RecordedLine) → open_of kinds kind (take n before) ≡ most → (n : ℕ) × (open_of kinds kind (take n (before ++ line ∷ [])) ≡ most)
stays_once kinds kind most n before line once = elim (cases_lt (length before) n) [
  | inl past ↦ (
    length before,
    open_before kinds kind (length before) before line (omega arith)
        ∙ ap (open_of kinds kind) (take_all (length before) before (omega arith) ∙ sym (take_all n before (omega arith))) ∙ once,
  )
  | inr within ↦ (n, open_before kinds kind n before line within ∙ once)
]

pub stays : (kinds : Kinds) (kind most : ℕ) (before : List RecordedLine) (line : RecordedLine) → open_of kinds kind (before ++ line ∷ []) ≤ most → IsMostAtOnce kinds kind before most → IsMostAtOnce kinds kind (before ++ line ∷ []) most
stays kinds kind most before line now m = record {
  never_more = up_to kinds kind most most before line m (omega arith) now;
  once = stays_once kinds kind most m.once.0 before line m.once.1;
}

pub rises : (kinds : Kinds) (kind most : ℕ) (before : List RecordedLine) (line : RecordedLine) → most ≤ open_of kinds kind (before ++ line ∷ []) → IsMostAtOnce kinds kind before most
    → IsMostAtOnce kinds kind (before ++ line ∷ []) (open_of kinds kind (before ++ line ∷ []))
rises kinds kind most before line now m = record {
  never_more = up_to kinds kind most (open_of kinds kind (before ++ line ∷ [])) before line m now (omega arith);
  once = (length before + 1, open_past kinds kind (length before + 1) before line (omega arith));
}

greater : (kinds : Kinds) (kind most now : ℕ) (before : List RecordedLine) (line : RecordedLine) → open_of kinds kind (before ++ line ∷ []) ≡ now → IsMostAtOnce kinds kind before most → IsMostAtOnce kinds kind (before ++ line ∷ []) (max most now)
greater kinds kind most now before line same m = elim (cases_lt now most) [
  | inl less ↦ subst (IsMostAtOnce kinds kind (before ++ line ∷ [])) (grind (arith, less)) (stays kinds kind most before line (omega (arith, same, less)) m)
  | inr more ↦ subst (IsMostAtOnce kinds kind (before ++ line ∷ [])) (grind (arith, more, same)) (rises kinds kind most before line (omega (arith, same, more)) m)
]

-- ---- one counter
pub none_counted : (kinds : Kinds) (kind : ℕ) → IsCountOf kinds [] kind (record { begun = 0; ended = 0; most = 0 })
unfolding begun_of ended_of
none_counted kinds kind = record { begun = refl; ended = refl; most = record { never_more = λ n. grind (arith, take_none n); once = (0, refl) } }

pub begin_counted : (kinds : Kinds) (kind : ℕ) (before : List RecordedLine) (line : RecordedLine) (count : KindCount) → begins_one kinds kind line ≡ true → ends_one kinds kind line ≡ false → IsCountOf kinds before kind count
    → IsCountOf kinds (before ++ line ∷ []) kind (with_begin count)
begin_counted kinds kind before line count begins ends c =
    let begun = begun_more kinds kind before line in
    let ended = ended_more kinds kind before line in
    let now : open_of kinds kind (before ++ line ∷ []) ≡ count.begun + 1 - count.ended = grind (arith, begun, ended, begins, ends, c.begun, c.ended) in
    record {
      begun = grind (arith, begun, begins, c.begun);
      ended = grind (arith, ended, ends, c.ended);
      most = greater kinds kind count.most (count.begun + 1 - count.ended) before line now c.most;
    }

pub end_counted : (kinds : Kinds) (kind : ℕ) (before : List RecordedLine) (line : RecordedLine) (count : KindCount) → begins_one kinds kind line ≡ false → ends_one kinds kind line ≡ true → IsCountOf kinds before kind count
    → IsCountOf kinds (before ++ line ∷ []) kind (with_end count)
end_counted kinds kind before line count begins ends c =
    let begun = begun_more kinds kind before line in
    let ended = ended_more kinds kind before line in
    let less : open_of kinds kind (before ++ line ∷ []) ≤ open_of kinds kind before = grind (arith, begun, ended, begins, ends) in
    record {
      begun = grind (arith, begun, begins, c.begun);
      ended = grind (arith, ended, ends, c.ended);
      most = stays kinds kind count.most before line (omega (arith, less, open_now kinds kind count.most before c.most)) c.most;
    }

pub other_counted : (kinds : Kinds) (kind : ℕ) (before : List RecordedLine) (line : RecordedLine) (count : KindCount) → begins_one kinds kind line ≡ false → ends_one kinds kind line ≡ false → IsCountOf kinds before kind count
    → IsCountOf kinds (before ++ line ∷ []) kind count
other_counted kinds kind before line count begins ends c =
    let begun = begun_more kinds kind before line in
    let ended = ended_more kinds kind before line in
    let same : open_of kinds kind (before ++ line ∷ []) ≡ open_of kinds kind before = grind (arith, begun, ended, begins, ends) in
    record {
      begun = grind (arith, begun, begins, c.begun);
      ended = grind (arith, ended, ends, c.ended);
      most = stays kinds kind count.most before line (omega (arith, same, open_now kinds kind count.most before c.most)) c.most;
    }

-- ---- all counters
-- No line both begins and ends a round.
not_both : (kinds : Kinds) (kind : ℕ) (line : RecordedLine) → begins_one kinds kind line ≡ true → ends_one kinds kind line ≡ false
not_both kinds kind Head begins = refl
not_both kinds kind (Pool name sizes) begins = refl
not_both kinds kind (RoundBegins round label) begins = refl
not_both kinds kind (RoundEnds round) begins = absurd (grind (arith, begins))
not_both kinds kind (Submits actor job class pool) begins = refl
not_both kinds kind (Refused actor job) begins = refl
not_both kinds kind (JobStarts job) begins = refl
not_both kinds kind (JobEnds job) begins = refl
not_both kinds kind (JobThrew job) begins = refl
not_both kinds kind (Got actor job) begins = refl
not_both kinds kind (TimedOut actor job) begins = refl
not_both kinds kind (Interrupted actor job) begins = refl
not_both kinds kind (Cancels actor job) begins = refl
not_both kinds kind (InvokesAny actor pool) begins = refl
not_both kinds kind (Removed job) begins = refl
not_both kinds kind (ShutDown pool) begins = refl
not_both kinds kind (Unseen pool jobs) begins = refl
not_both kinds kind End begins = refl

counted_at : (begins ends : Bool) (kinds : Kinds) (kind : ℕ) (before : List RecordedLine) (line : RecordedLine) (old mid : Option KindCount) (count : KindCount) → begins_one kinds kind line ≡ begins → ends_one kinds kind line ≡ ends
    → mid ≡ (if begins then option_map with_begin old else old) → (if ends then option_map with_end mid else mid) ≡ Some count → ((one : KindCount) → old ≡ Some one → IsCountOf kinds before kind one) → IsCountOf kinds (before ++ line ∷ []) kind count
counted_at true true kinds kind before line old mid count begins ends m n counts = absurd (grind (arith, begins, ends, not_both kinds kind line begins))
counted_at true false kinds kind before line None mid count begins ends m n counts = absurd (grind (arith, m, n))
counted_at true false kinds kind before line (Some one) mid count begins ends m n counts =
    subst (IsCountOf kinds (before ++ line ∷ []) kind) (grind (arith, m, n)) (begin_counted kinds kind before line one begins ends (counts one refl))
counted_at false true kinds kind before line None mid count begins ends m n counts = absurd (grind (arith, m, n))
counted_at false true kinds kind before line (Some one) mid count begins ends m n counts =
    subst (IsCountOf kinds (before ++ line ∷ []) kind) (grind (arith, m, n)) (end_counted kinds kind before line one begins ends (counts one refl))
counted_at false false kinds kind before line old mid count begins ends m n counts = other_counted kinds kind before line count begins ends (counts count (sym m ∙ n))

pub all_counted : (kinds : Kinds) (begun ended : Option ℕ) (before : List RecordedLine) (line : RecordedLine) (old mid new : List KindCount) → ((kind : ℕ) → is_kind kind begun ≡ begins_one kinds kind line)
    → ((kind : ℕ) → is_kind kind ended ≡ ends_one kinds kind line) → ChangesOne begun with_begin old mid → ChangesOne ended with_end mid new → AreCountsOf kinds before old → AreCountsOf kinds (before ++ line ∷ []) new
all_counted kinds begun ended before line old mid new begins ends one two counts kind count there =
    counted_at (is_kind kind begun) (is_kind kind ended) kinds kind before line (slice_get old kind) (slice_get mid kind) count (sym (begins kind)) (sym (ends kind)) (one kind) (sym (two kind) ∙ there) (counts kind)
