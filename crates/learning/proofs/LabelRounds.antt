-- Lemmas about the counters for the rounds of each label after one more line.
use Rattle.std.proofs.Common.{◌≡◌, ◌<◌, ℕ, zero, suc, ◌+◌, ◌==◌, Bool, true, false, if◌then◌else◌, List, [], ◌∷◌, ◌++◌, length, length-append, get_or, slice_get, Option, Some, None, refl, ap, sym, subst, ◌∙◌, inl, append_assoc, map, string_bytes, arith}
use Rattle.std.specs.List.{position}
use Rattle.std.specs.Option.{option_map}
use Rattle.std.specs.Str.{bytes_eq}
use Rattle.std.proofs.lemmas.List.Elements.{All-push}
use Rattle.std.proofs.lemmas.List.Quantifiers.{position-Some}
use Rattle.std.proofs.lemmas.Option.{slice_get-map, slice_get-get_or}
use Rattle.std.proofs.lemmas.Slice.Eq.{bytes_eq-Decides}
use Rattle.support.specs.Numbered.{value_at}
use Rattle.recordings.specs.RecordingLine.{RecordedLine, RoundBegins, RoundEnds}
use Rattle.learning.specs.declared.counts.KindCount.{KindCount}
use Rattle.learning.specs.declared.label_rounds.LabelRounds.{LabelRounds}
use Rattle.learning.specs.Counts.{Kinds, is_kind, begins_one, ends_one, AreOfKinds, BeginsOfKind}
use Rattle.learning.specs.LearningState.{AreCountsOf, ChangesOne, with_begin, with_end}
use Rattle.learning.specs.LabelRounds.{AreLabelRoundsOf, labels_of}
use Rattle.learning.proofs.RoundCounts.{all_counted}

-- ---- elements at an index
pub at_seam : (kinds more : List ℕ) (kind round : ℕ) → round ≡ length kinds → slice_get ((kinds ++ kind ∷ []) ++ more) round ≡ Some kind
at_seam [] more kind zero is = refl
at_seam [] more kind (suc round) is = absurd (omega (arith, is))
at_seam (first ∷ kinds) more kind zero is = absurd (omega (arith, is))
at_seam (first ∷ kinds) more kind (suc round) is = at_seam kinds more kind round (omega (arith, is))

pub still_there : {X : Type 0} (items more : List X) (n : ℕ) (item : X) → slice_get items n ≡ Some item → slice_get (items ++ more) n ≡ Some item
still_there [] more n item there = absurd (grind (arith, there))
still_there (first ∷ items) more zero item there = there
still_there (first ∷ items) more (suc n) item there = still_there items more n item there

pub at_end : {X : Type 0} (items : List X) (item : X) (n : ℕ) → n ≡ length items → slice_get (items ++ item ∷ []) n ≡ Some item
at_end [] item zero is = refl
at_end [] item (suc n) is = absurd (omega (arith, is))
at_end (first ∷ items) item zero is = absurd (omega (arith, is))
at_end (first ∷ items) item (suc n) is = at_end items item n (omega (arith, is))

-- If a search by name finds an index, the element there has the name.
pub place_is : {X : Type 0} (name : X → List ℕ) (label : List ℕ) (items : List X) (n : ℕ) → position (λ one. bytes_eq (name one) label) items ≡ Some n → slice_get (map name items) n ≡ Some label
place_is name label [] n found = absurd (grind (arith, found))
place_is name label (first ∷ items) n found =
    let is = position-Some (λ one. bytes_eq (name one) label) (first ∷ items) n first found in
    slice_get-map name (first ∷ items) n ∙ ap (option_map name) (slice_get-get_or (first ∷ items) n first is.0)
    ∙ ap (λ (one : List ℕ). Some one) ((bytes_eq-Decides (name (get_or (first ∷ items) n first)) label).0 is.1)

-- If the element at an index has a name, that is the name at the index of the list of names.
pub named_at : {X : Type 0} (name : X → List ℕ) (items : List X) (n : ℕ) (item : X) (label : List ℕ) → n < length items → item ≡ get_or items n item → name item ≡ label → slice_get (map name items) n ≡ Some label
named_at name items n item label within is same =
    slice_get-map name items n ∙ ap (option_map name) (slice_get-get_or items n item within ∙ ap (λ one. Some one) (sym is)) ∙ ap (λ (one : List ℕ). Some one) same

one_of_one : {X : Type 0} (x y : X) → Some x ≡ Some y → x ≡ y
one_of_one x y same = grind (arith, same)

-- Two lists of the same length with equal elements at each index are equal.
pub same_lists : (xs ys : List (List ℕ)) → length xs ≡ length ys → ((n : ℕ) → n < length ys → slice_get xs n ≡ slice_get ys n) → xs ≡ ys
same_lists [] [] long each = refl
same_lists [] (y ∷ ys) long each = absurd (omega (arith, long))
same_lists (x ∷ xs) [] long each = absurd (omega (arith, long))
same_lists (x ∷ xs) (y ∷ ys) long each =
    ap (λ (first : List ℕ). first ∷ xs) (one_of_one x y (each 0 (omega arith)))
    ∙ ap (λ (rest : List (List ℕ)). y ∷ rest) (same_lists xs ys (omega (arith, long)) (λ n below. each (suc n) (omega (arith, below))))

-- ---- a line that begins a round
begin_counts : (kinds more : List ℕ) (kind round : ℕ) (label : List ℕ) (before : List RecordedLine) (old new : List KindCount) → round ≡ length kinds → ChangesOne (Some kind) with_begin old new
    → ((after : List ℕ) → AreCountsOf (slice_get (kinds ++ after)) before old) → AreCountsOf (slice_get ((kinds ++ kind ∷ []) ++ more)) (before ++ RoundBegins round label ∷ []) new
begin_counts kinds more kind round label before old new is one counts =
    let now : Kinds = slice_get ((kinds ++ kind ∷ []) ++ more) in
    all_counted now (Some kind) None before (RoundBegins round label) old new new (λ k. ap (is_kind k) (sym (at_seam kinds more kind round is))) (λ k. refl) one (λ k. refl)
    (subst (λ ks. AreCountsOf (slice_get ks) before old) (sym (append_assoc kinds (kind ∷ []) more)) (counts (kind ∷ more)))

begin_kinds : (kinds more : List ℕ) (kind round : ℕ) (label : List ℕ) (before : List RecordedLine) (old new extra names : List (List ℕ)) → round ≡ length kinds → new ≡ old ++ extra → slice_get new kind ≡ Some label
    → ((after : List ℕ) (others : List (List ℕ)) → AreOfKinds (slice_get (kinds ++ after)) (old ++ others) before) → AreOfKinds (slice_get ((kinds ++ kind ∷ []) ++ more)) (new ++ names) (before ++ RoundBegins round label ∷ [])
begin_kinds kinds more kind round label before old new extra names is extend_body at of_kinds =
    let now : Kinds = slice_get ((kinds ++ kind ∷ []) ++ more) in
    let all : AreOfKinds now (new ++ names) before =
    subst (λ ns. AreOfKinds now ns before) (sym (ap (λ ls. ls ++ names) extend_body ∙ append_assoc old extra names))
    (subst (λ ks. AreOfKinds (slice_get ks) (old ++ (extra ++ names)) before) (sym (append_assoc kinds (kind ∷ []) more)) (of_kinds (kind ∷ more) (extra ++ names))) in
    All-push (BeginsOfKind now (new ++ names)) before (RoundBegins round label) all
    (record { kind = kind; is_kind = at_seam kinds more kind round is; name = label; is_name = still_there new names kind label at; named = inl refl })

-- After a round begins, the list has the label number of each open round, including the new one, at the index of the round.
live_begun : (kinds : List ℕ) (kind round one : ℕ) (old : Option ℕ) (is_new : Bool) → (length kinds == round) ≡ is_new → (if is_new then Some kind else old) ≡ Some one → (old ≡ Some one → slice_get kinds round ≡ Some one)
    → slice_get (kinds ++ kind ∷ []) round ≡ Some one
live_begun kinds kind round one old true is there so = at_end kinds kind round (grind (arith, is)) ∙ there
live_begun kinds kind round one old false is there so = still_there kinds (kind ∷ []) round one (so there)

pub begun_after : (old new : LabelRounds) (kind round : ℕ) (label : List ℕ) (extra : List (List ℕ)) (before : List RecordedLine) → round ≡ old.begun → new.begun ≡ old.begun + 1
    → ((round : ℕ) → value_at new.open_labels round ≡ (if old.begun == round then Some kind else value_at old.open_labels round)) → labels_of new ≡ labels_of old ++ extra → slice_get (labels_of new) kind ≡ Some label
    → ChangesOne (Some kind) with_begin old.counts.items new.counts.items → AreLabelRoundsOf old before → AreLabelRoundsOf new (before ++ RoundBegins round label ∷ [])
begun_after old new kind round label extra before is begun open_labels labels at one rounds = record {
  kinds = rounds.kinds ++ kind ∷ [];
  begun = length-append rounds.kinds (kind ∷ []) ∙ ap (λ (n : ℕ). n + 1) rounds.begun ∙ sym begun;
  open_labels = λ r one there. live_begun rounds.kinds kind r one (value_at old.open_labels r) (length rounds.kinds == r) refl
      (ap (λ (n : ℕ). if n == r then Some kind else value_at old.open_labels r) rounds.begun ∙ sym (open_labels r) ∙ there) (rounds.open_labels r one);
  counts = λ more. begin_counts rounds.kinds more kind round label before old.counts.items new.counts.items (is ∙ sym rounds.begun) one rounds.counts;
  of_kinds = λ more names. begin_kinds rounds.kinds more kind round label before (labels_of old) (labels_of new) extra names (is ∙ sym rounds.begun) labels at rounds.of_kinds;
}

-- ---- a line that ends a round
end_counts : (kinds more : List ℕ) (kind round : ℕ) (before : List RecordedLine) (old new : List KindCount) → slice_get kinds round ≡ Some kind → ChangesOne (Some kind) with_end old new
    → ((after : List ℕ) → AreCountsOf (slice_get (kinds ++ after)) before old) → AreCountsOf (slice_get (kinds ++ more)) (before ++ RoundEnds round ∷ []) new
end_counts kinds more kind round before old new at one counts =
    let now : Kinds = slice_get (kinds ++ more) in
    all_counted now None (Some kind) before (RoundEnds round) old old new (λ k. refl) (λ k. ap (is_kind k) (sym (still_there kinds more round kind at))) (λ k. refl) one (counts more)

-- A round that is open after a line that ends a round was open before the line.
still_live : (has_ended : Bool) (kind : ℕ) (old : Option ℕ) → (if has_ended then None else old) ≡ Some kind → old ≡ Some kind
still_live true kind old there = absurd (grind (arith, there))
still_live false kind old there = there

pub ended_after : (old new : LabelRounds) (kind round : ℕ) (before : List RecordedLine) → value_at old.open_labels round ≡ Some kind
    → ((one : ℕ) → value_at new.open_labels one ≡ (if round == one then None else value_at old.open_labels one)) → new.begun ≡ old.begun → new.labels.items ≡ old.labels.items
    → ChangesOne (Some kind) with_end old.counts.items new.counts.items → AreLabelRoundsOf old before → AreLabelRoundsOf new (before ++ RoundEnds round ∷ [])
ended_after old new kind round before at open_labels begun labels one rounds = record {
  kinds = rounds.kinds;
  begun = rounds.begun ∙ sym begun;
  open_labels = λ n k there. rounds.open_labels n k (still_live (round == n) k (value_at old.open_labels n) (sym (open_labels n) ∙ there));
  counts = λ more. end_counts rounds.kinds more kind round before old.counts.items new.counts.items (rounds.open_labels round kind at) one rounds.counts;
  of_kinds = λ more names. subst (λ ls. AreOfKinds (slice_get (rounds.kinds ++ more)) (map string_bytes ls ++ names) (before ++ RoundEnds round ∷ [])) (sym labels)
      (All-push (BeginsOfKind (slice_get (rounds.kinds ++ more)) (labels_of old ++ names)) before (RoundEnds round) (rounds.of_kinds more names) tt);
}

-- ---- any other line
pub other_after : (rounds : LabelRounds) (before : List RecordedLine) (line : RecordedLine) → ((kinds : Kinds) (kind : ℕ) → begins_one kinds kind line ≡ false) → ((kinds : Kinds) (kind : ℕ) → ends_one kinds kind line ≡ false)
    → ((kinds : Kinds) (names : List (List ℕ)) → BeginsOfKind kinds names line) → AreLabelRoundsOf rounds before → AreLabelRoundsOf rounds (before ++ line ∷ [])
other_after rounds before line begins ends of_kinds so = record {
  kinds = so.kinds;
  begun = so.begun;
  open_labels = so.open_labels;
  counts = λ more. let now : Kinds = slice_get (so.kinds ++ more) in
      all_counted now None None before line rounds.counts.items rounds.counts.items rounds.counts.items (λ k. sym (begins now k)) (λ k. sym (ends now k)) (λ k. refl) (λ k. refl) (so.counts more);
  of_kinds = λ more names. let now : Kinds = slice_get (so.kinds ++ more) in
      All-push (BeginsOfKind now (labels_of rounds ++ names)) before line (so.of_kinds more names) (of_kinds now (labels_of rounds ++ names));
}
