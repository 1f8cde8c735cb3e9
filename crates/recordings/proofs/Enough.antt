-- The stored events suffice: the first stored event of each type is the first of all events of the type, also after one more line.
use Rattle.std.proofs.Common.{◌≡◌, ℕ, ◌&&◌, ◌||◌, not, Bool, true, false, if◌then◌else◌, List, [], ◌∷◌, ◌++◌, map, Option, Some, None, refl, ap, sym, subst, ◌∙◌, append-nil}
use Rattle.std.specs.Str.{bytes_eq}
use Rattle.std.specs.Option.{option_to_list}
use Rattle.std.specs.List.{list_any, filter}
use Rattle.recordings.specs.RecordingLine.{RecordedLine}
use Rattle.recordings.proofs.Tests.{filter_filter}
use Rattle.recordings.specs.declared.invalidation.Invalidation.{Invalidation}
use Rattle.recordings.specs.Invalidations.{keyword_of, has_type, first_of_each}
use Rattle.recordings.specs.InvalidationList.{InvalidationEntry, invalidations_in, closed_with, IsEnough, none, keep, leave, is_certain_first, IsWithFirst, appended, skipped, IsWithEntry, ends_pending, remains_after, with_pending_ended, entries_after_line}
use Rattle.recordings.proofs.Firsts.{same_text, unlike}

-- ---- events that a line discards
or_wider : (a b c : Bool) → (a ≡ true → b ≡ true) → (a || c) ≡ true → (b || c) ≡ true
or_wider true b c wider h = ap (λ x. x || c) (wider refl)
or_wider false true c wider h = refl
or_wider false false c wider h = h

closed_wider : (closed wider : List ℕ → Bool) (one : InvalidationEntry) → ((word : List ℕ) → closed word ≡ true → wider word ≡ true) → (word : List ℕ) → closed_with closed one word ≡ true → closed_with wider one word ≡ true
closed_wider closed wider one more word h = or_wider (closed word) (wider word) (not one.pending && bytes_eq (keyword_of one.invalidation.event) word) (more word) h

closes_none : (a pending c : Bool) → pending ≡ true → (a || (not pending && c)) ≡ true → a ≡ true
closes_none true pending c pends h = refl
closes_none false pending c pends h = sym (ap (λ b. not b && c) pends) ∙ h

keep_if : (b : Bool) (closed : List ℕ → Bool) (one : InvalidationEntry) (kept all : List InvalidationEntry) → (b ≡ true → IsEnough (closed_with closed one) kept all) → (b ≡ false → IsEnough closed kept all)
    → IsEnough closed (if b then one ∷ kept else kept) (if b then one ∷ all else all)
keep_if true closed one kept all stays goes = keep closed kept all one (stays refl)
keep_if false closed one kept all stays goes = goes refl

leave_if : (b : Bool) (closed : List ℕ → Bool) (one : InvalidationEntry) (kept all : List InvalidationEntry) → closed (keyword_of one.invalidation.event) ≡ true → IsEnough closed kept all → IsEnough closed kept (if b then one ∷ all else all)
leave_if true closed one kept all is_closed h = leave closed kept all one is_closed h
leave_if false closed one kept all is_closed h = h

enough_filter : (p : InvalidationEntry → Bool) → ((one : InvalidationEntry) → p one ≡ false → one.pending ≡ true) → (closed wider : List ℕ → Bool) (kept all : List InvalidationEntry) → ((word : List ℕ) → closed word ≡ true → wider word ≡ true)
    → IsEnough closed kept all → IsEnough wider (filter p kept) (filter p all)
enough_filter p pends _ wider _ _ more (none closed) = none wider
enough_filter p pends _ wider _ _ more (keep closed kept all one h) =
    keep_if (p one) wider one (filter p kept) (filter p all) (λ stays. enough_filter p pends (closed_with closed one) (closed_with wider one) kept all (closed_wider closed wider one more) h)
    (λ goes. enough_filter p pends (closed_with closed one) wider kept all (λ word c. more word (closes_none (closed word) one.pending (bytes_eq (keyword_of one.invalidation.event) word) (pends one goes) c)) h)
enough_filter p pends _ wider _ _ more (leave closed kept all one is_closed h) =
    leave_if (p one) wider one (filter p kept) (filter p all) (more (keyword_of one.invalidation.event) is_closed) (enough_filter p pends closed wider kept all more h)

-- ---- events that are no longer pending
or_closer : (a b pending ends_pending c : Bool) → (a ≡ true → b ≡ true) → (a || (not pending && c)) ≡ true → (b || (not (pending && not ends_pending) && c)) ≡ true
or_closer true b pending ends_pending c more h = ap (λ x. x || (not (pending && not ends_pending) && c)) (more refl)
or_closer false true pending ends_pending c more h = refl
or_closer false false true ends_pending c more h = absurd (let e : false ≡ true = h in cc)
or_closer false false false ends_pending c more h = h

enough_closed : (line : RecordedLine) (closed wider : List ℕ → Bool) (kept all : List InvalidationEntry) → ((word : List ℕ) → closed word ≡ true → wider word ≡ true) → IsEnough closed kept all
    → IsEnough wider (map (with_pending_ended line) kept) (map (with_pending_ended line) all)
enough_closed line _ wider _ _ more (none closed) = none wider
enough_closed line _ wider _ _ more (keep closed kept all one h) =
    keep wider (map (with_pending_ended line) kept) (map (with_pending_ended line) all) (with_pending_ended line one)
    (enough_closed line (closed_with closed one) (closed_with wider (with_pending_ended line one)) kept all
    (λ word c. or_closer (closed word) (wider word) one.pending (ends_pending line one.invalidation.event) (bytes_eq (keyword_of one.invalidation.event) word) (more word) c) h)
enough_closed line _ wider _ _ more (leave closed kept all one is_closed h) =
    leave wider (map (with_pending_ended line) kept) (map (with_pending_ended line) all) (with_pending_ended line one) (more (keyword_of one.invalidation.event) is_closed) (enough_closed line closed wider kept all more h)

open_goes : (pending excuses : Bool) → not (pending && excuses) ≡ false → pending ≡ true
open_goes true excuses h = refl
open_goes false excuses h = absurd (let e : true ≡ false = h in cc)

enough_settled : (line : RecordedLine) (closed : List ℕ → Bool) (kept all : List InvalidationEntry) → IsEnough closed kept all → IsEnough closed (entries_after_line line kept) (entries_after_line line all)
enough_settled line closed kept all h =
    enough_closed line closed closed (filter (remains_after line) kept) (filter (remains_after line) all) (λ word c. c)
    (enough_filter (remains_after line) (λ one goes. open_goes one.pending _ goes) closed closed kept all (λ word c. c) h)

-- ---- a new event
enough_push : (one : InvalidationEntry) (closed : List ℕ → Bool) (kept all : List InvalidationEntry) → IsEnough closed kept all → IsEnough closed (kept ++ one ∷ []) (all ++ one ∷ [])
enough_push one _ _ _ (none closed) = keep closed [] [] one (none (closed_with closed one))
enough_push one _ _ _ (keep closed kept all first h) = keep closed (kept ++ one ∷ []) (all ++ one ∷ []) first (enough_push one (closed_with closed first) kept all h)
enough_push one _ _ _ (leave closed kept all first is_closed h) = leave closed (kept ++ one ∷ []) (all ++ one ∷ []) first is_closed (enough_push one closed kept all h)

or_none : (a : Bool) → (a || false) ≡ true → a ≡ true
or_none true h = refl
or_none false h = h

or_again : (a b c : Bool) → (a || (b || c)) ≡ true → ((a || b) || c) ≡ true
or_again true b c h = refl
or_again false b c h = h

enough_skip : (one : InvalidationEntry) (closed : List ℕ → Bool) (kept all : List InvalidationEntry) → IsEnough closed kept all → (closed (keyword_of one.invalidation.event) || list_any (is_certain_first one.invalidation.event) kept) ≡ true
    → IsEnough closed kept (all ++ one ∷ [])
enough_skip one _ _ _ (none closed) h = leave closed [] [] one (or_none (closed (keyword_of one.invalidation.event)) h) (none closed)
enough_skip one _ _ _ (keep closed kept all first e) h =
    keep closed kept (all ++ one ∷ []) first
    (enough_skip one (closed_with closed first) kept all e (or_again (closed (keyword_of one.invalidation.event)) (is_certain_first one.invalidation.event first) (list_any (is_certain_first one.invalidation.event) kept) h))
enough_skip one _ _ _ (leave closed kept all first is_closed e) h = leave closed kept (all ++ one ∷ []) first is_closed (enough_skip one closed kept all e h)

abbrev pub no_word : List ℕ → Bool
no_word word = false

enough_first : (one : InvalidationEntry) (kept new all : List InvalidationEntry) → IsEnough no_word kept all → IsWithFirst one kept new → IsEnough no_word new (all ++ one ∷ [])
enough_first one kept new all h (appended is) = subst (λ (xs : List InvalidationEntry). IsEnough no_word xs (all ++ one ∷ [])) (sym is) (enough_push one no_word kept all h)
enough_first one kept new all h (skipped there is) = subst (λ (xs : List InvalidationEntry). IsEnough no_word xs (all ++ one ∷ [])) (sym is) (enough_skip one no_word kept all h there)

enough_with : (more : Option InvalidationEntry) (kept new all : List InvalidationEntry) → IsEnough no_word kept all → IsWithEntry more kept new → IsEnough no_word new (all ++ option_to_list more)
enough_with None kept new all h is = subst (λ (xs : List InvalidationEntry). IsEnough no_word new xs) (sym (append-nil all)) (subst (λ (xs : List InvalidationEntry). IsEnough no_word xs all) (sym is) h)
enough_with (Some one) kept new all h is = enough_first one kept new all h is

pub enough_more : (line : RecordedLine) (more : Option InvalidationEntry) (kept new all : List InvalidationEntry) → IsEnough no_word kept all → IsWithEntry more (entries_after_line line kept) new → IsEnough no_word new (entries_after_line line all ++ option_to_list more)
enough_more line more kept new all h is = enough_with more (entries_after_line line kept) new (entries_after_line line all) (enough_settled line no_word kept all h) is

-- ---- the first events
abbrev is_new : (List ℕ → Bool) → Invalidation → Bool
is_new closed invalidation = not (closed (keyword_of invalidation.event))

both_ways : (c o s : Bool) → (not s && not c) ≡ (not (c || (o && s)) && not s)
both_ways true o true = refl
both_ways true o false = refl
both_ways false true true = refl
both_ways false true false = refl
both_ways false false true = refl
both_ways false false false = refl

-- Among the events of other types than that of `one`, the events of new types are the same before and after `one`.
new_after : (closed : List ℕ → Bool) (one : InvalidationEntry) (xs : List Invalidation) → filter (is_new closed) (filter (unlike one.invalidation) xs) ≡ filter (unlike one.invalidation) (filter (is_new (closed_with closed one)) xs)
new_after closed one xs =
    let both : Invalidation → Bool = λ other. unlike one.invalidation other && is_new closed other in
    sym (filter_filter (unlike one.invalidation) (is_new closed) both (λ other. refl) xs)
    ∙ filter_filter (is_new (closed_with closed one)) (unlike one.invalidation) both (λ other. both_ways (closed (keyword_of other.event)) (not one.pending) (has_type other.event one.invalidation)) xs

same_after : (closed : List ℕ → Bool) (one : InvalidationEntry) (xs ys : List Invalidation) → filter (is_new (closed_with closed one)) xs ≡ filter (is_new (closed_with closed one)) ys
    → filter (is_new closed) (one.invalidation ∷ filter (unlike one.invalidation) xs) ≡ filter (is_new closed) (one.invalidation ∷ filter (unlike one.invalidation) ys)
same_after closed one xs ys same =
    ap (λ (zs : List Invalidation). if is_new closed one.invalidation then one.invalidation ∷ zs else zs) (new_after closed one xs ∙ (ap (filter (unlike one.invalidation)) same ∙ sym (new_after closed one ys)))

-- If the type of `one` is not new, an event of the same type is not of a new type.
not_own : (closed : List ℕ → Bool) (one : InvalidationEntry) → closed (keyword_of one.invalidation.event) ≡ true → (other : Invalidation) → (s : Bool) → has_type other.event one.invalidation ≡ s → is_new closed other ≡ (not s && is_new closed other)
not_own closed one is_closed other true same = ap not (subst (λ word. closed word ≡ true) (same_text (keyword_of one.invalidation.event) (keyword_of other.event) same) is_closed)
not_own closed one is_closed other false same = refl

left_out : (closed : List ℕ → Bool) (one : InvalidationEntry) (xs : List Invalidation) → closed (keyword_of one.invalidation.event) ≡ true → filter (is_new closed) xs ≡ filter (is_new closed) (one.invalidation ∷ filter (unlike one.invalidation) xs)
left_out closed one xs is_closed =
    filter_filter (unlike one.invalidation) (is_new closed) (is_new closed) (λ other. not_own closed one is_closed other (has_type other.event one.invalidation) refl) xs
    ∙ ap (λ (b : Bool). if not b then one.invalidation ∷ filter (is_new closed) (filter (unlike one.invalidation) xs) else filter (is_new closed) (filter (unlike one.invalidation) xs)) (sym is_closed)

same_new : (closed : List ℕ → Bool) (kept all : List InvalidationEntry) → IsEnough closed kept all → filter (is_new closed) (first_of_each (invalidations_in kept)) ≡ filter (is_new closed) (first_of_each (invalidations_in all))
same_new _ _ _ (none closed) = refl
same_new _ _ _ (keep closed kept all one h) = same_after closed one (first_of_each (invalidations_in kept)) (first_of_each (invalidations_in all)) (same_new (closed_with closed one) kept all h)
same_new _ _ _ (leave closed kept all one is_closed h) = same_new closed kept all h ∙ left_out closed one (first_of_each (invalidations_in all)) is_closed

all_new : (xs : List Invalidation) → filter (is_new no_word) xs ≡ xs
all_new [] = refl
all_new (x ∷ xs) = ap (λ (ys : List Invalidation). x ∷ ys) (all_new xs)

pub same_firsts : (kept all : List InvalidationEntry) → IsEnough no_word kept all → first_of_each (invalidations_in kept) ≡ first_of_each (invalidations_in all)
same_firsts kept all h = sym (all_new (first_of_each (invalidations_in kept))) ∙ (same_new no_word kept all h ∙ all_new (first_of_each (invalidations_in all)))
