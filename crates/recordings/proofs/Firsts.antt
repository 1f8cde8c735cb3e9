-- The first event of each type, after one more event.
use Rattle.std.proofs.Common.{◌≡◌, ℕ, ◌||◌, not, Bool, true, false, if◌then◌else◌, List, [], ◌∷◌, ◌++◌, refl, ap, sym, subst, ◌∙◌, map, Bor}
use Rattle.std.specs.Str.{bytes_eq}
use Rattle.std.specs.List.{list_any, filter}
use Rattle.std.specs.Map.Iter.{deref}
use Rattle.std.proofs.lemmas.List.{map-append}
use Rattle.std.proofs.lemmas.Slice.Eq.{bytes_eq-Decides}
use Rattle.recordings.proofs.Tests.{filter_more}
use Rattle.recordings.specs.declared.invalidation.Invalidation.{Invalidation}
use Rattle.recordings.specs.Invalidations.{keyword_of, has_type, first_of_each}
use Rattle.recordings.specs.InvalidationList.{with_new_type}

pub same_text : (xs ys : List ℕ) → bytes_eq xs ys ≡ true → xs ≡ ys
same_text xs ys h = (bytes_eq-Decides xs ys).0 h

pub apart : (b : Bool) {P : Type 0} → b ≡ true → b ≡ false → P
apart b holds fails = absurd (let e : true ≡ false = sym holds ∙ fails in cc)

-- ---- later events of a type are removed
abbrev pub unlike : Invalidation → Invalidation → Bool
unlike invalidation other = not (has_type other.event invalidation)

or_gone : (a b : Bool) → (a ≡ true → false ≡ true) → b ≡ (a || b)
or_gone true b gone = absurd (let e : false ≡ true = gone refl in cc)
or_gone false b gone = refl

any_if : {X : Type 0} (p : X → Bool) (b : Bool) (x : X) (xs : List X) → (p x ≡ true → b ≡ true) → list_any p (if b then x ∷ xs else xs) ≡ (p x || list_any p xs)
any_if p true x xs stays = refl
any_if p false x xs stays = or_gone (p x) (list_any p xs) stays

any_filter : {X : Type 0} (p q : X → Bool) → ((x : X) → p x ≡ true → q x ≡ true) → (xs : List X) → list_any p (filter q xs) ≡ list_any p xs
any_filter p q stays [] = refl
any_filter p q stays (x ∷ xs) = any_if p (q x) x (filter q xs) (stays x) ∙ ap (λ b. p x || b) (any_filter p q stays xs)

-- If `one` has another type than `invalidation`, an event `other` of the type of `one` also has another type.
not_like : (invalidation one other : Invalidation) → has_type one.event invalidation ≡ false → has_type one.event other ≡ true → (b : Bool) → has_type other.event invalidation ≡ b → not b ≡ true
not_like invalidation one other fresh like true same =
    let one_word = same_text (keyword_of invalidation.event) (keyword_of other.event) same in
    apart (has_type one.event invalidation) (subst (λ word. bytes_eq word (keyword_of one.event) ≡ true) (sym one_word) like) fresh
not_like invalidation one other fresh like false same = refl

stays_unlike : (invalidation one other : Invalidation) → has_type one.event invalidation ≡ false → has_type one.event other ≡ true → unlike invalidation other ≡ true
stays_unlike invalidation one other fresh like = not_like invalidation one other fresh like (has_type other.event invalidation) refl

-- ---- one more event
-- An appended event of the type of `invalidation` is removed together with the other later events of that type.
last_goes : (invalidation one : Invalidation) (firsts : List Invalidation) (there : Bool) → unlike invalidation one ≡ false → filter (unlike invalidation) (if there then firsts else firsts ++ one ∷ []) ≡ filter (unlike invalidation) firsts
last_goes invalidation one firsts true like = refl
last_goes invalidation one firsts false like = filter_more (unlike invalidation) firsts one ∙ ap (λ (b : Bool). if b then filter (unlike invalidation) firsts ++ one ∷ [] else filter (unlike invalidation) firsts) like

last_stays : (invalidation one : Invalidation) (firsts : List Invalidation) (there : Bool) → unlike invalidation one ≡ true → filter (unlike invalidation) (if there then firsts else firsts ++ one ∷ []) ≡ (if there then filter (unlike invalidation) firsts else filter (unlike invalidation) firsts ++ one ∷ [])
last_stays invalidation one firsts true like = refl
last_stays invalidation one firsts false like = filter_more (unlike invalidation) firsts one ∙ ap (λ (b : Bool). if b then filter (unlike invalidation) firsts ++ one ∷ [] else filter (unlike invalidation) firsts) like

front : (invalidation : Invalidation) (b : Bool) (xs ys : List Invalidation) → invalidation ∷ (if b then xs else ys) ≡ (if b then invalidation ∷ xs else invalidation ∷ ys)
front invalidation true xs ys = refl
front invalidation false xs ys = refl

step : (invalidation one : Invalidation) (firsts : List Invalidation) (same : Bool) → has_type one.event invalidation ≡ same
    → invalidation ∷ filter (unlike invalidation) (with_new_type one firsts) ≡ (if same || list_any (has_type one.event) (filter (unlike invalidation) firsts) then invalidation ∷ filter (unlike invalidation) firsts else invalidation ∷ (filter (unlike invalidation) firsts ++ one ∷ []))
step invalidation one firsts true same = ap (λ (xs : List Invalidation). invalidation ∷ xs) (last_goes invalidation one firsts (list_any (has_type one.event) firsts) (ap not same))
step invalidation one firsts false same =
    ap (λ (xs : List Invalidation). invalidation ∷ xs) (last_stays invalidation one firsts (list_any (has_type one.event) firsts) (ap not same))
    ∙ (front invalidation (list_any (has_type one.event) firsts) (filter (unlike invalidation) firsts) (filter (unlike invalidation) firsts ++ one ∷ [])
    ∙ ap (λ (b : Bool). if b then invalidation ∷ filter (unlike invalidation) firsts else invalidation ∷ (filter (unlike invalidation) firsts ++ one ∷ []))
    (sym (any_filter (has_type one.event) (unlike invalidation) (λ other. stays_unlike invalidation one other same) firsts)))

pub firsts_more : (invalidations : List Invalidation) (one : Invalidation) → first_of_each (invalidations ++ one ∷ []) ≡ with_new_type one (first_of_each invalidations)
firsts_more [] one = refl
firsts_more (invalidation ∷ invalidations) one =
    ap (λ (xs : List Invalidation). invalidation ∷ filter (unlike invalidation) xs) (firsts_more invalidations one)
    ∙ step invalidation one (first_of_each invalidations) (has_type one.event invalidation) refl

-- The list of first events after a loop has read one more event.
pub firsts_next : (read : List (Bor Invalidation)) (one : Bor Invalidation) → with_new_type one.now (first_of_each (map deref read)) ≡ first_of_each (map deref (read ++ one ∷ []))
firsts_next read one = sym (ap first_of_each (map-append deref read (one ∷ [])) ∙ firsts_more (map deref read) one.now)
