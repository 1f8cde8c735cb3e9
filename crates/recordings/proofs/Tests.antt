-- Tests of the elements of a list to which one element is appended.
use Rattle.std.proofs.Common.{◌≡◌, ℕ, ◌&&◌, ◌||◌, not, Bool, true, false, if◌then◌else◌, List, [], ◌∷◌, ◌++◌, zero, suc, Option, Some, None, refl, ap, ◌∙◌, sym, append-nil, arith}
use Rattle.std.specs.List.{list_any, filter, filter_map, cons_option, slice_get}
use Rattle.std.specs.Option.{option_to_list}

-- ---- and, or
pub and_first : (a b : Bool) → (a && b) ≡ true → a ≡ true
and_first true b h = refl
and_first false b h = h

pub and_second : (a b : Bool) → (a && b) ≡ true → b ≡ true
and_second true b h = h
and_second false b h = grind (arith, h)

pub or_first : (a b : Bool) → (a || b) ≡ false → a ≡ false
or_first true b h = grind (arith, h)
or_first false b h = refl

pub or_second : (a b : Bool) → (a || b) ≡ false → b ≡ false
or_second true b h = grind (arith, h)
or_second false b h = h

pub neither : (a b : Bool) → a ≡ false → b ≡ false → (a || b) ≡ false
neither a b g h = grind (arith, g, h)

pub not_weaker : (a b : Bool) → (a ≡ true → b ≡ true) → b ≡ false → a ≡ false
not_weaker true b f h = sym (f refl) ∙ h
not_weaker false b f h = refl

-- ---- some element
pub any_more : {X : Type 0} (p : X → Bool) (before : List X) (one : X) → list_any p (before ++ one ∷ []) ≡ (list_any p before || p one)
any_more p [] one = grind arith
any_more p (first ∷ before) one = grind (arith, any_more p before one)

pub none_more : {X : Type 0} (p : X → Bool) (before : List X) (one : X) → list_any p before ≡ false → p one ≡ false → list_any p (before ++ one ∷ []) ≡ false
none_more p before one h g = any_more p before one ∙ neither (list_any p before) (p one) h g

pub none_weaker : {X : Type 0} (p q : X → Bool) → ((x : X) → p x ≡ true → q x ≡ true) → (xs : List X) → list_any q xs ≡ false → list_any p xs ≡ false
none_weaker p q weaker [] h = refl
none_weaker p q weaker (x ∷ xs) h =
    neither (p x) (list_any p xs) (not_weaker (p x) (q x) (weaker x) (or_first (q x) (list_any q xs) h)) (none_weaker p q weaker xs (or_second (q x) (list_any q xs) h))

abbrev pub passes : {X : Type 0} → (X → Bool) → Option X → Bool
passes p None = false
passes p (Some x) = p x

or_false : (a : Bool) → a ≡ (a || false)
or_false true = refl
or_false false = refl

pub any_option : {X : Type 0} (p : X → Bool) (before : List X) (more : Option X) → list_any p (before ++ option_to_list more) ≡ (list_any p before || passes p more)
any_option p before None = ap (list_any p) (append-nil before) ∙ or_false (list_any p before)
any_option p before (Some one) = any_more p before one

pub passes_if : {X : Type 0} (p : X → Bool) (b : Bool) (x : X) → passes p (if b then Some x else None) ≡ (b && p x)
passes_if p true x = refl
passes_if p false x = refl

pub passes_nowhere : {X : Type 0} (p : X → Bool) (xs : List X) (i : ℕ) → list_any p xs ≡ false → passes p (slice_get xs i) ≡ false
passes_nowhere p [] i h = refl
passes_nowhere p (x ∷ xs) zero h = or_first (p x) (list_any p xs) h
passes_nowhere p (x ∷ xs) (suc i) h = passes_nowhere p xs i (or_second (p x) (list_any p xs) h)

-- ---- the elements that pass
pub filter_more : {X : Type 0} (p : X → Bool) (before : List X) (one : X) → filter p (before ++ one ∷ []) ≡ (if p one then filter p before ++ one ∷ [] else filter p before)
filter_more p [] one = refl
filter_more p (first ∷ before) one = grind (arith, filter_more p before one)

pub filter_same : {X : Type 0} (p q : X → Bool) → ((x : X) → p x ≡ q x) → (xs : List X) → filter p xs ≡ filter q xs
filter_same p q same [] = refl
filter_same p q same (x ∷ xs) = grind (arith, same x, filter_same p q same xs)

step : {X : Type 0} (here there all : Bool) (x : X) (rs ps : List X) (q : X → Bool) → q x ≡ there → all ≡ (here && there) → rs ≡ filter q ps → (if all then x ∷ rs else rs) ≡ filter q (if here then x ∷ ps else ps)
step true there all x rs ps q at both is = ap (λ (b : Bool). if b then x ∷ rs else rs) (both ∙ sym at) ∙ ap (λ ys. if q x then x ∷ ys else ys) is
step false there all x rs ps q at both is = ap (λ (b : Bool). if b then x ∷ rs else rs) both ∙ is

filter_step : {X : Type 0} (p q r : X → Bool) (x : X) (rs ps : List X) → r x ≡ (p x && q x) → rs ≡ filter q ps → (if r x then x ∷ rs else rs) ≡ filter q (if p x then x ∷ ps else ps)
filter_step {X} p q r x rs ps both is = step (p x) (q x) (r x) x rs ps q refl both is

pub filter_filter : {X : Type 0} (p q r : X → Bool) → ((x : X) → r x ≡ (p x && q x)) → (xs : List X) → filter r xs ≡ filter q (filter p xs)
filter_filter p q r both [] = refl
filter_filter p q r both (x ∷ xs) = filter_step p q r x (filter r xs) (filter p xs) (both x) (filter_filter p q r both xs)

pub filter_all : {X : Type 0} (p q : X → Bool) → ((x : X) → p x ≡ not (q x)) → (xs : List X) → list_any q xs ≡ false → filter p xs ≡ xs
filter_all p q other [] h = refl
filter_all p q other (x ∷ xs) h =
    let here : p x ≡ true = other x ∙ ap not (or_first (q x) (list_any q xs) h) in
    ap (λ (b : Bool). if b then x ∷ filter p xs else filter p xs) here ∙ ap (λ ys. x ∷ ys) (filter_all p q other xs (or_second (q x) (list_any q xs) h))

-- ---- the values of a partial function
cons_none : {X : Type 0} (o : Option X) → cons_option o [] ≡ option_to_list o
cons_none None = refl
cons_none (Some x) = refl

cons_append : {X : Type 0} (o : Option X) (xs ys : List X) → cons_option o (xs ++ ys) ≡ cons_option o xs ++ ys
cons_append None xs ys = refl
cons_append (Some x) xs ys = refl

pub filter_map_more : {X Y : Type 0} (h : X → Option Y) (xs : List X) (x : X) → filter_map h (xs ++ x ∷ []) ≡ filter_map h xs ++ option_to_list (h x)
filter_map_more h [] x = cons_none (h x)
filter_map_more h (y ∷ ys) x = ap (cons_option (h y)) (filter_map_more h ys x) ∙ cons_append (h y) (filter_map h ys) (option_to_list (h x))
