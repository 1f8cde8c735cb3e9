-- Auxiliary lemmas.
use Rattle.std.proofs.Common.{◌≡◌, ℕ, ◌&&◌, ◌||◌, Bool, true, false, if◌then◌else◌, List, [], ◌∷◌, is_some, Option, Some, None, refl, ap, sym, ◌∙◌, slice_get}
use Rattle.std.specs.List.{list_any}
use Rattle.std.specs.Result.{OnOk}
use Rattle.std.specs.declared.result.Result.{Result}
use Rattle.std.specs.declared.result.Result.TheVariants.{Ok, Err}
use Rattle.recordings.proofs.Tests.{passes, passes_nowhere}

pub by_bool : (b : Bool) {P : Type 0} → (b ≡ true → P) → (b ≡ false → P) → P
by_bool true holds fails = holds refl
by_bool false holds fails = fails refl

pub by_option : {X : Type 0} (o : Option X) {P : Type 0} → ((x : X) → o ≡ Some x → P) → (o ≡ None → P) → P
by_option (Some x) holds fails = holds x refl
by_option None holds fails = fails refl

pub apart : (b : Bool) {P : Type 0} → b ≡ true → b ≡ false → P
apart b holds fails = absurd (let e : true ≡ false = sym holds ∙ fails in cc)

pub some_of : {X : Type 0} (o : Option X) (x : X) → o ≡ Some x → is_some o ≡ true
some_of o x h = ap is_some h

pub none_some : {X : Type 0} (o : Option X) {P : Type 0} → o ≡ None → is_some o ≡ true → P
none_some o h g = apart (is_some o) g (ap is_some h)

pub two_of : {X : Type 0} (o : Option X) (x : X) {P : Type 0} → o ≡ Some x → o ≡ None → P
two_of o x h g = absurd (let e : Some x ≡ None = sym h ∙ g in cc)

pub one_of : {X : Type 0} (o : Option X) (x y : X) → o ≡ Some x → o ≡ Some y → x ≡ y
one_of o x y h g = let e : Some x ≡ Some y = sym h ∙ g in cc

pub is_none_of : {X : Type 0} (o : Option X) → is_some o ≡ false → o ≡ None
is_none_of None h = refl
is_none_of (Some x) h = absurd (let e : true ≡ false = h in cc)

pub some_at : {X : Type 0} (o : Option X) → is_some o ≡ true → {P : Type 0} → ((x : X) → o ≡ Some x → P) → P
some_at (Some x) h k = k x refl
some_at None h k = absurd (let e : false ≡ true = h in cc)

pub or_left : (a b : Bool) → a ≡ true → (a || b) ≡ true
or_left a b h = ap (λ x. x || b) h

pub or_right : (a b : Bool) → b ≡ true → (a || b) ≡ true
or_right true b h = refl
or_right false b h = h

pub or_either : (a b : Bool) {P : Type 0} → (a || b) ≡ true → (a ≡ true → P) → (b ≡ true → P) → P
or_either true b h remaining right = remaining refl
or_either false b h remaining right = right h

pub of_one : {X : Type 0} (p : X → Bool) (x : X) → list_any p (x ∷ []) ≡ true → p x ≡ true
of_one p x h = or_either (p x) false h (λ holds. holds) (λ none. absurd (let e : false ≡ true = none in cc))

pub if_true : {X : Type 0} (b : Bool) (x y : X) → b ≡ true → (if b then x else y) ≡ x
if_true b x y h = ap (λ (c : Bool). if c then x else y) h

pub if_false : {X : Type 0} (b : Bool) (x y : X) → b ≡ false → (if b then x else y) ≡ y
if_false b x y h = ap (λ (c : Bool). if c then x else y) h

pub any_at : {X : Type 0} (p : X → Bool) (xs : List X) (i : ℕ) (x : X) → slice_get xs i ≡ Some x → p x ≡ true → list_any p xs ≡ true
any_at p xs i x h holds = by_bool (list_any p xs) (λ g. g) (λ g. apart (passes p (slice_get xs i)) (ap (passes p) h ∙ holds) (passes_nowhere p xs i g))

pub both_true : (a b : Bool) → a ≡ true → b ≡ true → (a && b) ≡ true
both_true true b h g = g
both_true false b h g = apart false h refl

pub on_ok_both : {X E : Type 0} (P Q : Type 0) (r : Result X E) → OnOk r P → OnOk r Q → OnOk r (P × Q)
on_ok_both P Q (Ok x) p q = (p, q)
on_ok_both P Q (Err e) p q = tt
