-- Lists without a newline.
use Rattle.std.proofs.Common.{◌≡◌, ◌≢◌, ◌/◌, ◌%◌, ℕ, zero, suc, Bool, true, false, cond, eqb, eq-eqb, List, [], ◌∷◌, ◌++◌, refl, arith}
use Rattle.std.proofs.lemmas.Bool.Decides.{nat_tests}
use Rattle.std.proofs.lemmas.List.Elements.{All-nil, All-cons, All-append, All-tail}
use Rattle.std.specs.Fmt.{digit_glyph, digits_onto, digits, decimal}
use Rattle.diagnostics.specs.Lines.{HasNoNewline}

-- the list has no newline
pub record Single (xs : List ℕ) : Type 0 where
  pub each : HasNoNewline xs

pub none : Single []
none = record { each = All-nil (λ (x : ℕ). x ≢ 10) }

pub more : (x : ℕ) (xs : List ℕ) → x ≢ 10 → Single xs → Single (x ∷ xs)
more x xs here rest = record { each = All-cons (λ (y : ℕ). y ≢ 10) x xs here rest.each }

pub rest_of : (x : ℕ) (xs : List ℕ) → Single (x ∷ xs) → Single xs
rest_of x xs all = record { each = All-tail (λ (y : ℕ). y ≢ 10) x xs all.each }

pub joined : (xs ys : List ℕ) → Single xs → Single ys → Single (xs ++ ys)
joined xs ys front back = record { each = All-append (λ (x : ℕ). x ≢ 10) xs ys front.each back.each }

pub either : (b : Bool) (xs ys : List ℕ) → (b ≡ true → Single xs) → (b ≡ false → Single ys) → Single (cond b xs ys)
either true xs ys first second = first refl
either false xs ys first second = second refl

-- ---- a constant text

abbrev pub is_single : List ℕ → Bool
is_single [] = true
is_single (x ∷ xs) = cond (eqb x 10) false (is_single xs)

parts : (b c : Bool) → cond b false c ≡ true → (b ≡ false) × (c ≡ true)
parts true c ok = ((cc), (cc))
parts false c ok = (refl, ok)

differs : (x : ℕ) → eqb x 10 ≡ false → x ≢ 10
differs x test same = let equal : eqb x 10 ≡ true = eq-eqb x 10 same in cc

pub checked : (xs : List ℕ) → is_single xs ≡ true → Single xs
checked [] ok = none
checked (x ∷ xs) ok =
    let p = parts (eqb x 10) (is_single xs) ok in
    more x xs (differs x p.0) (checked xs p.1)

-- ---- decimal digits

glyph : (d : ℕ) → digit_glyph false d ≢ 10
glyph d = grind (arith, nat_tests)

digits_of : (k n : ℕ) (after : List ℕ) → Single after → Single (digits_onto k 10 false n after)
digits_of zero n after so = so
digits_of (suc k) n after so =
    let last = digit_glyph false (n % 10) in
    let longer : Single (last ∷ after) = more last after (glyph (n % 10)) so in
    either (eqb (n / 10) 0) (last ∷ after) (digits_onto k 10 false (n / 10) (last ∷ after)) (λ _. longer) (λ _. digits_of k (n / 10) (last ∷ after) longer)

pub number : (n : ℕ) → Single (decimal n)
unfolding digits
number n = digits_of 64 n [] none
