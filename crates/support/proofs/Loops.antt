-- Loops that read or check the elements of a list in order.
use Rattle.std.proofs.Common.{◌≡◌, ℕ, zero, suc, ◌+◌, ◌<◌, ◌≤◌, List, [], ◌∷◌, ◌++◌, length, get_or, take, drop, map, slice_get, Some, Result, Ok, Err, refl, sym, ap, ◌∙◌, append_assoc, add-one, arith}
use Rattle.std.proofs.lemmas.List.{append-nil, at_drop_all, length-map}
use Rattle.support.specs.Reading.{◌>>=◌, check_each, read_each}
use Rattle.support.specs.declared.read_error.ReadError.{ReadError}
use Rattle.support.specs.declared.read_error.ReadError.TheVariants.{Memory, Fault}
use Rattle.support.specs.Results.{Fails}

-- the result of a reading, with the values of `prefix` before its values
abbrev pub prepend : {Y F : Type 0} → List Y → Result (List Y) F → Result (List Y) F
prepend prefix read = read >>= λ ys. Ok (prefix ++ ys)

-- the result of reading all elements is the values in `prefix`, followed by the result of reading the elements from index i on
pub record Reads {X Y F : Type 0} (read : ℕ → X → Result Y F) (xs : List X) (i : ℕ) (prefix : List Y) : Type 0 where
  pub rest : prepend prefix (read_each read i (drop i xs)) ≡ read_each read 0 xs

-- the result of checking the elements from index i on is the result of checking all elements
pub record Checks {X F : Type 0} (check : ℕ → X → Result (Unit {0}) F) (xs : List X) (i : ℕ) : Type 0 where
  pub rest : check_each check i (drop i xs) ≡ check_each check 0 xs

-- the list from index i on is the element at i followed by the list from i + 1 on
pub drop_at : {X : Type 0} (xs : List X) (i : ℕ) (x : X) → slice_get xs i ≡ Some x → drop i xs ≡ x ∷ drop (suc i) xs
drop_at [] i x e = absurd cc
drop_at (y ∷ xs) zero x e = let same : y ≡ x = cc in rw same
drop_at (y ∷ xs) (suc i) x e = drop_at xs i x e

-- the element that a loop reads at an index within the list is the list's element at that index
pub at_index : {X : Type 0} (xs : List X) (i : ℕ) (x : X) → i < length xs → x ≡ get_or xs i x → slice_get xs i ≡ Some x
at_index [] i x within e = absurd (omega arith)
at_index (y ∷ xs) zero x within e = ap (λ (z : _). Some z) (sym e)
at_index (y ∷ xs) (suc i) x within e = at_index xs i x (omega arith) e

-- the element of a mapped list at an index is the image of the element that a loop over the original list reads there
pub at_index_seen : {X Y : Type 0} (view : X → Y) (xs : List X) (i : ℕ) (x : X) → i < length xs → x ≡ get_or xs i x → slice_get (map view xs) i ≡ Some (view x)
at_index_seen view [] i x within e = absurd (omega arith)
at_index_seen view (y ∷ xs) zero x within e = ap (λ (z : _). Some (view z)) (sym e)
at_index_seen view (y ∷ xs) (suc i) x within e = at_index_seen view xs i x (omega arith) e

-- the element of a mapped list at an index is the image of the element that a loop over the original list copies there
pub at_index_copied : {X Y : Type 0} (view : X → Y) (xs : List X) (i : ℕ) (d : X) → i < length xs → slice_get (map view xs) i ≡ Some (view (get_or xs i d))
at_index_copied view [] i d within = absurd (omega arith)
at_index_copied view (y ∷ xs) zero d within = refl
at_index_copied view (y ∷ xs) (suc i) d within = at_index_copied view xs i d (omega arith)

regroup : {Y F : Type 0} (prefix : List Y) (y : Y) (read : Result (List Y) F) → prepend prefix (read >>= λ ys. Ok (y ∷ ys)) ≡ prepend (prefix ++ y ∷ []) read
regroup prefix y (Ok ys) = ap (λ (zs : List _). Ok zs) (simp append_assoc)
regroup prefix y (Err fault) = refl

-- `Reads` holds before the first element is read
pub reads_begin : {X Y F : Type 0} (read : ℕ → X → Result Y F) (xs : List X) → Reads read xs 0 []
reads_begin read xs = record { rest = prefix_none (read_each read 0 xs) }
  where
    prefix_none : {Y F : Type 0} (r : Result (List Y) F) → prepend [] r ≡ r
    prefix_none (Ok ys) = refl
    prefix_none (Err fault) = refl

-- `Reads` holds after one more element is read
pub reads_more : {X Y F : Type 0} (read : ℕ → X → Result Y F) (xs : List X) (i : ℕ) (prefix : List Y) (x : X) (y : Y) → slice_get xs i ≡ Some x → read i x ≡ Ok y
    → Reads read xs i prefix → Reads read xs (i + 1) (prefix ++ y ∷ [])
reads_more read xs i prefix x y here given prior =
    let one : prepend prefix (read_each read i (drop i xs)) ≡ prepend (prefix ++ y ∷ []) (read_each read (i + 1) (drop (i + 1) xs)) =
    rw (drop_at xs i x here, given, add-one) (regroup prefix y (read_each read (suc i) (drop (suc i) xs))) in
    record { rest = sym one ∙ prior.rest }

-- the error of reading an element is the error of reading the list
pub reads_stop : {X Y F : Type 0} (error : ReadError F) (read : ℕ → X → Result Y F) (xs : List X) (i : ℕ) (prefix : List Y) (x : X) → slice_get xs i ≡ Some x → Fails error (read i x)
    → Reads read xs i prefix → Fails error (read_each read 0 xs)
reads_stop Memory read xs i prefix x here given prior = tt
reads_stop (Fault fault) read xs i prefix x here given prior =
    let one : prepend prefix (read_each read i (drop i xs)) ≡ Err fault = rw (drop_at xs i x here, given) refl in
    sym prior.rest ∙ one

-- after the last element, the values read are the result for the whole list
pub reads_end : {X Y F : Type 0} (read : ℕ → X → Result Y F) (xs : List X) (i : ℕ) (prefix : List Y) → length xs ≤ i → Reads read xs i prefix → read_each read 0 xs ≡ Ok prefix
reads_end read xs i prefix past prior =
    let one : prepend prefix (read_each read i (drop i xs)) ≡ Ok prefix = at_drop_all (λ (ys : List _). prepend prefix (read_each read i ys)) xs i past ∙ ap (λ (ys : List _). Ok ys) (append-nil prefix) in
    sym prior.rest ∙ one

-- `Checks` holds after one more element is checked
pub checks_more : {X F : Type 0} (check : ℕ → X → Result (Unit {0}) F) (xs : List X) (i : ℕ) (x : X) → slice_get xs i ≡ Some x → check i x ≡ Ok tt → Checks check xs i → Checks check xs (i + 1)
checks_more check xs i x here given prior =
    let one : check_each check i (drop i xs) ≡ check_each check (i + 1) (drop (i + 1) xs) = rw (drop_at xs i x here, given, add-one) refl in
    record { rest = sym one ∙ prior.rest }

-- the error of an element's check is the error of the list's check
pub checks_stop : {X F : Type 0} (error : ReadError F) (check : ℕ → X → Result (Unit {0}) F) (xs : List X) (i : ℕ) (x : X) → slice_get xs i ≡ Some x → Fails error (check i x)
    → Checks check xs i → Fails error (check_each check 0 xs)
checks_stop Memory check xs i x here given prior = tt
checks_stop (Fault fault) check xs i x here given prior =
    let one : check_each check i (drop i xs) ≡ Err fault = rw (drop_at xs i x here, given) refl in
    sym prior.rest ∙ one

-- after the last element, the check of the list succeeds
pub checks_end : {X F : Type 0} (check : ℕ → X → Result (Unit {0}) F) (xs : List X) (i : ℕ) → length xs ≤ i → Checks check xs i → check_each check 0 xs ≡ Ok tt
checks_end check xs i past prior = sym prior.rest ∙ at_drop_all (λ (ys : List _). check_each check i ys) xs i past

-- after the last element, the values read are the result for the whole list, whose elements are seen through `view`
pub reads_end_seen : {V X Y F : Type 0} (view : V → X) (read : ℕ → X → Result Y F) (values : List V) (i : ℕ) (prefix : List Y) → length values ≤ i → Reads read (map view values) i prefix
    → read_each read 0 (map view values) ≡ Ok prefix
reads_end_seen view read values i prefix past prior = reads_end read (map view values) i prefix (rw length-map past) prior

-- `Checks` holds before the first element is checked
pub checks_begin : {X F : Type 0} (check : ℕ → X → Result (Unit {0}) F) (xs : List X) → Checks check xs 0
checks_begin check xs = record { rest = refl }

images_next : {X Y : Type 0} (f : X → Y) (xs : List X) (i : ℕ) (x : X) → slice_get xs i ≡ Some x → take (suc i) (map f xs) ≡ take i (map f xs) ++ f x ∷ []
images_next f [] i x e = absurd cc
images_next f (y ∷ xs) zero x e = let same : y ≡ x = cc in rw same refl
images_next f (y ∷ xs) (suc i) x e = ap (λ (zs : List _). f y ∷ zs) (images_next f xs i x e)

-- the images of the first i + 1 elements are those of the first i, followed by the image of the element at i
pub images_more : {X Y : Type 0} (f : X → Y) (xs : List X) (i : ℕ) (x : X) → slice_get xs i ≡ Some x → take (i + 1) (map f xs) ≡ take i (map f xs) ++ f x ∷ []
images_more f xs i x here = rw add-one (images_next f xs i x here)
