-- The loop of `read_each`, and its result if each call returns what a definition gives.
use Rattle.std.proofs.Common.{◌≡◌, ℕ, zero, suc, ◌+◌, ◌<◌, ◌≤◌, ◌⊎◌, inl, inr, List, [], ◌∷◌, ◌++◌, length, drop, map, slice_get, Some, Result, Ok, Err, refl, sym, ap, subst, ◌∙◌, append_assoc, add-one, arith}
use Rattle.std.specs.Prelude.{Vec}
use Rattle.std.specs.declared.alloc.Global.{Global}
use Rattle.std.proofs.lemmas.List.{append-nil}
use Rattle.support.specs.Reading.{◌>>=◌, read_each}
use Rattle.support.specs.Results.{Gives, Fails}
use Rattle.support.specs.Each.{AllReturned, OneFailed, EachReturned, IsReadOfEach}
use Rattle.support.specs.declared.read_error.ReadError.{ReadError}
use Rattle.support.specs.declared.read_error.ReadError.TheVariants.{Memory, Fault}
use Rattle.support.proofs.Loops.{drop_at}

-- the first i elements gave the values ys, and the result for the other elements determines the result for the whole list
pub record ReadPrefix {X Y F : Type 0} (reads : ℕ → X → Result Y (ReadError F) → Type 0) (xs : List X) (i : ℕ) (ys : List Y) : Type 0 where
  pub gives : (rest : List Y) → AllReturned reads i (drop i xs) rest → AllReturned reads 0 xs (ys ++ rest)
  pub fails : (fault : F) → OneFailed reads i (drop i xs) fault → OneFailed reads 0 xs fault

-- `ReadPrefix` holds before the first element is read
pub read_begins : {X Y F : Type 0} (reads : ℕ → X → Result Y (ReadError F) → Type 0) (xs : List X) → ReadPrefix reads xs 0 []
read_begins reads xs = record { gives = λ rest h. h; fails = λ fault h. h }

-- `ReadPrefix` holds after one more element is read
pub read_continues : {X Y F : Type 0} (reads : ℕ → X → Result Y (ReadError F) → Type 0) (xs : List X) (i : ℕ) (ys : List Y) (x : X) (y : Y) → slice_get xs i ≡ Some x → reads i x (Ok y)
    → ReadPrefix reads xs i ys → ReadPrefix reads xs (i + 1) (ys ++ y ∷ [])
read_continues reads xs i ys x y here gave prior =
    let later : drop i xs ≡ x ∷ drop (i + 1) xs = rw add-one (drop_at xs i x here) in
    record {
      gives = λ rest h. rw append_assoc (prior.gives (y ∷ rest) (subst (λ (zs : List _). AllReturned reads i zs (y ∷ rest)) (sym later) (gave, h)));
      fails = λ fault h. prior.fails fault (subst (λ (zs : List _). OneFailed reads i zs fault) (sym later) (inr (y, gave, h)));
    }

-- the error of reading an element is the error of reading the list
pub read_stops : {X Y F : Type 0} (error : ReadError F) (reads : ℕ → X → Result Y (ReadError F) → Type 0) (xs : List X) (i : ℕ) (ys : List Y) (x : X) → slice_get xs i ≡ Some x → reads i x (Err error)
    → ReadPrefix reads xs i ys → EachReturned {Y = Y} reads xs (Err error)
read_stops Memory reads xs i ys x here failed prior = tt
read_stops (Fault fault) reads xs i ys x here failed prior =
    prior.fails fault (subst (λ (zs : List _). OneFailed reads i zs fault) (sym (drop_at xs i x here)) (inl failed))

-- no values are left after the last element
none_left : {X Y F : Type 0} (reads : ℕ → X → Result Y (ReadError F) → Type 0) (n : ℕ) (xs : List X) (i : ℕ) → length xs ≤ i → AllReturned reads n (drop i xs) []
none_left reads n [] zero past = tt
none_left reads n [] (suc i) past = tt
none_left reads n (x ∷ xs) zero past = absurd (omega (arith, past))
none_left reads n (x ∷ xs) (suc i) past = none_left reads n xs i (omega (arith, past))

pub read_ends : {X Y F : Type 0} (reads : ℕ → X → Result Y (ReadError F) → Type 0) (xs : List X) (i : ℕ) (ys : List Y) → length xs ≤ i → ReadPrefix reads xs i ys → AllReturned reads 0 xs ys
read_ends reads xs i ys past prior = subst (λ (zs : List _). AllReturned reads 0 xs zs) (append-nil ys) (prior.gives [] (none_left reads i xs i past))

-- ---- calls that return what a definition gives
module _ {X Y Z W F : Type 0} (reads : ℕ → X → Result Y (ReadError F) → Type 0) (seen : X → Z) (view : Y → W) (read : ℕ → Z → Result W F) where
  -- each call returns what the definition gives for its element
  abbrev pub GivesOne : Type 0
  GivesOne = (i : ℕ) (x : X) (given : Result Y (ReadError F)) → reads i x given → Gives view given (read i (seen x))

  all_given : GivesOne → (i : ℕ) (xs : List X) (ys : List Y) → AllReturned reads i xs ys → read_each read i (map seen xs) ≡ Ok (map view ys)
  all_given one i [] [] h = refl
  all_given one i [] (y ∷ ys) h = absurd h
  all_given one i (x ∷ xs) [] h = absurd h
  all_given one i (x ∷ xs) (y ∷ ys) h = rw (one i x (Ok y) h.0, all_given one (i + 1) xs ys h.1) refl

  one_failed : GivesOne → (i : ℕ) (xs : List X) (fault : F) → OneFailed reads i xs fault → read_each read i (map seen xs) ≡ Err fault
  one_failed one i [] fault h = absurd h
  one_failed one i (x ∷ xs) fault (inl h) = rw (one i x (Err (Fault fault)) h) refl
  one_failed one i (x ∷ xs) fault (inr h) = rw (one i x (Ok h.0) h.1, one_failed one (i + 1) xs fault h.2) refl

  each_given : GivesOne → (xs : List X) (result : Result (Vec Y Global) (ReadError F)) → EachReturned reads xs result → Gives (λ ys. map view ys.items) result (read_each read 0 (map seen xs))
  each_given one xs (Ok ys) h = all_given one 0 xs ys.items h
  each_given one xs (Err Memory) h = tt
  each_given one xs (Err (Fault fault)) h = one_failed one 0 xs fault h

  -- if each call returns what the definition gives, the loop's result is what the definition gives for the list, with views of elements and
  -- values
  pub gives_each_viewed : GivesOne → (xs : List X) (result : Result (Vec Y Global) (ReadError F)) → IsReadOfEach reads xs result → Gives (λ ys. map view ys.items) result (read_each read 0 (map seen xs))
  gives_each_viewed one xs result h = each_given one xs result h.outcome

map_same : {X : Type 0} (xs : List X) → map (λ x. x) xs ≡ xs
map_same [] = refl
map_same (x ∷ xs) = ap (λ (ys : List _). x ∷ ys) (map_same xs)

values_same : {Y F : Type 0} (read : Result (List Y) F) (result : Result (Vec Y Global) (ReadError F)) → Gives (λ ys. map (λ y. y) ys.items) result read → Gives (λ ys. ys.items) result read
values_same read (Ok ys) h = h ∙ ap (λ (zs : List _). Ok zs) (map_same ys.items)
values_same read (Err error) h = h

-- if each call returns what the definition gives, the loop's result is what the definition gives for the list, with a view of the elements
-- only
pub gives_each_seen : {X Y Z F : Type 0} (reads : ℕ → X → Result Y (ReadError F) → Type 0) (seen : X → Z) (read : ℕ → Z → Result Y F) → GivesOne reads seen (λ y. y) read
    → (xs : List X) (result : Result (Vec Y Global) (ReadError F)) → IsReadOfEach reads xs result → Gives (λ ys. ys.items) result (read_each read 0 (map seen xs))
gives_each_seen reads seen read one xs result h = values_same _ result (gives_each_viewed reads seen (λ y. y) read one xs result h)

-- if each call returns what the definition gives, the loop's result is what the definition gives for the list, without views
pub gives_each : {X Y F : Type 0} (reads : ℕ → X → Result Y (ReadError F) → Type 0) (read : ℕ → X → Result Y F) → GivesOne reads (λ x. x) (λ y. y) read
    → (xs : List X) (result : Result (Vec Y Global) (ReadError F)) → IsReadOfEach reads xs result → Gives (λ ys. ys.items) result (read_each read 0 xs)
gives_each reads read one xs result h = subst (λ (zs : List _). Gives (λ ys. ys.items) result (read_each read 0 zs)) (map_same xs) (gives_each_seen reads (λ x. x) read one xs result h)
