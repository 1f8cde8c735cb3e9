-- The first free pool of a board can be claimed.
use Rattle.std.proofs.Common.{◌≡◌, ℕ, List, Option, Some, None, true, is_some, position, slice_get, refl, sym, ap, ◌∙◌}
use Rattle.std.proofs.lemmas.Bool.{false≢true}
use Rattle.std.proofs.lemmas.List.Quantifiers.{position-Some}
use Rattle.std.proofs.lemmas.Option.{slice_get-get_or}
use Rattle.cert_search.specs.declared.board.PoolStatus.{PoolStatus}
use Rattle.cert_search.specs.declared.board.PoolStatus.TheVariants.{Free, Claimed, Done}
use Rattle.cert_search.specs.declared.board.BoardEvent.TheVariants.{Claim}
use Rattle.cert_search.specs.Board.{is_free, next_statuses}

free_alone : (status : PoolStatus) → is_free status ≡ true → status ≡ Free
free_alone Free is = refl
free_alone Claimed is = absurd (false≢true is)
free_alone Done is = absurd (false≢true is)

first_is_free : (statuses : List PoolStatus) (p : ℕ) → position is_free statuses ≡ Some p → slice_get statuses p ≡ Some Free
first_is_free statuses p is =
    let first = position-Some is_free statuses p Free is in
    slice_get-get_or statuses p Free first.0 ∙ ap Some (free_alone _ first.1)

-- the claim of the first free pool always gets a receipt
pub never_refused : {R : Type 0} (statuses now : List PoolStatus) (p : ℕ) (receipt : Option R) → now ≡ statuses → position is_free statuses ≡ Some p
    → is_some receipt ≡ is_some (next_statuses now (Claim p)) → receipt ≡ None → ⊥
never_refused statuses now p receipt same is answered none =
    let free : slice_get now p ≡ Some Free = ap (λ s. slice_get s p) same ∙ first_is_free statuses p is in
    let made : is_some (next_statuses now (Claim p)) ≡ true = rw free refl in
    false≢true (ap is_some (sym none) ∙ answered ∙ made)
