-- A lemma about a text with and without its final newline.
use Rattle.std.proofs.Common.{◌≡◌, ◌⊎◌, inl, inr, ℕ, suc, ◌-◌, ◌<◌, false, ◌==◌, List, [], ◌∷◌, ◌++◌, length, take, get_or, refl, sym, ap, ◌∙◌, arith, get_or-append-add, take_at, take_all, take-suc}
use Rattle.std.proofs.lemmas.Bool.{eqb-true, eq-eqb, ne_eqb, cond-true, cond-false, cases_Bool}
use Rattle.std.proofs.lemmas.List.{length_push}
use Rattle.support.specs.Pieces.{without_last_newline, lines_of}
use Rattle.support.proofs.Splits.{cut_at}

-- the text is its part without the final newline, followed by a newline or by nothing
pub last_newline : (text : List ℕ) → 0 < length text → (text ≡ without_last_newline text ++ 10 ∷ []) ⊎ (text ≡ without_last_newline text)
unfolding without_last_newline
last_newline text some =
    elim (cases_Bool (get_or text (length text - 1) 0 == 10)) [
      | inl ended ↦
          let last : get_or text (length text - 1) 0 ≡ 10 = eqb-true _ 10 ended in
          let place : suc (length text - 1) ≡ length text = omega arith in
          let whole : text ≡ take (length text - 1) text ++ 10 ∷ [] =
          sym (take_all (length text) text (omega arith)) ∙ ap (λ n. take n text) (sym place) ∙ take-suc text (length text - 1) 0 (omega arith) ∙ ap (λ b. take (length text - 1) text ++ b ∷ []) last
          in
          inl (whole ∙ ap (λ (t : List ℕ). t ++ 10 ∷ []) (sym (cond-true _ _ _ ended)))
      | inr other ↦ inr (sym (cond-false _ _ _ other))
    ]

pub cut_off : (text : List ℕ) → without_last_newline (text ++ 10 ∷ []) ≡ text
unfolding without_last_newline
cut_off text =
    let long : length (text ++ 10 ∷ []) - 1 ≡ length text = omega (arith, length_push text 10) in
    let last : get_or (text ++ 10 ∷ []) (length (text ++ 10 ∷ []) - 1) 0 ≡ 10 = ap (λ i. get_or (text ++ 10 ∷ []) i 0) (long ∙ omega arith) ∙ get_or-append-add text (10 ∷ []) 0 0 in
    cond-true _ _ _ (eq-eqb _ 10 last) ∙ ap (λ n. take n (text ++ 10 ∷ [])) long ∙ take_at text (10 ∷ []) (length text) refl

pub stays : (text : List ℕ) → (get_or text (length text - 1) 0 == 10) ≡ false → without_last_newline text ≡ text
unfolding without_last_newline
stays text other = cond-false _ _ _ other

pub lines_of_some : (text : List ℕ) → 0 < length text → lines_of text ≡ cut_at 10 (without_last_newline text)
unfolding lines_of
lines_of_some text some = cond-false _ _ _ (ne_eqb (length text) 0 (λ e. omega arith))
