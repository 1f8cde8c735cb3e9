-- Joined texts split into the same two texts again.
use Rattle.std.proofs.Common.{◌≡◌, ℕ, ◌==◌, ◌||◌, Bool, true, false, cond, List, [], ◌∷◌, ◌++◌, length, refl, arith, inl, inr}
use Rattle.std.proofs.lemmas.Bool.{eqb-true}
use Rattle.std.specs.List.{ends_with}
use Rattle.std.specs.Prelude.{nat_eq}
use Rattle.std.proofs.lemmas.Slice.Eq.{ends_is}
use Rattle.std.proofs.lemmas.Bool.Decides.{Decides-eqb}
use Rattle.sizing_cli.specs.Bundle.{whole_lines, join_texts}
use Rattle.sizing_cli.specs.Laws.{IsWholeLines}
use Rattle.sizing_cli.proofs.LastSeparator.{split_is}
use Rattle.sizing_cli.specs.Laws.{JoinedTextsSplitAgain}

nothing_in : (text : List ℕ) → (length text == 0) ≡ true → text ≡ []
nothing_in [] is = refl
nothing_in (b ∷ text) is = absurd (omega (arith, eqb-true (length (b ∷ text)) 0 is))

are_whole_lines : (text : List ℕ) → IsWholeLines (whole_lines text)
are_whole_lines text = by_test (length text == 0) (ends_with nat_eq text (10 ∷ [])) refl refl
  where
    by_test : (is_empty ends : Bool) → (length text == 0) ≡ is_empty → ends_with nat_eq text (10 ∷ []) ≡ ends → IsWholeLines (cond (is_empty || ends) text (text ++ 10 ∷ []))
    by_test true ends empty same = inl (nothing_in text empty)
    by_test false true some same = inr (_, (ends_is Decides-eqb text (10 ∷ []) _ refl).0 same)
    by_test false false some other = inr (text, refl)

pub split_again : JoinedTextsSplitAgain
split_again plan second last =
    (split_is (join_texts plan second) (record { plan = whole_lines plan; second = second })).1 (record { plan = are_whole_lines plan; whole = inl refl; last = last })
