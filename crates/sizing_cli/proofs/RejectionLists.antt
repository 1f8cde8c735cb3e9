-- Lists of the numbers of events after which pools reject jobs.
use Rattle.std.proofs.Common.{ℕ, inl, inr, List, [], ◌∷◌, ◌++◌, length, Option, None, IfSome, sym, subst, arith}
use Rattle.std.proofs.lemmas.Bool.{cases_lt, cases_eq}
use Rattle.std.proofs.lemmas.List.{length_push, get_or_append_left, get_or_push, get_or_past}
use Rattle.job_bodies.specs.Plan.{Plan}
use Rattle.report.specs.Finding.{RejectsAfter, AreRejections}

-- the list stays valid if the number for the next pool is appended
pub one_more : (plan : Plan) (found : List (Option ℕ)) (x : Option ℕ) → AreRejections plan found → IfSome x (RejectsAfter plan (length found)) → AreRejections plan (found ++ x ∷ [])
one_more plan found x before is p = elim (cases_lt p (length found)) [
  | inl earlier ↦ subst (λ (y : Option ℕ). IfSome y (RejectsAfter plan p)) (sym (get_or_append_left found (x ∷ []) None p earlier)) (before p)
  | inr past ↦ elim (cases_eq p (length found)) [
    | inl last ↦
        subst (λ (y : Option ℕ). IfSome y (RejectsAfter plan p)) (sym (get_or_push found x None p (sym last)))
        (subst (λ (q : ℕ). IfSome x (RejectsAfter plan q)) (sym last) is)
    | inr beyond ↦ subst (λ (y : Option ℕ). IfSome y (RejectsAfter plan p)) (sym (get_or_past (found ++ x ∷ []) p None (omega (arith, length_push found x)))) tt
  ]
]
