-- A text that splits at the end of the plan is the bundle of the plan and of the certificate's text.
use Rattle.std.proofs.Common.{◌≡◌, inl, inr, ℕ, Bool, true, false, ◌||◌, cond, List, [], ◌∷◌, ◌++◌, length, codes, Some, refl, sym, ap₂, subst, ◌∙◌, append_assoc, arith}
use Rattle.std.specs.Prelude.{◌==◌, nat_eq}
use Rattle.std.specs.List.{ends_with}
use Rattle.sizing_cli.specs.Laws.{IsJoined}
use Rattle.sizing_cli.specs.Certify.{IsYes, IsBundleWith}
use Rattle.sizing_cli.specs.Bundle.{whole_lines}
use Rattle.sizing_cli.specs.CertifiedSplit.{IsCertifiedSplit}
use Rattle.sizing_cli.proofs.LastSeparator.{split_is}

-- prefixes of equal length are the same, and so are the texts after them
same_parts : (a b x y : List ℕ) → length a ≡ length b → a ++ x ≡ b ++ y → (a ≡ b) × (x ≡ y)
same_parts [] [] x y len whole = (refl, whole)
same_parts [] (b ∷ bs) x y len whole = absurd (omega arith)
same_parts (a ∷ rest) [] x y len whole = absurd (omega arith)
same_parts (a ∷ front) (b ∷ bs) x y len whole =
    let tails : front ++ x ≡ bs ++ y = cc in
    let heads : a ≡ b = cc in
    let rest = same_parts front bs x y (omega arith) tails in
    (ap₂ (λ (h : ℕ) (t : List ℕ). h ∷ t) heads rest.0, rest.1)

pub certified : (plan cert text : List ℕ) → text ≡ whole_lines plan ++ (codes "%%" ++ 10 ∷ cert) → IsCertifiedSplit (length plan) text → IsBundleWith plan cert text
certified plan cert text whole split = by_end (length plan == 0 || ends_with nat_eq plan (10 ∷ [])) whole
  where
    joined : IsJoined text split.bundle
    joined = ((split_is text split.bundle).0 split.is_bundle).whole

    -- the plan ends with a newline, or is empty
    by_join : text ≡ plan ++ (codes "%%" ++ 10 ∷ cert) → IsJoined text split.bundle → IsBundleWith plan cert text
    by_join whole (inl same_bytes) =
        let parts = same_parts split.bundle.plan plan _ _ split.at (sym same_bytes ∙ whole) in
        let behind : 37 ∷ 37 ∷ 10 ∷ split.bundle.second ≡ 37 ∷ 37 ∷ 10 ∷ cert = parts.1 in
        let second : split.bundle.second ≡ cert = cc in
        let OfPlan : List ℕ → Type 0 = λ p. IsYes p split.bundle.second in
        let OfCert : List ℕ → Type 0 = λ s. IsYes plan s in
        record {
          whole = whole;
          splits = split.is_bundle ∙ ap₂ (λ (p s : List ℕ). Some (record { plan = p; second = s })) parts.0 second;
          is_accepted = subst OfCert second (subst OfPlan parts.0 split.is_accepted);
        }
    by_join whole (inr same_bytes) =
        let parts = same_parts split.bundle.plan plan _ _ split.at (sym same_bytes.0 ∙ whole) in
        let behind : 37 ∷ 37 ∷ [] ≡ 37 ∷ 37 ∷ 10 ∷ cert = parts.1 in
        absurd cc

    -- a newline was appended, so the line `%%` begins after the end of the plan
    not_at_the_end : text ≡ plan ++ (10 ∷ (codes "%%" ++ 10 ∷ cert)) → IsJoined text split.bundle → ⊥
    not_at_the_end whole (inl same_bytes) =
        let parts = same_parts split.bundle.plan plan _ _ split.at (sym same_bytes ∙ whole) in
        let behind : 37 ∷ 37 ∷ 10 ∷ split.bundle.second ≡ 10 ∷ 37 ∷ 37 ∷ 10 ∷ cert = parts.1 in
        absurd cc
    not_at_the_end whole (inr same_bytes) =
        let parts = same_parts split.bundle.plan plan _ _ split.at (sym same_bytes.0 ∙ whole) in
        let behind : 37 ∷ 37 ∷ [] ≡ 10 ∷ 37 ∷ 37 ∷ 10 ∷ cert = parts.1 in
        absurd cc

    by_end : (ended : Bool) → text ≡ cond ended plan (plan ++ 10 ∷ []) ++ (codes "%%" ++ 10 ∷ cert) → IsBundleWith plan cert text
    by_end true whole = by_join whole joined
    by_end false whole = absurd (not_at_the_end (whole ∙ append_assoc plan (10 ∷ []) _) joined)
