-- The lines of the pools so far, and how many of their sizes change.
use Rattle.std.proofs.Common.{◌≡◌, ◌<◌, ◌≤◌, ℕ, ◌+◌, ◌*◌, Bool, true, false, cond, ◌&&◌, List, [], ◌∷◌, ◌++◌, length, get_or, take, flat_map, sum_by, refl, sym, ap, subst, ◌∙◌, append_assoc, arith}
use Rattle.std.specs.Prelude.{◌==◌, codes, decimal, min}
use Rattle.std.proofs.lemmas.Grind.{flat_map-append}
use Rattle.std.proofs.lemmas.List.{take_more, take_all, append-nil, length-append}
use Rattle.std.proofs.lemmas.List.Sums.{sum_by_push}
use Rattle.std.proofs.lemmas.Slice.Zip.{get_or-zip, length-zip}
use Rattle.job_bodies.specs.Plan.{Pool, Plan, no_pool}
use Rattle.report.specs.Sizes as spec
use Rattle.report.specs.Sizes.{changed, any_changed, has_useless_max, pool_changes, pool_text, both_text, both_changes, both_pools, sizes_text}

-- the text after the lines of the first n pools, and the number of their sizes that change
pub record IsTextOfFirst (declared fit : Plan) (old : List ℕ) (n : ℕ) (text : List ℕ) (changes : ℕ) : Type 0 where
  pub text_is : text ≡ old ++ flat_map both_text (take n (both_pools declared fit))
  pub changes_are : changes ≡ sum_by both_changes (take n (both_pools declared fit))
  pub few : changes ≤ n * 3

one_at_most : (same : Bool) → cond same 0 1 ≤ 1
one_at_most true = omega arith
one_at_most false = omega arith

-- a size counts as at most one change
at_most_one : (declared fit : ℕ) → changed declared fit ≤ 1
at_most_one declared fit = one_at_most (declared == fit)

pub at_most_three : (declared fit : Pool) → pool_changes declared fit ≤ 3
at_most_three declared fit = by_key (has_useless_max fit)
  where
    by_key : (useless : Bool) → cond useless (any_changed declared fit) (changed declared.core fit.core + changed declared.max fit.max + changed declared.queue fit.queue) ≤ 3
    by_key true = let one = one_at_most (declared.core == fit.core && declared.max == fit.max && declared.queue == fit.queue) in omega (arith, one)
    by_key false =
        let core = at_most_one declared.core fit.core in
        let max = at_most_one declared.max fit.max in
        let queue = at_most_one declared.queue fit.queue in
        omega (arith, core, max, queue)

pub text_of_none : (declared fit : Plan) (old : List ℕ) → IsTextOfFirst declared fit old 0 old 0
text_of_none declared fit old = record { text_is = sym (append-nil old); changes_are = refl; few = omega arith }

-- the text and the number after one more pool
pub text_of_more : {X : Type 0} (declared fit : Plan) (old : List ℕ) (processed : List X) (x : X) (text longer : List ℕ) (changes more : ℕ) (d f : Pool)
    → length processed < length declared.pools → length processed < length fit.pools → d ≡ get_or declared.pools (length processed) no_pool → f ≡ get_or fit.pools (length processed) no_pool
    → longer ≡ text ++ pool_text d f → more ≡ changes + pool_changes d f → IsTextOfFirst declared fit old (length processed) text changes → IsTextOfFirst declared fit old (length (processed ++ x ∷ [])) longer more
text_of_more declared fit old processed x text longer changes more d f in_declared in_fit d_is f_is longer_is more_is prefix_is =
    let n = length processed in
    let pairs = both_pools declared fit in
    let pair : get_or pairs n (no_pool, no_pool) ≡ (d, f) = get_or-zip declared.pools fit.pools n (no_pool, no_pool) in_declared in_fit ∙ rw (d_is, f_is) refl in
    let within : n < length pairs = rw (length-zip declared.pools fit.pools) (omega (arith, in_declared, in_fit)) in
    let front : take (n + 1) pairs ≡ take n pairs ++ (d, f) ∷ [] = take_more pairs n (no_pool, no_pool) within ∙ ap (λ (p : Pool × Pool). take n pairs ++ p ∷ []) pair in
    let three = at_most_three d f in
    let next : IsTextOfFirst declared fit old (n + 1) longer more = record {
      text_is =
          longer_is
          ∙ (ap (λ (t : List ℕ). t ++ pool_text d f) prefix_is.text_is
          ∙ (append_assoc old (flat_map both_text (take n pairs)) (pool_text d f)
          ∙ ap (λ (t : List ℕ). old ++ t) (sym (ap (flat_map both_text) front ∙ (flat_map-append both_text (take n pairs) ((d, f) ∷ []) ∙ ap (λ (t : List ℕ). flat_map both_text (take n pairs) ++ t) (append-nil (pool_text d f)))))));
      changes_are = more_is ∙ (ap (λ (c : ℕ). c + pool_changes d f) prefix_is.changes_are ∙ sym (ap (sum_by both_changes) front ∙ sum_by_push both_changes (take n pairs) (d, f)));
      few = omega (arith, three, more_is, prefix_is.few);
    } in
    subst (λ (m : ℕ). IsTextOfFirst declared fit old m longer more) (sym (length-append processed (x ∷ []))) next

-- the text and the number after the last pool
pub text_of_all : (declared fit : Plan) (old text whole : List ℕ) (n changes : ℕ) → n ≡ min (length declared.pools) (length fit.pools) → IsTextOfFirst declared fit old n text changes
    → whole ≡ text ++ (codes "changes " ++ (decimal changes ++ 10 ∷ [])) → (whole ≡ old ++ sizes_text declared fit) × (changes ≡ spec.changes declared fit)
text_of_all declared fit old text whole n changes all processed whole_is =
    let pairs = both_pools declared fit in
    let everything : take n pairs ≡ pairs = take_all n pairs (rw (length-zip declared.pools fit.pools) (omega (arith, all))) in
    let text_is : text ≡ old ++ flat_map both_text pairs = processed.text_is ∙ ap (λ (ps : List (Pool × Pool)). old ++ flat_map both_text ps) everything in
    let changes_are : changes ≡ spec.changes declared fit = processed.changes_are ∙ ap (sum_by both_changes) everything in
    let last : List ℕ → List ℕ = λ t. t ++ (codes "changes " ++ (decimal (spec.changes declared fit) ++ 10 ∷ [])) in
    (whole_is ∙ (ap (λ (c : ℕ). text ++ (codes "changes " ++ (decimal c ++ 10 ∷ []))) changes_are ∙ (ap last text_is ∙ append_assoc old (flat_map both_text pairs) _)), changes_are)
