-- A sequence of entries: those at the lower numbers are in a map, all others are in a ring.
use Rattle.std.proofs.Common.{◌≡◌, ℕ, zero, suc, ◌+◌, ◌-◌, ◌<◌, ◌≤◌, ◌==◌, cond, List, [], ◌∷◌, ◌++◌, length, drop, get_or, set, Option, None, refl, sym, ap, ◌∙◌, arith}
use Rattle.std.proofs.lemmas.List.{append_assoc, length-append, get_or_append_left, get_or-append_right, set-append_left, set-append_right}
use Rattle.interleaving.specs.declared.job_table.JobEntry.{JobEntry}
use Rattle.interleaving.specs.JobEntry.{place_at}
use Rattle.interleaving.specs.JobRing.{items_below, gaps}
use Rattle.interleaving.proofs.ItemsBelow.{length-items, item_inside, items-updated, items-pushed_one}

module _ (at : ℕ → Option JobEntry) (base : ℕ) (recent : List (Option JobEntry)) where
  pub length-row : length (items_below at base ++ recent) ≡ base + length recent
  length-row = let both = length-append (items_below at base) recent in omega (arith, both, length-items at base)

  pub at_lower : (k : ℕ) → k < base → place_at (items_below at base ++ recent) k ≡ at k
  at_lower k low = get_or_append_left (items_below at base) recent None k (omega (arith, low, length-items at base)) ∙ item_inside at base k low

  pub at_recent : (k : ℕ) → base ≤ k → place_at (items_below at base ++ recent) k ≡ place_at recent (k - base)
  at_recent k past = get_or-append_right (items_below at base) recent base k None (length-items at base) past

  pub lower_set : (after : ℕ → Option JobEntry) (k : ℕ) (w : Option JobEntry) → k < base → ((q : ℕ) → after q ≡ cond (k == q) w (at q)) → items_below after base ++ recent ≡ set (items_below at base ++ recent) k w
  lower_set after k w low e =
      ap (λ xs. xs ++ recent) (items-updated at after base k w e) ∙ sym (set-append_left (items_below at base) recent k w (omega (arith, low, length-items at base)))

  pub recent_set : (k : ℕ) (w : Option JobEntry) → base ≤ k → items_below at base ++ set recent (k - base) w ≡ set (items_below at base ++ recent) k w
  recent_set k w past = sym (set-append_right (items_below at base) recent base k w (length-items at base) past)

  -- the sequence is unchanged when the first entry of the ring moves into the map
  pub first_lowered : (after : ℕ → Option JobEntry) (w : Option JobEntry) → ((q : ℕ) → after q ≡ cond (base == q) w (at q)) → items_below after (base + 1) ++ recent ≡ items_below at base ++ (w ∷ recent)
  first_lowered after w e = ap (λ xs. xs ++ recent) (items-pushed_one at after base w e) ∙ append_assoc (items_below at base) (w ∷ []) recent

-- the sequence is unchanged when gaps at the start of the ring are removed, because the map has no entries at the numbers of these gaps
pub gaps_lowered : (at : ℕ → Option JobEntry) (base n : ℕ) (rest : List (Option JobEntry)) → ((k : ℕ) → base ≤ k → at k ≡ None) → items_below at (base + n) ++ rest ≡ items_below at base ++ (gaps n ++ rest)
gaps_lowered at base zero rest none = let e : base + 0 ≡ base = omega arith in ap (λ m. items_below at m ++ rest) e
gaps_lowered at base (suc n) rest none =
    let e : base + suc n ≡ suc base + n = omega arith in
    ap (λ m. items_below at m ++ rest) e
    ∙ gaps_lowered at (suc base) n rest (λ k past. none k (omega (arith, past)))
    ∙ append_assoc (items_below at base) (at base ∷ []) (gaps n ++ rest)
    ∙ ap (λ x. items_below at base ++ (x ∷ (gaps n ++ rest))) (none base (omega arith))

pub one_more_gap : (n : ℕ) (rest : List (Option JobEntry)) → gaps n ++ (None ∷ rest) ≡ gaps (n + 1) ++ rest
one_more_gap zero rest = refl
one_more_gap (suc n) rest = let e : suc (n + 1) ≡ suc n + 1 = omega arith in ap (λ (xs : List (Option JobEntry)). None ∷ xs) (one_more_gap n rest) ∙ ap (λ m. gaps m ++ rest) e

-- a list that is not empty is its first element followed by the rest
pub first_and_rest : (old rest : List (Option JobEntry)) (x : Option JobEntry) → x ≡ get_or old 0 x → 0 < length old → rest ≡ drop 1 old → old ≡ x ∷ rest
first_and_rest [] rest x first long e = absurd (omega arith)
first_and_rest (y ∷ ys) rest x first long e = ap (λ z. z ∷ ys) (sym first) ∙ ap (λ (zs : List (Option JobEntry)). x ∷ zs) (sym e)
