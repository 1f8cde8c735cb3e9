-- In a valid recording a round that ends is open: more rounds of its kind began than ended.
use Rattle.std.proofs.Common.{◌≡◌, ℕ, ◌+◌, ◌<◌, ◌==◌, ◌&&◌, ◌||◌, not, Bool, true, false, if◌then◌else◌, List, [], ◌∷◌, ◌++◌, count_by, Option, Some, None, refl, ap, sym, ◌∙◌, ◌≢◌, append_assoc, subst, suc, ⊎_elim, ◌⊎◌, inl, inr, arith}
use Rattle.std.proofs.lemmas.Bool.{eqb-true, and_parts, not-true}
use Rattle.recordings.specs.RecordingLine.{RecordedLine, RoundBegins, RoundEnds}
use Rattle.recordings.specs.declared.rule.LineRule.{LineRule}
use Rattle.recordings.specs.declared.rule.LineRule.TheVariants.{Frame, Pools, Numbers, Rounds}
use Rattle.recordings.specs.LineParts.{is_begin, begins_round, ends_round}
use Rattle.recordings.specs.Before.{begins, is_begun, is_ended}
use Rattle.recordings.specs.Rules.{first_broken_rule, keeps_frame, keeps_pools, keeps_numbers, keeps_rounds}
use Rattle.recordings.specs.PathsOfLines.{KeepsRules}
use Rattle.conformance.specs.RoundExcesses.{kind_of, is_kind, begins_kind, ends_kind}
use Rattle.conformance.proofs.LineByLine.{by_last, any_more, count_more}
use Rattle.conformance.proofs.Tally.{tally, tally_same, tally_below, tally_more}

-- ---- the rules for a line
record Keeps (before : List RecordedLine) (line : RecordedLine) : Type 0 where
  numbers : keeps_numbers before line ≡ true
  rounds : keeps_rounds before line ≡ true

passes : (holds : Bool) (rule : LineRule) (rest : Option LineRule) → (if not holds then Some rule else rest) ≡ None → (holds ≡ true) × (rest ≡ None)
passes true rule rest h = grind arith
passes false rule rest h = grind arith

keeps_both : (before : List RecordedLine) (line : RecordedLine) → first_broken_rule before line ≡ None → Keeps before line
keeps_both before line unbroken =
    let p1 = passes (keeps_frame before line) Frame _ unbroken in
    let p2 = passes (keeps_pools before line) Pools _ p1.1 in
    let p3 = passes (keeps_numbers before line) Numbers _ p2.1 in
    let p4 = passes (keeps_rounds before line) Rounds _ p3.1 in
    record { numbers = p3.0; rounds = p4.0 }

keeps_before : (before : List RecordedLine) (line : RecordedLine) → KeepsRules (before ++ line ∷ []) → KeepsRules before
keeps_before before line kept = record {
  unbroken = λ front one after is. kept.unbroken front one (after ++ line ∷ []) (ap (λ (lines : List RecordedLine). lines ++ line ∷ []) is ∙ append_assoc front (one ∷ after) (line ∷ []));
}

keeps_last : (before : List RecordedLine) (line : RecordedLine) → KeepsRules (before ++ line ∷ []) → Keeps before line
keeps_last before line kept = keeps_both before line (kept.unbroken before line [] refl)

next_number : (before : List RecordedLine) (round : ℕ) (name : List ℕ) → Keeps before (RoundBegins round name) → round ≡ begins before
next_number before round name k = grind (arith, k.numbers)

-- ---- one more line
begins_more : (before : List RecordedLine) (line : RecordedLine) → begins (before ++ line ∷ []) ≡ begins before + (if is_begin line then 1 else 0)
unfolding begins
begins_more before line = count_more is_begin before line

begun_more : (before : List RecordedLine) (line : RecordedLine) (round : ℕ) → is_begun (before ++ line ∷ []) round ≡ (is_begun before round || begins_round round line)
unfolding is_begun
begun_more before line round = any_more (begins_round round) before line

ended_more : (before : List RecordedLine) (line : RecordedLine) (round : ℕ) → is_ended (before ++ line ∷ []) round ≡ (is_ended before round || ends_round round line)
unfolding is_ended
ended_more before line round = any_more (ends_round round) before line

-- ---- the rounds of a kind, by number
abbrev of_kind : List (Option ℕ) → ℕ → ℕ → Bool
of_kind kinds kind round = is_kind kind (kind_of kinds round)

abbrev ended_of_kind : List (Option ℕ) → ℕ → List RecordedLine → ℕ → Bool
ended_of_kind kinds kind lines round = of_kind kinds kind round && is_ended lines round

record AreNumbered (kinds : List (Option ℕ)) (kind : ℕ) (lines : List RecordedLine) : Type 0 where
  begun : count_by (begins_kind kinds kind) lines ≡ tally (of_kind kinds kind) (begins lines)
  ended : count_by (ends_kind kinds kind) lines ≡ tally (ended_of_kind kinds kind lines) (begins lines)
  begun_below : (round : ℕ) → is_begun lines round ≡ true → round < begins lines
  ended_below : (round : ℕ) → is_ended lines round ≡ true → round < begins lines

none_numbered : (kinds : List (Option ℕ)) (kind : ℕ) → AreNumbered kinds kind []
unfolding begins is_begun is_ended
none_numbered kinds kind = record { begun = refl; ended = refl; begun_below = λ round h. cc; ended_below = λ round h. cc }

or_false : (a : Bool) → (a || false) ≡ a
or_false a = grind arith

and_false : (a : Bool) → (a && false) ≡ false
and_false a = grind arith

plus_none : (n : ℕ) → n + 0 ≡ n
plus_none n = omega arith

-- A line of another kind changes nothing.
other_numbered : (kinds : List (Option ℕ)) (kind : ℕ) (before : List RecordedLine) (line : RecordedLine) → is_begin line ≡ false → begins_kind kinds kind line ≡ false → ends_kind kinds kind line ≡ false
    → ((round : ℕ) → begins_round round line ≡ false) → ((round : ℕ) → ends_round round line ≡ false) → AreNumbered kinds kind before → AreNumbered kinds kind (before ++ line ∷ [])
other_numbered kinds kind before line no_begin no_begins no_ends no_begun no_ended n =
    let same_begins : begins (before ++ line ∷ []) ≡ begins before = grind (arith, begins_more before line, no_begin) in
    let same_begun : (round : ℕ) → is_begun (before ++ line ∷ []) round ≡ is_begun before round = λ round. grind (arith, begun_more before line round, no_begun round) in
    let same_ended : (round : ℕ) → is_ended (before ++ line ∷ []) round ≡ is_ended before round = λ round. grind (arith, ended_more before line round, no_ended round) in
    let counts_begun : count_by (begins_kind kinds kind) (before ++ line ∷ []) ≡ count_by (begins_kind kinds kind) before = grind (arith, count_more (begins_kind kinds kind) before line, no_begins) in
    let counts_ended : count_by (ends_kind kinds kind) (before ++ line ∷ []) ≡ count_by (ends_kind kinds kind) before = grind (arith, count_more (ends_kind kinds kind) before line, no_ends) in
    let tally_ended : tally (ended_of_kind kinds kind before) (begins before) ≡ tally (ended_of_kind kinds kind (before ++ line ∷ [])) (begins before)
    = tally_same _ _ (begins before) (λ round h. ap (λ b. of_kind kinds kind round && b) (sym (same_ended round))) in
    record {
      begun = counts_begun ∙ (n.begun ∙ ap (tally (of_kind kinds kind)) (sym same_begins));
      ended = counts_ended ∙ (n.ended ∙ (tally_ended ∙ ap (tally (ended_of_kind kinds kind (before ++ line ∷ []))) (sym same_begins)));
      begun_below = λ round h. subst (λ m. round < m) (sym same_begins) (n.begun_below round (sym (same_begun round) ∙ h));
      ended_below = λ round h. subst (λ m. round < m) (sym same_begins) (n.ended_below round (sym (same_ended round) ∙ h));
    }

not_below : (b : Bool) (n : ℕ) → (b ≡ true → n < n) → b ≡ false
not_below true n h = absurd (omega (arith, h refl))
not_below false n h = refl

-- The round that begins has the next number.
begun_numbered : (kinds : List (Option ℕ)) (kind : ℕ) (before : List RecordedLine) (round : ℕ) (name : List ℕ) → round ≡ begins before → AreNumbered kinds kind before → AreNumbered kinds kind (before ++ RoundBegins round name ∷ [])
begun_numbered kinds kind before round name next n =
    let line = RoundBegins round name in
    let more : begins (before ++ line ∷ []) ≡ suc (begins before) = grind (arith, begins_more before line) in
    let same_ended : (one : ℕ) → is_ended (before ++ line ∷ []) one ≡ is_ended before one = λ one. ended_more before line one ∙ or_false _ in
    let tally_ended : tally (ended_of_kind kinds kind before) (begins before) ≡ tally (ended_of_kind kinds kind (before ++ line ∷ [])) (begins before)
    = tally_same _ _ (begins before) (λ one h. ap (λ b. of_kind kinds kind one && b) (sym (same_ended one))) in
    let new_going : ended_of_kind kinds kind (before ++ line ∷ []) (begins before) ≡ false
    = ap (λ b. of_kind kinds kind (begins before) && b) (same_ended (begins before) ∙ not_below _ (begins before) (n.ended_below (begins before))) ∙ and_false _ in
    let counts_begun : count_by (begins_kind kinds kind) (before ++ line ∷ []) ≡ count_by (begins_kind kinds kind) before + (if of_kind kinds kind (begins before) then 1 else 0)
    = count_more (begins_kind kinds kind) before line ∙ ap (λ r. count_by (begins_kind kinds kind) before + (if of_kind kinds kind r then 1 else 0)) next in
    let counts_ended : count_by (ends_kind kinds kind) (before ++ line ∷ []) ≡ count_by (ends_kind kinds kind) before = count_more (ends_kind kinds kind) before line ∙ plus_none _ in
    record {
      begun = counts_begun ∙ (ap (λ m. m + (if of_kind kinds kind (begins before) then 1 else 0)) n.begun ∙ ap (tally (of_kind kinds kind)) (sym more));
      ended =
          counts_ended ∙ (n.ended ∙ (tally_ended
          ∙ (sym (plus_none _) ∙ (ap (λ (b : Bool). tally (ended_of_kind kinds kind (before ++ line ∷ [])) (begins before) + (if b then 1 else 0)) (sym new_going)
          ∙ ap (tally (ended_of_kind kinds kind (before ++ line ∷ []))) (sym more)))));
      begun_below = λ one h. grind (arith, h, begun_more before line one, n.begun_below one, next, more);
      ended_below = λ one h. grind (arith, h, same_ended one, n.ended_below one, more);
    }

going : (before : List RecordedLine) (round : ℕ) → Keeps before (RoundEnds round) → (is_begun before round ≡ true) × (is_ended before round ≡ false)
going before round k = let parts = and_parts (is_begun before round) _ k.rounds in (parts.0, not-true _ parts.1)

other_number : (a b : ℕ) → b ≢ a → (a == b) ≡ false
other_number a b h = grind (arith, h)

same_number : (a : ℕ) → (a == a) ≡ true
same_number a = grind arith

or_true : (a : Bool) → (a || true) ≡ true
or_true a = grind arith

same_by : (a b : ℕ) (t : Bool) → (a == b) ≡ t → (a ≡ b) ⊎ (a ≢ b)
same_by a b true h = inl (eqb-true a b h)
same_by a b false h = inr (λ is. grind (arith, is, h))

same_or_not : (a b : ℕ) → (a ≡ b) ⊎ (a ≢ b)
same_or_not a b = same_by a b (a == b) refl

same_and : (p old new : ℕ → Bool) (k m : ℕ) → ((m : ℕ) → m ≢ k → old m ≡ new m) → p k ≡ false → (p m && new m) ≡ (p m && old m)
same_and p old new k m others here =
    ⊎_elim (λ is. grind (arith, is, here)) (λ differs. ap (λ b. p m && b) (sym (others m differs))) (same_or_not m k)

tally_ends : (p old new : ℕ → Bool) (n k : ℕ) → ((m : ℕ) → m ≢ k → old m ≡ new m) → k < n → old k ≡ false → new k ≡ true → (b : Bool) → p k ≡ b
    → tally (λ m. p m && new m) n ≡ tally (λ m. p m && old m) n + (if b then 1 else 0)
tally_ends p old new n k others within was is true here =
    tally_more (λ m. p m && old m) (λ m. p m && new m) n k (λ m h. ap (λ b. p m && b) (others m h)) within (ap (λ b. p k && b) was ∙ and_false _) (grind (arith, here, is))
tally_ends p old new n k others within was is false here =
    tally_same (λ m. p m && new m) (λ m. p m && old m) n (λ m h. same_and p old new k m others here) ∙ sym (plus_none _)

-- The round that ends has begun and has not ended.
ended_numbered : (kinds : List (Option ℕ)) (kind : ℕ) (before : List RecordedLine) (round : ℕ) → Keeps before (RoundEnds round) → AreNumbered kinds kind before → AreNumbered kinds kind (before ++ RoundEnds round ∷ [])
ended_numbered kinds kind before round k n =
    let line = RoundEnds round in
    let is = going before round k in
    let below = n.begun_below round is.0 in
    let same_begins : begins (before ++ line ∷ []) ≡ begins before = begins_more before line ∙ plus_none _ in
    let same_begun : (one : ℕ) → is_begun (before ++ line ∷ []) one ≡ is_begun before one = λ one. begun_more before line one ∙ or_false _ in
    let others : (one : ℕ) → one ≢ round → is_ended before one ≡ is_ended (before ++ line ∷ []) one = λ one h. sym (ended_more before line one ∙ (ap (λ b. is_ended before one || b) (other_number round one h) ∙ or_false _)) in
    let now : is_ended (before ++ line ∷ []) round ≡ true = ended_more before line round ∙ (ap (λ b. is_ended before round || b) (same_number round) ∙ or_true _) in
    let tally_ended : tally (ended_of_kind kinds kind (before ++ line ∷ [])) (begins before) ≡ tally (ended_of_kind kinds kind before) (begins before) + (if of_kind kinds kind round then 1 else 0)
    = tally_ends (of_kind kinds kind) (is_ended before) (is_ended (before ++ line ∷ [])) (begins before) round others below is.1 now (of_kind kinds kind round) refl in
    let counts_begun : count_by (begins_kind kinds kind) (before ++ line ∷ []) ≡ count_by (begins_kind kinds kind) before = count_more (begins_kind kinds kind) before line ∙ plus_none _ in
    let counts_ended : count_by (ends_kind kinds kind) (before ++ line ∷ []) ≡ count_by (ends_kind kinds kind) before + (if of_kind kinds kind round then 1 else 0) = count_more (ends_kind kinds kind) before line in
    record {
      begun = counts_begun ∙ (n.begun ∙ ap (tally (of_kind kinds kind)) (sym same_begins));
      ended = counts_ended ∙ (ap (λ m. m + (if of_kind kinds kind round then 1 else 0)) n.ended ∙ (sym tally_ended ∙ ap (tally (ended_of_kind kinds kind (before ++ line ∷ []))) (sym same_begins)));
      begun_below = λ one h. subst (λ m. one < m) (sym same_begins) (n.begun_below one (sym (same_begun one) ∙ h));
      ended_below = λ one h. grind (arith, h, ended_more before line one, n.ended_below one, below, same_begins);
    }

line_numbered : (kinds : List (Option ℕ)) (kind : ℕ) (before : List RecordedLine) (line : RecordedLine) → Keeps before line → AreNumbered kinds kind before → AreNumbered kinds kind (before ++ line ∷ [])
line_numbered kinds kind before (RoundBegins round name) k n = begun_numbered kinds kind before round name (next_number before round name k) n
line_numbered kinds kind before (RoundEnds round) k n = ended_numbered kinds kind before round k n
line_numbered kinds kind before line k n = other_numbered kinds kind before line refl refl refl (λ round. refl) (λ round. refl) n

numbered : (kinds : List (Option ℕ)) (kind : ℕ) (lines : List RecordedLine) → KeepsRules lines → AreNumbered kinds kind lines
numbered kinds kind =
    by_last (λ lines. KeepsRules lines → AreNumbered kinds kind lines) (λ kept. none_numbered kinds kind)
    (λ before line h kept. line_numbered kinds kind before line (keeps_last before line kept) (h (keeps_before before line kept)))

-- ---- more rounds began than ended
pub is_open : (kinds : List (Option ℕ)) (kind : ℕ) (before : List RecordedLine) (round : ℕ) → KeepsRules (before ++ RoundEnds round ∷ []) → is_kind kind (kind_of kinds round) ≡ true
    → count_by (ends_kind kinds kind) before < count_by (begins_kind kinds kind) before
is_open kinds kind before round kept here =
    let n = numbered kinds kind before (keeps_before before (RoundEnds round) kept) in
    let is = going before round (keeps_last before (RoundEnds round) kept) in
    let less : tally (ended_of_kind kinds kind before) (begins before) < tally (of_kind kinds kind) (begins before)
    = tally_below (ended_of_kind kinds kind before) (of_kind kinds kind) (begins before) round (λ one h. (and_parts (of_kind kinds kind one) _ h).0) (n.begun_below round is.0)
    (ap (λ b. of_kind kinds kind round && b) is.1 ∙ and_false _) here in
    grind (arith, n.begun, n.ended, less)
