-- If no excess is found, there are never more rounds of a kind than the plan allows.
use Rattle.std.proofs.Common.{◌≡◌, ℕ, ◌+◌, ◌<◌, ◌≤◌, ◌&&◌, ◌||◌, not, nat_lt, Bool, true, false, if◌then◌else◌, List, [], ◌∷◌, ◌++◌, length, is_some, Option, Some, None, refl, ap, sym, subst, ◌∙◌, append-nil, append_assoc, arith}
use Rattle.std.specs.Option.{option_map, option_to_list}
use Rattle.std.proofs.lemmas.Bool.{eqb-true, lt-ltb}
use Rattle.job_bodies.specs.Plan.{Plan}
use Rattle.recordings.specs.RecordingLine.{RecordedLine, RoundBegins, RoundEnds}
use Rattle.conformance.specs.declared.excess.Excess.{Excess}
use Rattle.conformance.specs.Rounds.{Rounds, open_rounds, excess_of, IsWithinPlan}
use Rattle.conformance.specs.RoundExcesses.{kind_of, is_kind, rounds_of, exceeds, has_exceeded, excess_at, excesses_of_kind, excesses_by_line, excesses_by_lines}
use Rattle.conformance.specs.RoundComparison.{with_ended}
use Rattle.conformance.specs.ComparisonLaws.{RoundsAreWithinPlan}
use Rattle.conformance.proofs.LineByLine.{by_last, nothing_first, nothing_last}
use Rattle.conformance.proofs.RoundsAfter.{excesses_add_up, exceeded_more, exceeded_none, exceeded_same, rounds_ended, rounds_same, none_within}

-- ---- no excess
neither_branch : (b : Bool) (excess : Excess) (rest : Option Excess) → (if b then Some excess else rest) ≡ None → (b ≡ false) × (rest ≡ None)
neither_branch true excess rest h = cc
neither_branch false excess rest h = (refl, h)

not_above : (a b : ℕ) → nat_lt a b ≡ false → b ≤ a
not_above a b h = grind (arith, h)

in_all_within : (repeat : Bool) (a b : ℕ) → (not repeat && nat_lt a b) ≡ false → repeat ≡ false → b ≤ a
in_all_within true a b _ once = cc
in_all_within false a b h _ = not_above a b h

within_if_none : (rounds : Rounds) → excess_of rounds ≡ None → IsWithinPlan rounds
within_if_none rounds h =
    let first = neither_branch (nat_lt rounds.count (open_rounds rounds)) _ _ h in
    let second = neither_branch (not rounds.repeat && nat_lt rounds.count rounds.begun) _ _ first.1 in
    record { concurrent = not_above rounds.count (open_rounds rounds) first.0; in_all = in_all_within rounds.repeat rounds.count rounds.begun second.0 }

still_within : (rounds : Rounds) → IsWithinPlan rounds → IsWithinPlan (with_ended rounds)
still_within rounds h = let before = h.concurrent in record { concurrent = omega arith; in_all = h.in_all }

-- ---- line by line
record IsNever (plan : Plan) (kinds : List (Option ℕ)) (kind : ℕ) (lines : List RecordedLine) : Type 0 where
  fresh : has_exceeded plan kinds lines kind ≡ false
  within : IsWithinPlan (rounds_of plan kinds lines kind)

is_the_kind : (kind : ℕ) (there : Option ℕ) → is_kind kind there ≡ true → there ≡ Some kind
is_the_kind kind None h = cc
is_the_kind kind (Some one) h = ap Some (eqb-true one kind h)

nothing_of_kind : (known reported : Bool) (excess : Option Excess) (number kind : ℕ) → known ≡ true → reported ≡ false → (if known then option_to_list (option_map (excess_at number kind) (if reported then None else excess)) else []) ≡ [] → excess ≡ None
nothing_of_kind true false None number kind k t h = refl
nothing_of_kind true false (Some excess) number kind k t h = cc
nothing_of_kind true true excess number kind k t h = cc
nothing_of_kind false reported excess number kind k t h = cc

neither : (a b : Bool) → a ≡ false → b ≡ false → (a || b) ≡ false
neither a b g h = grind (arith, g, h)

and_false : (a : Bool) → (a && false) ≡ false
and_false a = grind arith

begin_never : (plan : Plan) (kinds : List (Option ℕ)) (kind : ℕ) (before : List RecordedLine) (number round : ℕ) (name : List ℕ) (here : Bool) → kind < length plan.clients → is_kind kind (kind_of kinds round) ≡ here → IsNever plan kinds kind before
    → excesses_by_line plan kinds before number (RoundBegins round name) ≡ [] → IsNever plan kinds kind (before ++ RoundBegins round name ∷ [])
begin_never plan kinds kind before number round name true known is never nothing =
    let line = RoundBegins round name in
    let reported : excesses_of_kind plan kinds before number line (Some kind) ≡ [] = ap (excesses_of_kind plan kinds before number line) (sym (is_the_kind kind (kind_of kinds round) is)) ∙ nothing in
    let none : excess_of (rounds_of plan kinds (before ++ line ∷ []) kind) ≡ None = nothing_of_kind (nat_lt kind (length plan.clients)) (has_exceeded plan kinds before kind) _ number kind (lt-ltb _ _ known) never.fresh reported in
    record {
      fresh =
          exceeded_more plan kinds before line kind
          ∙ neither (has_exceeded plan kinds before kind) (exceeds plan kinds kind before line) never.fresh (ap (λ excess. is_kind kind (kind_of kinds round) && is_some excess) none ∙ and_false _);
      within = within_if_none _ none;
    }
begin_never plan kinds kind before number round name false known is never nothing =
    let line = RoundBegins round name in
    record { fresh = exceeded_same plan kinds before line kind is ∙ never.fresh; within = subst IsWithinPlan (sym (rounds_same plan kinds before line kind is refl)) never.within }

end_never : (plan : Plan) (kinds : List (Option ℕ)) (kind : ℕ) (before : List RecordedLine) (round : ℕ) (here : Bool) → is_kind kind (kind_of kinds round) ≡ here → IsNever plan kinds kind before
    → IsNever plan kinds kind (before ++ RoundEnds round ∷ [])
end_never plan kinds kind before round true is never =
    let line = RoundEnds round in
    record { fresh = exceeded_same plan kinds before line kind refl ∙ never.fresh; within = subst IsWithinPlan (sym (rounds_ended plan kinds before line kind refl is)) (still_within _ never.within) }
end_never plan kinds kind before round false is never =
    let line = RoundEnds round in
    record { fresh = exceeded_same plan kinds before line kind refl ∙ never.fresh; within = subst IsWithinPlan (sym (rounds_same plan kinds before line kind refl is)) never.within }

line_never : (plan : Plan) (kinds : List (Option ℕ)) (kind : ℕ) (before : List RecordedLine) (number : ℕ) (line : RecordedLine) → kind < length plan.clients → IsNever plan kinds kind before
    → excesses_by_line plan kinds before number line ≡ [] → IsNever plan kinds kind (before ++ line ∷ [])
line_never plan kinds kind before number (RoundBegins round name) known never nothing = begin_never plan kinds kind before number round name _ known refl never nothing
line_never plan kinds kind before number (RoundEnds round) known never nothing = end_never plan kinds kind before round _ refl never
line_never plan kinds kind before number line known never nothing =
    record { fresh = exceeded_same plan kinds before line kind refl ∙ never.fresh; within = subst IsWithinPlan (sym (rounds_same plan kinds before line kind refl refl)) never.within }

none_never : (plan : Plan) (kinds : List (Option ℕ)) (kind : ℕ) → IsNever plan kinds kind []
none_never plan kinds kind = record { fresh = exceeded_none plan kinds kind; within = none_within plan kinds kind }

never : (plan : Plan) (kinds : List (Option ℕ)) (kind : ℕ) → kind < length plan.clients → (lines : List RecordedLine) → excesses_by_lines plan kinds lines ≡ [] → IsNever plan kinds kind lines
never plan kinds kind known =
    by_last (λ lines. excesses_by_lines plan kinds lines ≡ [] → IsNever plan kinds kind lines) (λ h. none_never plan kinds kind)
    (λ before line h nothing.
    let both = sym (excesses_add_up plan kinds before line) ∙ nothing in
    line_never plan kinds kind before (length before + 1) line known (h (nothing_first (excesses_by_lines plan kinds before) _ both)) (nothing_last (excesses_by_lines plan kinds before) _ both))

nothing_before : (plan : Plan) (kinds : List (Option ℕ)) (before after : List RecordedLine) → excesses_by_lines plan kinds (before ++ after) ≡ [] → excesses_by_lines plan kinds before ≡ []
nothing_before plan kinds before [] h = subst (λ lines. excesses_by_lines plan kinds lines ≡ []) (append-nil before) h
nothing_before plan kinds before (line ∷ after) h =
    let more = nothing_before plan kinds (before ++ line ∷ []) after (subst (λ lines. excesses_by_lines plan kinds lines ≡ []) (sym (append_assoc before (line ∷ []) after)) h) in
    nothing_first (excesses_by_lines plan kinds before) _ (sym (excesses_add_up plan kinds before line) ∙ more)

pub rounds_are_within_plan : RoundsAreWithinPlan
rounds_are_within_plan plan kinds before after nothing kind known = (never plan kinds kind known before (nothing_before plan kinds before after nothing)).within
