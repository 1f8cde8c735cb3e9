-- The counts of rounds after more lines, and after a round turns out to belong to another kind.
use Rattle.std.proofs.Common.{◌≡◌, ℕ, false, List, [], ◌∷◌, ◌++◌, Option, Some, None, ap, sym, subst, ◌∙◌}
use Rattle.support.specs.Numbered.{value_at}
use Rattle.job_bodies.specs.Plan.{Plan}
use Rattle.recordings.specs.RecordingLine.{RecordedLine}
use Rattle.recordings.specs.PathsOfLines.{KeepsRules}
use Rattle.conformance.specs.Label.{kind_of}
use Rattle.conformance.proofs.ActorLabels.{kind_more, kind_stays}
use Rattle.conformance.specs.declared.excess_tracker.ExcessTracker.{ExcessTracker}
use Rattle.conformance.specs.declared.other_kinds.OtherKinds.{OtherKinds}
use Rattle.conformance.specs.ExcessTracker.{IsExcessTrackerOf, CountsFirstKinds}
use Rattle.conformance.specs.OtherKinds.{first_of, kind_or, AreKindsBy, AreOfFirst}

-- ---- a prefix of the lines
pub given_before : (plan : Plan) (others : OtherKinds) (before after lines : List RecordedLine) (kinds : List (Option ℕ)) → lines ≡ before ++ after → KeepsRules lines → AreKindsBy plan others lines kinds → AreKindsBy plan others before kinds
given_before plan others before after lines kinds is keeps given = record {
  each = λ round label named.
      given.each round label (subst (λ (ls : List RecordedLine). kind_of ls round ≡ Some label) (sym is) (kind_stays before after round label (subst KeepsRules is keeps) named));
}

first_before : (plan : Plan) (before : List RecordedLine) (line : RecordedLine) (kinds : List (Option ℕ)) → AreOfFirst plan (before ++ line ∷ []) kinds → AreOfFirst plan before kinds
first_before plan before line kinds are = record { each = λ round label named. are.each round label (kind_more before line round label named) }

-- ---- no round belongs to another kind
first_given : (plan : Plan) (others : OtherKinds) (lines : List RecordedLine) (kinds : List (Option ℕ)) → ((round : ℕ) → value_at others.kinds round ≡ None) → AreOfFirst plan lines kinds → AreKindsBy plan others lines kinds
first_given plan others lines kinds none are = record {
  each = λ round label named. are.each round label named ∙ sym (ap (λ (there : Option (Option ℕ)). kind_or there (first_of plan label)) (none round));
}

pub given_first : (plan : Plan) (others : OtherKinds) (lines : List RecordedLine) (kinds : List (Option ℕ)) → ((round : ℕ) → value_at others.kinds round ≡ None) → AreKindsBy plan others lines kinds → AreOfFirst plan lines kinds
given_first plan others lines kinds none given = record {
  each = λ round label named. given.each round label named ∙ ap (λ (there : Option (Option ℕ)). kind_or there (first_of plan label)) (none round);
}

-- ---- one more line
pub next_counted : (plan : Plan) (before : List RecordedLine) (line : RecordedLine) (earlier others : OtherKinds) (old new : ExcessTracker) → (others.has_any ≡ false → earlier.has_any ≡ false)
    → (others.has_any ≡ false → (round : ℕ) → value_at others.kinds round ≡ None) → CountsFirstKinds plan earlier before old
    → ((kinds : List (Option ℕ)) → AreKindsBy plan others (before ++ line ∷ []) kinds → IsExcessTrackerOf plan kinds before old → IsExcessTrackerOf plan kinds (before ++ line ∷ []) new) → CountsFirstKinds plan others (before ++ line ∷ []) new
next_counted plan before line earlier others old new had none excess_tracker taken = record {
  so = λ still kinds are. taken kinds (first_given plan others (before ++ line ∷ []) kinds (none still) are) (excess_tracker.so (had still) kinds (first_before plan before line kinds are));
}
