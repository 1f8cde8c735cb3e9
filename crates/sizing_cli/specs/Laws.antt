-- The split of an input, described by its lines.
use Rattle.std.specs.Prelude.{◌≡◌, ◌⊎◌, ◌↔◌, ℕ, Bool, false, ◌==◌, List, [], ◌∷◌, ◌++◌, codes, Some, None}
use Rattle.std.specs.List.{list_any, slice_split}
use Rattle.std.specs.Str.{bytes_eq}
use Rattle.sizing_cli.specs.Bundle.{Bundle, bundle_of, join_texts, whole_lines}

-- a line of the text is `%%`
abbrev pub has_separator : List ℕ → Bool
has_separator text = list_any (λ line. bytes_eq line (codes "%%")) (slice_split (λ b. b == 10) text)

-- the text is empty or ends with a newline
abbrev pub IsWholeLines : List ℕ → Type 0
IsWholeLines text = (text ≡ []) ⊎ ((front : List ℕ) × (text ≡ front ++ 10 ∷ []))

-- The input consists of the plan's text, a line `%%` and the second part. If the second part is empty, the line `%%` needs no
-- newline.
abbrev pub IsJoined : List ℕ → Bundle → Type 0
IsJoined input bundle = (input ≡ bundle.plan ++ (codes "%%" ++ 10 ∷ bundle.second)) ⊎ ((input ≡ bundle.plan ++ codes "%%") × (bundle.second ≡ []))

-- the bundle is the split of the input at its last line `%%`
pub record IsSplit (input : List ℕ) (bundle : Bundle) : Type 0 where
  pub plan : IsWholeLines bundle.plan
  pub whole : IsJoined input bundle
  pub last : has_separator bundle.second ≡ false

-- `bundle_of` splits an input into a bundle exactly if `IsSplit` says that this is the split at the last line `%%`
abbrev pub InputsSplitAtTheLastSeparator : Type 0
InputsSplitAtTheLastSeparator = (input : List ℕ) (bundle : Bundle) → bundle_of input ≡ Some bundle ↔ IsSplit input bundle

-- `bundle_of` finds no bundle exactly if no line of the input is `%%`
abbrev pub NoBundleWithoutASeparator : Type 0
NoBundleWithoutASeparator = (input : List ℕ) → bundle_of input ≡ None ↔ has_separator input ≡ false

-- if the second text has no line `%%`, the bundle splits into the two texts again
abbrev pub JoinedTextsSplitAgain : Type 0
JoinedTextsSplitAgain = (plan second : List ℕ) → has_separator second ≡ false
    → bundle_of (join_texts plan second) ≡ Some (record { plan = whole_lines plan; second = second })
