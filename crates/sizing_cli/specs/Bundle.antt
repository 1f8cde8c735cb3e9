-- A bundle: a plan's text, a line that is exactly `%%`, and a second part. An input is split at its last such line. `conform`
-- splits its input at the first one.
use Rattle.std.specs.Prelude.{ℕ, Bool, true, false, ◌==◌, ◌||◌, nat_eq, if◌then◌else◌, List, [], ◌∷◌, ◌++◌, length, drop, codes, Option, Some, None}
use Rattle.std.specs.List.{ends_with, starts_with}
use Rattle.std.specs.Str.{bytes_eq}

pub record Bundle : Type 0 where
  pub plan : List ℕ
  pub second : List ℕ

-- The rest of a text after its first line, if this line is `%%`. If this line is also the last line of the text, it needs no
-- newline.
abbrev pub after_separator : List ℕ → Option (List ℕ)
after_separator text =
    if starts_with nat_eq text (37 ∷ 37 ∷ 10 ∷ []) then Some (drop 3 text) else (if bytes_eq text (37 ∷ 37 ∷ []) then Some [] else None)

abbrev pub bundle_here : Option (List ℕ) → Option Bundle
bundle_here None = None
bundle_here (Some second) = Some (record { plan = []; second = second })

-- The split of a text at its first line, if this line is `%%`. The plan of this split is empty. If the flag is false, the text
-- does not begin at the beginning of a line, and there is no split.
abbrev pub split_here : Bool → List ℕ → Option Bundle
split_here false text = None
split_here true text = bundle_here (after_separator text)

-- The split of a text with first byte b. It is the split `later` of the rest of the text, with b before its plan. If there is
-- none, it is the split `here` at the text's first line.
abbrev pub later_or : ℕ → Option Bundle → Option Bundle → Option Bundle
later_or b (Some later) here = Some (record { plan = b ∷ later.plan; second = later.second })
later_or b None here = here

-- the split of a text at its last line `%%`; the flag says whether the text begins at the beginning of a line
abbrev pub split_from : Bool → List ℕ → Option Bundle
split_from at_line [] = None
split_from at_line (b ∷ bs) = later_or b (split_from (b == 10) bs) (split_here at_line (b ∷ bs))

-- the split of an input at its last line `%%`; None if no line is `%%`
abbrev pub bundle_of : List ℕ → Option Bundle
bundle_of input = split_from true input

-- ---- the first line `%%`
-- the split of a text with first byte b, if the given split is that of the rest of the text
abbrev pub with_byte : ℕ → Option Bundle → Option Bundle
with_byte b None = None
with_byte b (Some bundle) = Some (record { plan = b ∷ bundle.plan; second = bundle.second })

-- The split of a text with first byte b. It is the split `here` at the text's first line. If there is none, it is the split
-- `later` of the rest of the text, with b before its plan.
abbrev pub here_or : ℕ → Option Bundle → Option Bundle → Option Bundle
here_or b (Some here) later = Some here
here_or b None later = with_byte b later

-- the split of a text at its first line `%%`; the flag says whether the text begins at the beginning of a line
abbrev pub first_from : Bool → List ℕ → Option Bundle
first_from at_line [] = None
first_from at_line (b ∷ bs) = here_or b (split_here at_line (b ∷ bs)) (first_from (b == 10) bs)

-- the split of an input at its first line `%%`; None if no line is `%%`
abbrev pub first_bundle_of : List ℕ → Option Bundle
first_bundle_of input = first_from true input

-- ---- the bundle of two texts
-- the text with a newline appended, unless it is empty or already ends with one
abbrev pub whole_lines : List ℕ → List ℕ
whole_lines text = if length text == 0 || ends_with nat_eq text (10 ∷ []) then text else text ++ 10 ∷ []

-- the bundle of a plan's text and a second text
abbrev pub join_texts : List ℕ → List ℕ → List ℕ
join_texts plan second = whole_lines plan ++ (codes "%%" ++ 10 ∷ second)
