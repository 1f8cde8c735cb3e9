-- The offsets at which the parts of a plan begin in its text.
use Rattle.std.specs.Prelude.{◌≡◌, ℕ, ◌-◌, ◌==◌, nat_le, nat_eq, Bool, true, false, ◌&&◌, if◌then◌else◌, List, [], ◌∷◌, length, take, drop, slice_index, slice_range, Option, None, Some, option_and_then, is_some, IsSomeAnd}
use Rattle.std.specs.List.{list_any}
use Rattle.std.specs.Str.{bytes_eq}
use Rattle.plan_text.specs.declared.place.TextPlace.{TextPlace}
use Rattle.plan_text.specs.declared.outline.Range.{Range}
use Rattle.plan_text.specs.declared.outline.Part.{Part}
use Rattle.plan_text.specs.declared.outline.Part.TheVariants as part
use Rattle.plan_text.specs.TextPlace.{IsPositionAfter}
use Rattle.plan_text.specs.Outline.{outline_of}

abbrev pub is_quoted : List ℕ → Bool
is_quoted name =
    nat_le 2 (length name) && list_any (nat_eq (slice_index name 0)) (34 ∷ 39 ∷ []) && (slice_index name (length name - 1) == slice_index name 0)

-- a name of a text, without its quotes if it has quotes
unfoldable pub unquoted : List ℕ → List ℕ
unquoted name = if is_quoted name then slice_range name 1 (length name - 1) else name

-- whether this range of the text is the name, with or without quotes
unfoldable pub is_named : List ℕ → Range → List ℕ → Bool
is_named text range name =
    (nat_le range.start range.end && nat_le range.end (length text)) && bytes_eq (unquoted (slice_range text range.start range.end)) name

-- whether the part is a header in double brackets with this name
abbrev pub is_entry : List ℕ → List ℕ → Part → Bool
is_entry text list (part.Header header) = header.in_list && is_named text header.name list
is_entry text list _ = false

-- the parts from the `index`-th header in double brackets with this name on; None if there is no such header. Headers are
-- counted from 0.
abbrev pub entry_in : List ℕ → List ℕ → ℕ → List Part → Option (List Part)
entry_in text list index [] = None
entry_in text list index (first ∷ parts) =
    if is_entry text list first
    then (if index == 0 then Some (first ∷ parts) else entry_in text list (index - 1) parts)
    else entry_in text list index parts

-- the parts from the first key with this name on; None if there is no such key before the next header
abbrev pub key_in : List ℕ → List ℕ → List Part → Option (List Part)
key_in text name [] = None
key_in text name (part.Header header ∷ parts) = None
key_in text name (part.Key key ∷ parts) = if is_named text key name then Some (part.Key key ∷ parts) else key_in text name parts
key_in text name (_ ∷ parts) = key_in text name parts

-- the parts from the value of the first part on, which is a key. If the key has no value, the parts from the key on.
abbrev pub value_in : List Part → List Part
value_in (key ∷ part.Value value ∷ parts) = part.Value value ∷ parts
value_in parts = parts

-- the parts from an element on, before the next key or header; None if there is no such element. Elements are counted from 0.
abbrev pub element_in : ℕ → List Part → Option (List Part)
element_in index [] = None
element_in index (part.Element start ∷ parts) =
    if index == 0 then Some (part.Element start ∷ parts) else element_in (index - 1) parts
element_in index (part.Value start ∷ parts) = element_in index parts
element_in index (_ ∷ parts) = None

-- the parts from the first header with this name on
abbrev pub header_in : List ℕ → List ℕ → List Part → Option (List Part)
header_in text name [] = None
header_in text name (part.Header header ∷ parts) =
    if is_named text header.name name then Some (part.Header header ∷ parts) else header_in text name parts
header_in text name (_ ∷ parts) = header_in text name parts

-- the parts from the first header with this name on; without such a header, from the first key before all headers on
abbrev pub top_in : List ℕ → List ℕ → List Part → Option (List Part)
top_in text name parts = if is_some (header_in text name parts) then header_in text name parts else key_in text name parts

-- the parts from a key of an entry on
abbrev pub entry_key_in : List ℕ → List ℕ → ℕ → List ℕ → List Part → Option (List Part)
entry_key_in text list index key parts = option_and_then (λ entry. key_in text key (drop 1 entry)) (entry_in text list index parts)

abbrev pub start_of_part : Part → ℕ
start_of_part (part.Header header) = header.start
start_of_part (part.Key key) = key.start
start_of_part (part.Value start) = start
start_of_part (part.Element start) = start

-- the offset at which the first of the parts begins
abbrev pub start_of : List Part → Option ℕ
start_of [] = None
start_of (first ∷ parts) = Some (start_of_part first)

-- the offset of the header of the entry at `index` in the list named `list`
unfoldable pub entry_start : List ℕ → List ℕ → ℕ → Option ℕ
entry_start text list index = option_and_then start_of (entry_in text list index (outline_of text))

-- the offset of a key in an entry
unfoldable pub key_start : List ℕ → List ℕ → ℕ → List ℕ → Option ℕ
key_start text list index key = option_and_then start_of (entry_key_in text list index key (outline_of text))

-- the offset of the value of a key in an entry, or of the key if it has no value
unfoldable pub value_start : List ℕ → List ℕ → ℕ → List ℕ → Option ℕ
value_start text list index key = option_and_then (λ parts. start_of (value_in parts)) (entry_key_in text list index key (outline_of text))

-- the offset of an element of the value of a key in an entry
unfoldable pub element_start : List ℕ → List ℕ → ℕ → List ℕ → ℕ → Option ℕ
element_start text list index key element =
    option_and_then (λ parts. option_and_then start_of (element_in element (drop 1 parts))) (entry_key_in text list index key (outline_of text))

-- the offset of the first header with this name; without such a header, of the first key before all headers
unfoldable pub top_start : List ℕ → List ℕ → Option ℕ
top_start text name = option_and_then start_of (top_in text name (outline_of text))

-- `place` is the position of the byte at this offset of the text; None if there is no offset
abbrev pub IsPlaceOf : List ℕ → Option ℕ → Option TextPlace → Type 0
IsPlaceOf text None place = place ≡ None
IsPlaceOf text (Some offset) place = IsSomeAnd place (IsPositionAfter (take offset text))

-- the text has this name, with or without quotes, at the position
abbrev pub IsNameAt : List ℕ → List ℕ → TextPlace → Type 0
IsNameAt text name place = (range : Range) × (is_named text range name ≡ true) × IsPositionAfter (take range.start text) place
