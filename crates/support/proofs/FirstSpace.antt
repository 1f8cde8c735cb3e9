-- Lemmas about the parts of a text before and after its first space, and about its words.
use Rattle.std.proofs.Common.{◌≡◌, inl, inr, ℕ, ◌+◌, ◌-◌, ◌<◌, true, not, nat_lt, List, [], ◌∷◌, ◌++◌, length, take, drop, get_or, position, Option, Some, None, option_map, refl, sym, ap, ap₂, ◌∙◌, arith, append_assoc, length-append, length-drop, take_at, drop_at}
use Rattle.std.specs.List.{position_or_len, before_first, after_first}
use Rattle.std.proofs.lemmas.Bool.{and_parts, cases_lt, cond-true, lt-ltb, ltb-true, eqb-true}
use Rattle.std.proofs.lemmas.List.{length_push, take_rest}
use Rattle.std.proofs.lemmas.List.Splits.{slice_split_none, slice_split_first}
use Rattle.std.proofs.lemmas.List.Sums.{fails_before_first, passes_at_first, split_at_first}
use Rattle.std.proofs.lemmas.Option.{cond_some, none-some}
use Rattle.support.specs.Pieces.{split_space, words_of, is_space}
use Rattle.support.proofs.Partial.{map_some, map_none}
use Rattle.support.proofs.Splits.{has_no}

-- `split_space` of a text without a space is None
pub split_nowhere : (text : List ℕ) → position is_space text ≡ None → split_space text ≡ None
unfolding split_space
split_nowhere text e = rw e refl

-- `split_space` returns the slices before and after the first space
pub split_at : (text : List ℕ) (place : ℕ) → position is_space text ≡ Some place → Some (take place text, take (length text - (place + 1)) (drop (place + 1) text)) ≡ split_space text
unfolding split_space
split_at text place e =
    let whole : take (length text - (place + 1)) (drop (place + 1) text) ≡ drop (place + 1) text = take_rest text (place + 1) in
    rw (e, whole) refl

-- ---- a text that has a space
place_of_space : (prefix rest : List ℕ) → has_no 32 prefix ≡ true → position_or_len is_space (prefix ++ 32 ∷ rest) ≡ length prefix
place_of_space [] rest none = refl
place_of_space (b ∷ prefix) rest none =
    let parts = and_parts (not (is_space b)) _ none in
    rw (parts.0, place_of_space prefix rest parts.1) (omega arith)

pub splits : (prefix rest : List ℕ) → has_no 32 prefix ≡ true → split_space (prefix ++ 32 ∷ rest) ≡ Some (prefix, rest)
unfolding split_space
splits prefix rest none =
    let at = place_of_space prefix rest none in
    let text : List ℕ = prefix ++ 32 ∷ rest in
    let within : nat_lt (position_or_len is_space text) (length text) ≡ true = lt-ltb _ _ (omega (arith, at, length-append prefix (32 ∷ rest))) in
    let before : before_first is_space text ≡ prefix = ap (λ n. take n text) at ∙ take_at prefix (32 ∷ rest) (length prefix) refl in
    let after : after_first is_space text ≡ rest = ap (λ n. drop (n + 1) text) at ∙ ap (drop (length prefix + 1)) (sym (append_assoc prefix (32 ∷ []) rest)) ∙ drop_at (prefix ++ 32 ∷ []) rest (length prefix + 1) (length_push prefix 32) in
    ap (λ (o : Option ℕ). option_map (λ place. (take place text, drop (place + 1) text)) o) (cond-true _ _ _ within) ∙ ap₂ (λ (x y : List ℕ). Some (x, y)) before after

pub split_parts : (text : List ℕ) (words : List ℕ × List ℕ) → split_space text ≡ Some words → text ≡ words.0 ++ 32 ∷ words.1
unfolding split_space
split_parts text words read =
    let found = map_some (λ place. (take place text, drop (place + 1) text)) (position is_space text) words read in
    let place = cond_some (nat_lt (position_or_len is_space text) (length text)) _ _ found.1 in
    let within : position_or_len is_space text < length text = ltb-true _ _ place.0 in
    let space : get_or text (position_or_len is_space text) 0 ≡ 32 = eqb-true _ 32 (passes_at_first is_space text 0 within) in
    let cut : text ≡ before_first is_space text ++ 32 ∷ after_first is_space text = split_at_first is_space text 0 within ∙ ap (λ b. before_first is_space text ++ b ∷ after_first is_space text) space in
    cut ∙ ap (λ p. take p text ++ 32 ∷ drop (p + 1) text) place.1 ∙ ap (λ (w : List ℕ × List ℕ). w.0 ++ 32 ∷ w.1) found.2

-- ---- the words of a text
abbrev pub place : List ℕ → ℕ
place text = position_or_len is_space text

-- if a text is split at its first space, the space is in the text, and the parts are those before and after it
pub space_there : (text word rest : List ℕ) → Some (word, rest) ≡ split_space text → (place text < length text) × (take (place text) text ≡ word) × (drop (place text + 1) text ≡ rest)
unfolding split_space
space_there text word rest read =
    let found = map_some (λ p. (take p text, drop (p + 1) text)) (position is_space text) (word, rest) (sym read) in
    let at = cond_some (nat_lt (place text) (length text)) _ _ found.1 in (
      ltb-true _ _ at.0,
      ap (λ p. take p text) at.1 ∙ ap (λ (x : List ℕ × List ℕ). x.0) found.2,
      ap (λ p. drop (p + 1) text) at.1 ∙ ap (λ (x : List ℕ × List ℕ). x.1) found.2,
    )

pub words_more : (text word rest : List ℕ) → Some (word, rest) ≡ split_space text → words_of text ≡ word ∷ words_of rest
unfolding words_of
words_more text word rest read =
    let cut = space_there text word rest read in
    slice_split_first is_space text 0 cut.0 ∙ rw (cut.1, cut.2) refl

pub words_end : (text : List ℕ) → None ≡ split_space text → words_of text ≡ text ∷ []
unfolding words_of split_space
words_end text read =
    let nowhere : position is_space text ≡ None = map_none (λ p. (take p text, drop (p + 1) text)) (position is_space text) read in
    elim (cases_lt (place text) (length text)) [
      | inl within ↦ absurd (none-some (place text) (sym nowhere ∙ cond-true _ _ _ (lt-ltb _ _ within)))
      | inr past ↦ slice_split_none is_space text (λ k d inside. fails_before_first is_space text k d (omega arith))
    ]

pub rest_shorter : (text word rest : List ℕ) → Some (word, rest) ≡ split_space text → length rest < length text
rest_shorter text word rest read =
    let cut = space_there text word rest read in
    omega (arith, length-drop (place text + 1) text, ap (λ (t : List ℕ). length t) cut.2, cut.0)
