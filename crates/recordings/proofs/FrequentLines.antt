-- The lines that the parser for frequent lines reads from left to right up to their newline.
use Rattle.std.proofs.Common.{◌≡◌, inl, inr, ℕ, suc, ◌+◌, ◌-◌, ◌*◌, ◌^◌, ◌<◌, ◌≤◌, true, false, ◌==◌, List, [], ◌∷◌, ◌++◌, length, take, drop, get_or, map, codes, decimal, Option, Some, refl, sym, ap, ap₂, ◌∙◌, arith, append_assoc, take-append-drop}
use Rattle.std.specs.Char.{is_ascii_digit}
use Rattle.std.specs.List.{list_all}
use Rattle.std.specs.Str.Parse.{digits_value}
use Rattle.std.proofs.Math.Nat.{pow-le-pow_right, pow-succ'}
use Rattle.std.proofs.lemmas.Bool.{and_from, cases_lt}
use Rattle.std.proofs.lemmas.Bool.Decides.{nat_tests}
use Rattle.std.proofs.lemmas.List.{get_or-take, length-take-le, take_rest}
use Rattle.std.proofs.lemmas.Slice.Eq.{HasBytesAt}
use Rattle.job_bodies.specs.WellFormed.{is_name_byte, is_valid_name}
use Rattle.job_bodies.specs.declared.limits.TheConstants.{MAX_NAME_BYTES}
use Rattle.support.specs.declared.line_number.TheConstants.{MAX_LINE_NUMBER}
use Rattle.support.specs.LineNumber.{is_valid_number, is_whole_number, number_of}
use Rattle.support.proofs.Splits.{has_no, has_no-append}
use Rattle.support.proofs.WrittenNumbers.{number_read, decimal_has_no}
use Rattle.recordings.specs.declared.recording_line.RecordedActor.{RecordedActor}
use Rattle.recordings.specs.declared.recording_line.RecordedActor.TheVariants.{Job, Round}
use Rattle.recordings.specs.RecordingLine.{RecordedLine, RoundBegins, RoundEnds, Submits, JobStarts, JobEnds, Got, line_of, lines_read}
use Rattle.recordings.specs.LineText.{after_actor, line_text, is_valid_actor, is_valid_line}
use Rattle.recordings.proofs.Names.{name_has_no}
use Rattle.recordings.proofs.LineByLine.{whole_first}
use Rattle.recordings.proofs.WrittenActions.{after_is}
use Rattle.recordings.proofs.WrittenLines.{canonical}

-- ---- the bytes at the start of a text
one_further : (b : ℕ) (text bytes : List ℕ) (i : ℕ) → HasBytesAt (b ∷ text) (suc i) bytes → HasBytesAt text i bytes
one_further b text [] i there = tt
one_further b text (c ∷ bytes) i there = (there.0, one_further b text bytes (suc i) there.1)

at_front : (bytes text : List ℕ) → length bytes ≤ length text → HasBytesAt text 0 bytes → text ≡ bytes ++ drop (length bytes) text
at_front [] text long there = refl
at_front (c ∷ bytes) [] long there = absurd (omega arith)
at_front (c ∷ bytes) (b ∷ text) long there = ap₂ (λ (x : ℕ) (xs : List ℕ). x ∷ xs) there.0 (at_front bytes text (omega arith) (one_further b text bytes 0 there.1))

pub begins_with : (text bytes : List ℕ) → length bytes ≤ length text → HasBytesAt text 0 bytes → text ≡ bytes ++ take (length text - length bytes) (drop (length bytes) text)
begins_with text bytes long there = at_front bytes text long there ∙ ap (λ (rest : List ℕ). bytes ++ rest) (sym (take_rest text (length bytes)))

-- ---- the first line of a text
ends_at : (actor : RecordedActor) (words after : List ℕ) → after_actor actor (words ++ after) ≡ after_actor actor words ++ after
ends_at (Job n) words after = ap (λ (t : List ℕ). codes "job" ++ 32 ∷ t) (sym (append_assoc (decimal n) (32 ∷ words) after))
ends_at (Round n) words after = ap (λ (t : List ℕ). codes "round" ++ 32 ∷ t) (sym (append_assoc (decimal n) (32 ∷ words) after))

on_one_line : (actor : RecordedActor) (words : List ℕ) → is_valid_actor actor ≡ true → has_no 10 words ≡ true → has_no 10 (after_actor actor words) ≡ true
on_one_line (Job n) words valid none = has_no-append 10 (decimal n) (32 ∷ words) (decimal_has_no 10 n (omega arith) valid) none
on_one_line (Round n) words valid none = has_no-append 10 (decimal n) (32 ∷ words) (decimal_has_no 10 n (omega arith) valid) none

-- the line of an actor, from the words after its number
first_read : (actor : RecordedActor) (words said after : List ℕ) (line : RecordedLine) → is_valid_actor actor ≡ true → is_valid_line line ≡ true → line_text line ≡ after_actor actor said → has_no 10 said ≡ true
    → words ≡ said ++ 10 ∷ after → lines_read (after_actor actor words) ≡ Some line ∷ lines_read after
first_read actor words said after line whose valid written none is =
    let whole : after_actor actor words ≡ line_text line ++ 10 ∷ after =
    ap (after_actor actor) is ∙ ends_at actor said (10 ∷ after) ∙ ap (λ (t : List ℕ). t ++ 10 ∷ after) (sym written)
    in
    let first = whole_first (line_text line) after (ap (has_no 10) written ∙ on_one_line actor said whose none) in
    ap lines_read whole ∙ ap (map line_of) first ∙ ap (λ (l : Option RecordedLine). l ∷ lines_read after) ((canonical (line_text line) line).1 (valid, refl))

pub job_starts : (job : ℕ) (words after : List ℕ) → is_valid_number job ≡ true → words ≡ codes "start" ++ 10 ∷ after → lines_read (after_actor (Job job) words) ≡ Some (JobStarts job) ∷ lines_read after
job_starts job words after valid is = first_read (Job job) words (codes "start") after (JobStarts job) valid valid refl refl is

pub job_ends : (job : ℕ) (words after : List ℕ) → is_valid_number job ≡ true → words ≡ codes "end" ++ 10 ∷ after → lines_read (after_actor (Job job) words) ≡ Some (JobEnds job) ∷ lines_read after
job_ends job words after valid is = first_read (Job job) words (codes "end") after (JobEnds job) valid valid refl refl is

pub round_ends : (round : ℕ) (words after : List ℕ) → is_valid_number round ≡ true → words ≡ codes "end" ++ 10 ∷ after → lines_read (after_actor (Round round) words) ≡ Some (RoundEnds round) ∷ lines_read after
round_ends round words after valid is = first_read (Round round) words (codes "end") after (RoundEnds round) valid valid refl refl is

pub round_begins : (round : ℕ) (words rest kind after : List ℕ) → is_valid_number round ≡ true → words ≡ codes "begin" ++ 32 ∷ rest → is_valid_name kind ≡ true → rest ≡ kind ++ 10 ∷ after
    → lines_read (after_actor (Round round) words) ≡ Some (RoundBegins round kind) ∷ lines_read after
round_begins round words rest kind after valid is name split =
    first_read (Round round) words (codes "begin" ++ 32 ∷ kind) after (RoundBegins round kind) valid (and_from _ _ valid name) refl (name_has_no 10 kind (omega arith) name)
    (is ∙ ap (λ (t : List ℕ). codes "begin" ++ 32 ∷ t) split)

pub got : (actor : RecordedActor) (words rest : List ℕ) (job : ℕ) (after : List ℕ) → is_valid_actor actor ≡ true → words ≡ codes "got" ++ 32 ∷ rest → is_valid_number job ≡ true → rest ≡ decimal job ++ 10 ∷ after
    → lines_read (after_actor actor words) ≡ Some (Got actor job) ∷ lines_read after
got actor words rest job after whose is valid split =
    first_read actor words (codes "got" ++ 32 ∷ decimal job) after (Got actor job) whose (and_from _ _ whose valid) (sym (after_is actor (codes "got") (decimal job ∷ []))) (decimal_has_no 10 job (omega arith) valid)
    (is ∙ ap (λ (t : List ℕ). codes "got" ++ 32 ∷ t) split)

pub submits : (actor : RecordedActor) (words : List ℕ) (job : ℕ) (second class third pool after : List ℕ) → is_valid_actor actor ≡ true → (is_valid_number job ≡ true) × (words ≡ decimal job ++ 32 ∷ second)
    → (is_valid_name class ≡ true) × (second ≡ class ++ 32 ∷ third) → (is_valid_name pool ≡ true) × (third ≡ pool ++ 10 ∷ after)
    → lines_read (after_actor actor (codes "submit" ++ 32 ∷ words)) ≡ Some (Submits actor job class pool) ∷ lines_read after
submits actor words job second class third pool after whose number label name =
    let names : List ℕ = class ++ 32 ∷ pool in
    let plain : has_no 10 names ≡ true = has_no-append 10 class (32 ∷ pool) (name_has_no 10 class (omega arith) label.0) (name_has_no 10 pool (omega arith) name.0) in
    let whole : words ≡ (decimal job ++ 32 ∷ names) ++ 10 ∷ after =
    number.1
    ∙ ap (λ (t : List ℕ). decimal job ++ 32 ∷ t) (label.1 ∙ ap (λ (t : List ℕ). class ++ 32 ∷ t) name.1 ∙ sym (append_assoc class (32 ∷ pool) (10 ∷ after)))
    ∙ sym (append_assoc (decimal job) (32 ∷ names) (10 ∷ after))
    in
    first_read actor (codes "submit" ++ 32 ∷ words) (codes "submit" ++ 32 ∷ (decimal job ++ 32 ∷ names)) after (Submits actor job class pool) whose
    (and_from _ _ (and_from _ _ (and_from _ _ whose number.0) label.0) name.0)
    (sym (after_is actor (codes "submit") (decimal job ∷ class ∷ pool ∷ [])))
    (has_no-append 10 (decimal job) (32 ∷ names) (decimal_has_no 10 job (omega arith) number.0) plain)
    (ap (λ (t : List ℕ). codes "submit" ++ 32 ∷ t) whole)

-- ---- numbers
-- a byte whose value as a digit is at most 9 is a digit
pub one_digit : (byte digit : ℕ) → (48 ≤ byte → digit + 48 ≡ byte) → (byte < 48 → 9 < digit) → digit ≤ 9 → (is_ascii_digit byte ≡ true) × (digit ≡ byte - 48)
one_digit byte digit same other small =
    elim (cases_lt byte 48) [
      | inl below ↦ absurd (omega (arith, other below))
      | inr from ↦ let is : digit + 48 ≡ byte = same from in (grind (arith, nat_tests), omega (arith, is))
    ]

-- a number of i + 1 digits is below 10 to the power i + 1
pub power_more : (n digit i : ℕ) → n < 10 ^ i → digit ≤ 9 → n * 10 + digit < 10 ^ (i + 1)
power_more n digit i small low =
    let next : i + 1 ≡ suc i = omega arith in
    let more : 10 ^ (i + 1) ≡ 10 * 10 ^ i = ap (λ k. 10 ^ k) next ∙ pow-succ' 10 i in
    omega (arith, more)

whole_number : (digits : List ℕ) (n : ℕ) → 0 < length digits → (get_or digits 0 0 == 48) ≡ false → list_all is_ascii_digit digits ≡ true → n ≡ digits_value 10 digits → n ≤ MAX_LINE_NUMBER → number_of digits ≡ Some n
unfolding number_of is_whole_number
whole_number digits n some first all e within = rw (all, ← e) (grind (arith, nat_tests))

-- a text that begins with `count` digits, the first of which is not 0, and the byte `end` begins with a valid number
pub number_there : (text : List ℕ) (count n end : ℕ) (after : List ℕ) → 1 ≤ count → count ≤ length text → count ≤ 9 → (get_or text 0 0 == 48) ≡ false → list_all is_ascii_digit (take count text) ≡ true
    → n ≡ digits_value 10 (take count text) → n < 10 ^ count → drop count text ≡ end ∷ after → (is_valid_number n ≡ true) × (text ≡ decimal n ++ end ∷ after)
number_there text count n end after some inside few first digits e small rest =
    let most : 10 ^ count ≤ 10 ^ 9 = pow-le-pow_right (omega arith) few in
    let long : length (take count text) ≡ count = length-take-le count text inside in
    let same : get_or (take count text) 0 0 ≡ get_or text 0 0 = get_or-take count text 0 0 (omega arith) in
    let number = number_read (take count text) n (whole_number (take count text) n (omega (arith, long)) (ap (λ b. b == 48) same ∙ first) digits e (omega (arith, most, small))) in
    (number.0, sym (take-append-drop count text) ∙ ap₂ (λ (x y : List ℕ). x ++ y) number.1 rest)

-- ---- names
pub name_there : (text name after : List ℕ) (count end : ℕ) → name ≡ take count text → drop count text ≡ end ∷ after → text ≡ name ++ end ∷ after
name_there text name after count end front rest = sym (take-append-drop count text) ∙ ap₂ (λ (x y : List ℕ). x ++ y) (sym front) rest

pub lawful_name : (name : List ℕ) → 1 ≤ length name → length name ≤ MAX_NAME_BYTES → 97 ≤ get_or name 0 0 → get_or name 0 0 ≤ 122 → list_all is_name_byte name ≡ true → is_valid_name name ≡ true
lawful_name name some short low high bytes = grind (arith, nat_tests)
