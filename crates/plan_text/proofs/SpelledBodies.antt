-- Proofs that the texts of a valid body parse as that body.
use Rattle.std.proofs.Common.{codes, ◌++◌, ◌≡◌, ℕ, zero, suc, ◌+◌, ◌-◌, ◌<◌, ◌≤◌, true, false, if◌then◌else◌, nat_lt, List, [], ◌∷◌, length, map, take, get_or, slice_get, Option, None, Some, Result, Ok, refl, sym, ap, subst, ◌∙◌, arith, zero-add, inl, inr, ◌⊎◌}
use Rattle.std.specs.Prelude.{option_map}
use Rattle.std.specs.List.{list_any, enumerate_from}
use Rattle.std.specs.Str.{bytes_eq}
use Rattle.std.proofs.lemmas.Bool.{cases_Bool, and_from, ltb-true, eq-eqb}
use Rattle.std.proofs.lemmas.List.{append-nil, length-map, length-take-le, get_or-take}
use Rattle.std.proofs.lemmas.List.Folds.{list_any_at}
use Rattle.std.proofs.lemmas.List.FromFn.{length-enumerate_from}
use Rattle.std.proofs.lemmas.List.Sums.{position_or_len_is}
use Rattle.std.proofs.lemmas.Option.{slice_get-map, slice_get_within, slice_get-get_or, get_or_from_slice_get}
use Rattle.std.proofs.lemmas.Slice.Eq.{bytes_eq-Decides}
use Rattle.support.specs.Reading.{read_each}
use Rattle.job_bodies.specs.declared.action.Action.{Action}
use Rattle.job_bodies.specs.declared.action.Action.TheVariants.{Work, Submit, Get}
use Rattle.job_bodies.specs.declared.fault.PlanFault.{PlanFault}
use Rattle.job_bodies.specs.declared.fault.Part.{Part}
use Rattle.job_bodies.specs.Plan.{Plan, submits, gets}
use Rattle.job_bodies.specs.WellFormed.{are_distinct, is_valid_name, is_valid_action, is_valid_body}
use Rattle.job_bodies.specs.Checks.{at_action}
use Rattle.job_bodies.specs.ValidBody.{IsValidBody}
use Rattle.job_bodies.proofs.Bodies.{valid_action, valid_body}
use Rattle.job_bodies.proofs.DistinctNames.{distinct_before}
use Rattle.job_bodies.proofs.Passing.{EachPlace, list_any_get}
use Rattle.plan_text.specs.Checks.{place_of}
use Rattle.plan_text.specs.ParsedActions.{ParsedAction, work, submit, submit_as, get, parse_action}
use Rattle.plan_text.specs.Slots.{filled_by, filled}
use Rattle.plan_text.specs.Spelling.{name_at, slot_name, action_text, body_texts}
use Rattle.plan_text.specs.Bodies.{class_named, action_of, action_at, action_among, body_of}
use Rattle.plan_text.proofs.SlotStates.{filled_more}
use Rattle.plan_text.proofs.FilledSlots.{HasParsedAction, fills}
use Rattle.plan_text.proofs.SpelledActions.{spelled}
use Rattle.plan_text.proofs.SlotNames.{slot_valid, slot_injective}

-- ---- the names of classes and slots
-- the index of the name at place p is p, in a list of distinct names
pub place_is : (names : List (List ℕ)) → are_distinct names ≡ true → (place : ℕ) → place < length names → place_of names (name_at names place) ≡ place
place_is names distinct place within =
    let name = name_at names place in
    let none = distinct_before names distinct place name (slice_get-get_or names place [] within) in
    let other : (k : ℕ) → k < place → bytes_eq name (get_or names k []) ≡ false = λ k before.
    let inside : k < length (take place names) = omega (arith, before, length-take-le place names (omega (arith, within))) in
    let there : slice_get (take place names) k ≡ Some (get_or names k []) = slice_get-get_or (take place names) k [] inside ∙ ap (λ (x : List ℕ). Some x) (get_or-take place names k [] before) in
    list_any_get (bytes_eq name) (take place names) none k (get_or names k []) there in
    position_or_len_is (λ known. bytes_eq name known) names place [] (omega (arith, within)) other (λ _. (bytes_eq-Decides name name).1 refl)

-- the slots of different positions have different names
slots_apart : (i j : ℕ) → i < 256 → j < 256 → (i ≡ j → ⊥) → bytes_eq (slot_name i) (slot_name j) ≡ false
slots_apart i j p q apart =
    elim (cases_Bool (bytes_eq (slot_name i) (slot_name j))) [
      | inl same ↦ absurd (apart (slot_injective i j p q ((bytes_eq-Decides (slot_name i) (slot_name j)).0 same)))
      | inr other ↦ other
    ]

same_slot : (i : ℕ) → bytes_eq (slot_name i) (slot_name i) ≡ true
same_slot i = (bytes_eq-Decides (slot_name i) (slot_name i)).1 refl

-- ---- the texts of a body
-- the element of an enumerated list at index i is the list's element with its index
enumerated_get : {X : Type 0} (n : ℕ) (xs : List X) (i : ℕ) (x : X) → slice_get xs i ≡ Some x → slice_get (enumerate_from n xs) i ≡ Some (n + i, x)
enumerated_get n [] i x e = absurd cc
enumerated_get n (y ∷ xs) zero x e =
    let same : y ≡ x = cc in
    let place : n ≡ n + 0 = omega arith in
    rw (← place, same) refl
enumerated_get n (y ∷ xs) (suc i) x e =
    let place : n + suc i ≡ n + 1 + i = omega arith in
    rw place (enumerated_get (n + 1) xs i x e)

-- the text at position i is that of the action at position i
text_here : (classes : List (List ℕ)) (body : List Action) (i : ℕ) (action : Action) → slice_get body i ≡ Some action → slice_get (body_texts classes body) i ≡ Some (action_text classes body i action)
unfolding body_texts
text_here classes body i action here =
    let spell : ℕ × Action → List ℕ = λ entry. action_text classes body entry.0 entry.1 in
    slice_get-map spell (enumerate_from 0 body) i ∙ ap (option_map spell) (enumerated_get 0 body i action here) ∙ ap (λ (n : ℕ). Some (action_text classes body n action)) (zero-add i)

-- a body has one text for each action
pub length-texts : (classes : List (List ℕ)) (body : List Action) → length (body_texts classes body) ≡ length body
unfolding body_texts
length-texts classes body = length-map (enumerate_from 0 body) _ ∙ length-enumerate_from 0 body

-- ---- the parsed actions of the texts
-- the parsed action of the text at position i
abbrev parsed_action_here : List (List ℕ) → List Action → ℕ → Action → ParsedAction
parsed_action_here classes body i (Work units) = work units
parsed_action_here classes body i (Submit class) = if list_any (gets i) body then submit_as (name_at classes class) (slot_name i) else submit (name_at classes class)
parsed_action_here classes body i (Get t) = get (slot_name t)

-- the body is valid, and the names of the classes are valid and distinct
record IsSpelled (classes : List (List ℕ)) (body : List Action) : Type 0 where
  distinct : are_distinct classes ≡ true
  names : EachPlace classes (λ i name. is_valid_name name ≡ true)
  actions : EachPlace body (λ i action. is_valid_action (length classes) body i action ≡ true)
  short : length body ≤ 256
  behind : (g t : ℕ) → slice_get body g ≡ Some (Get t) → t < g
  of_submit : (g t : ℕ) → slice_get body g ≡ Some (Get t) → submits (slice_get body t) ≡ true
  once : (g h t : ℕ) → g < h → slice_get body g ≡ Some (Get t) → slice_get body h ≡ Some (Get t) → ⊥

place_within : (classes : List (List ℕ)) (body : List Action) → IsSpelled classes body → (i : ℕ) (action : Action) → slice_get body i ≡ Some action → i < 256
place_within classes body given i action here = omega (arith, slice_get_within body i action here, given.short)

parsed_action_is : (classes : List (List ℕ)) (body : List Action) → IsSpelled classes body → (i : ℕ) (action : Action) → slice_get body i ≡ Some action → parse_action (action_text classes body i action) ≡ Some (parsed_action_here classes body i action)
unfolding action_text
parsed_action_is classes body given i (Work units) here = spelled (work units) (given.actions i (Work units) here)
parsed_action_is classes body given i (Submit class) here =
    let name = name_at classes class in
    let within : class < length classes = ltb-true class (length classes) (given.actions i (Submit class) here) in
    let valid = given.names class name (slice_get-get_or classes class [] within) in
    elim (cases_Bool (list_any (gets i) body)) [
      | inl got ↦ rw got (spelled (submit_as name (slot_name i)) (and_from _ _ valid (slot_valid i (place_within classes body given i (Submit class) here))))
      | inr free ↦ rw free (subst (λ (word : List ℕ). parse_action (codes "submit " ++ word) ≡ Some (submit name)) (sym (append-nil name)) (spelled (submit name) valid))
    ]
parsed_action_is classes body given i (Get t) here = spelled (get (slot_name t)) (slot_valid t (omega (arith, given.behind i t here, place_within classes body given i (Get t) here)))

has_parsed_action : (classes : List (List ℕ)) (body : List Action) → IsSpelled classes body → (i : ℕ) (action : Action) → slice_get body i ≡ Some action → HasParsedAction (body_texts classes body) i (parsed_action_here classes body i action)
has_parsed_action classes body given i action here = record {
  text = action_text classes body i action;
  here = text_here classes body i action here;
  gives = parsed_action_is classes body given i action here;
}

-- ---- the slots of a body
none_or_some : (o : Option ℕ) → (o ≡ None) ⊎ ((t : ℕ) × (o ≡ Some t))
none_or_some None = inl refl
none_or_some (Some t) = inr (t, refl)

-- a body has an action at each position below its length
action_there : (body : List Action) (i : ℕ) → i < length body → (action : Action) × (slice_get body i ≡ Some action)
action_there body i within = (get_or body i (Work 0), slice_get-get_or body i (Work 0) within)

some_parsed_action : (a b : ParsedAction) (o : Option ParsedAction) → o ≡ Some a → o ≡ Some b → a ≡ b
some_parsed_action a b o p q = cc

-- a submit at position i fills only the slot of position i
slot_is : (classes : List (List ℕ)) (body : List Action) (i : ℕ) (action : Action) (class slot : List ℕ) → parsed_action_here classes body i action ≡ submit_as class slot → slot ≡ slot_name i
slot_is classes body i (Work units) class slot e = absurd cc
slot_is classes body i (Submit k) class slot e =
    elim (cases_Bool (list_any (gets i) body)) [
      | inl got ↦ let now = rw got at e in cc
      | inr free ↦ let now = rw free at e in absurd cc
    ]
slot_is classes body i (Get t) class slot e = absurd cc

-- the slot of position i is empty before position i
slot_empty : (classes : List (List ℕ)) (body : List Action) → IsSpelled classes body → (i : ℕ) → i < length body → filled (take i (body_texts classes body)) (slot_name i) ≡ None
slot_empty classes body given i within =
    let texts = body_texts classes body in
    elim (none_or_some (filled (take i texts) (slot_name i))) [
      | inl none ↦ none
      | inr some ↦
          let t = some.0 in
          let by = fills texts i (slot_name i) t (omega (arith, within, length-texts classes body)) some.1 in
          let action = action_there body t (omega (arith, within, by.before)) in
          let has = has_parsed_action classes body given t action.0 action.1 in
          let text-here = has.here in
          let submit-here = by.submitted.here in
          let same : has.text ≡ by.submitted.text = cc in
          let parsed_action = some_parsed_action _ _ (parse_action has.text) has.gives (ap parse_action same ∙ by.submitted.gives) in
          let place = slot_injective i t (omega (arith, within, given.short)) (omega (arith, within, by.before, given.short)) (slot_is classes body t action.0 by.class (slot_name i) parsed_action) in
          absurd (omega (arith, place, by.before))
    ]

-- the state of a slot after the first i + 1 actions is its state after the first i, changed by the action at i
slot_more : (classes : List (List ℕ)) (body : List Action) → IsSpelled classes body → (slot : List ℕ) (i : ℕ) (action : Action) → slice_get body i ≡ Some action
    → filled (take (i + 1) (body_texts classes body)) slot ≡ filled_by slot i (filled (take i (body_texts classes body)) slot) (Some (parsed_action_here classes body i action))
slot_more classes body given slot i action here =
    let texts = body_texts classes body in
    let has = has_parsed_action classes body given i action here in
    filled_more slot texts i has.text has.here ∙ ap (filled_by slot i (filled (take i texts) slot)) has.gives

-- a submit that a get names fills the slot of its position
filled_first : (classes : List (List ℕ)) (body : List Action) (t class : ℕ) (before : Option ℕ) → list_any (gets t) body ≡ true → filled_by (slot_name t) t before (Some (parsed_action_here classes body t (Submit class))) ≡ Some t
filled_first classes body t class before got = rw (got, same_slot t) refl

-- an action after the submit at t leaves the slot of t filled, unless it is a get of t
filled_kept : (classes : List (List ℕ)) (body : List Action) → IsSpelled classes body → (t j : ℕ) (action : Action) → slice_get body j ≡ Some action → t < j → (action ≡ Get t → ⊥)
    → filled_by (slot_name t) j (Some t) (Some (parsed_action_here classes body j action)) ≡ Some t
filled_kept classes body given t j (Work units) here after other = refl
filled_kept classes body given t j (Submit class) here after other =
    let within = place_within classes body given j (Submit class) here in
    elim (cases_Bool (list_any (gets j) body)) [
      | inl got ↦ rw (got, slots_apart j t within (omega (arith, after, within)) (λ same. omega (arith, same, after))) refl
      | inr free ↦ rw free refl
    ]
filled_kept classes body given t j (Get u) here after other =
    let within = place_within classes body given j (Get u) here in
    rw (slots_apart u t (omega (arith, given.behind j u here, within)) (omega (arith, after, within)) (λ same. other (ap (λ (n : ℕ). Get n) same))) refl

submit_there : (o : Option Action) → submits o ≡ true → (class : ℕ) × (o ≡ Some (Submit class))
submit_there None e = absurd cc
submit_there (Some (Work units)) e = absurd cc
submit_there (Some (Submit class)) e = (class, refl)
submit_there (Some (Get t)) e = absurd cc

-- if the body has a get of t, `gets t` holds for some action
has_get_of : (body : List Action) (g t : ℕ) → slice_get body g ≡ Some (Get t) → list_any (gets t) body ≡ true
has_get_of body g t here = list_any_at (gets t) body g (Get t) (slice_get_within body g (Get t) here) (ap (gets t) (get_or_from_slice_get body g (Get t) (Get t) here) ∙ eq-eqb t t refl)

-- the slot of t is filled from the submit at t to the get of t
filled_until : (classes : List (List ℕ)) (body : List Action) → IsSpelled classes body → (g t : ℕ) → slice_get body g ≡ Some (Get t) → (n : ℕ) → t + 1 + n ≤ g
    → filled (take (t + 1 + n) (body_texts classes body)) (slot_name t) ≡ Some t
filled_until classes body given g t here zero within =
    let texts = body_texts classes body in
    let submit-there = submit_there (slice_get body t) (given.of_submit g t here) in
    let place : t + 1 ≡ t + 1 + 0 = omega arith in
    subst (λ (k : ℕ). filled (take k texts) (slot_name t) ≡ Some t) place (slot_more classes body given (slot_name t) t (Submit submit-there.0) submit-there.1 ∙ filled_first classes body t submit-there.0 (filled (take t texts) (slot_name t)) (has_get_of body g t here))
filled_until classes body given g t here (suc n) within =
    let texts = body_texts classes body in
    let j = t + 1 + n in
    let before : j < g = omega (arith, within) in
    let action = action_there body j (omega (arith, before, slice_get_within body g (Get t) here)) in
    let other : action.0 ≡ Get t → ⊥ = λ same. given.once j g t before (action.1 ∙ ap (λ (a : Action). Some a) same) here in
    let earlier = filled_until classes body given g t here n (omega (arith, before)) in
    let place : j + 1 ≡ t + 1 + suc n = omega arith in
    let next = slot_more classes body given (slot_name t) j action.0 action.1 ∙ ap (λ (o : Option ℕ). filled_by (slot_name t) j o (Some (parsed_action_here classes body j action.0))) earlier in
    subst (λ (k : ℕ). filled (take k texts) (slot_name t) ≡ Some t) place (next ∙ filled_kept classes body given t j action.0 action.1 (omega arith) other)

slot_filled : (classes : List (List ℕ)) (body : List Action) → IsSpelled classes body → (g t : ℕ) → slice_get body g ≡ Some (Get t) → filled (take g (body_texts classes body)) (slot_name t) ≡ Some t
slot_filled classes body given g t here =
    let behind = given.behind g t here in
    let place : t + 1 + (g - (t + 1)) ≡ g = omega (arith, behind) in
    subst (λ (k : ℕ). filled (take k (body_texts classes body)) (slot_name t) ≡ Some t) place (filled_until classes body given g t here (g - (t + 1)) (omega (arith, behind)))

-- ---- the actions of a body
class_found : (classes : List (List ℕ)) (fault : ℕ → PlanFault) → are_distinct classes ≡ true → (class : ℕ) → nat_lt class (length classes) ≡ true → class_named classes fault (name_at classes class) ≡ Ok class
class_found classes fault distinct class within = rw (place_is classes distinct class (ltb-true class (length classes) within), within) refl

action_is : (classes : List (List ℕ)) (body : List Action) → IsSpelled classes body → (fault : ℕ → PlanFault) (i : ℕ) (action : Action) → slice_get body i ≡ Some action
    → action_of classes (filled (take i (body_texts classes body))) fault (parsed_action_here classes body i action) ≡ Ok action
action_is classes body given fault i (Work units) here = refl
action_is classes body given fault i (Submit class) here =
    let found = class_found classes fault given.distinct class (given.actions i (Submit class) here) in
    elim (cases_Bool (list_any (gets i) body)) [
      | inl got ↦ rw (got, found, slot_empty classes body given i (slice_get_within body i (Submit class) here)) refl
      | inr free ↦ rw (free, found) refl
    ]
action_is classes body given fault i (Get t) here = rw (slot_filled classes body given i t here) refl

action_back : (classes : List (List ℕ)) (part : Part) (index : ℕ) (body : List Action) → IsSpelled classes body → (i : ℕ) (text : List ℕ) (action : Action) → slice_get (body_texts classes body) i ≡ Some text
    → slice_get body i ≡ Some action → action_among classes part index (body_texts classes body) i text ≡ Ok action
unfolding action_at
action_back classes part index body given i text action there here =
    let has = has_parsed_action classes body given i action here in
    let text-here = has.here in
    let same : text ≡ has.text = cc in
    rw (same, has.gives) (action_is classes body given (at_action part index i) i action here)

-- reading the elements of a list gives these values, if reading each element gives the value at its index
read_gives_from : {X Y F : Type 0} (read : ℕ → X → Result Y F) (n : ℕ) (xs : List X) (ys : List Y) → length xs ≡ length ys
    → ((i : ℕ) (x : X) (y : Y) → slice_get xs i ≡ Some x → slice_get ys i ≡ Some y → read (n + i) x ≡ Ok y) → read_each read n xs ≡ Ok ys
read_gives_from read n [] [] same each = refl
read_gives_from read n [] (y ∷ ys) same each = absurd (omega (arith, same))
read_gives_from read n (x ∷ xs) [] same each = absurd (omega (arith, same))
read_gives_from read n (x ∷ xs) (y ∷ ys) same each =
    let place : n + 0 ≡ n = omega arith in
    let first : read n x ≡ Ok y = subst (λ (k : ℕ). read k x ≡ Ok y) place (each 0 x y refl refl) in
    let rest : read_each read (n + 1) xs ≡ Ok ys = read_gives_from read (n + 1) xs ys (omega (arith, same)) (λ i z w p q.
    let later : n + suc i ≡ n + 1 + i = omega arith in
    subst (λ (k : ℕ). read k z ≡ Ok w) later (each (suc i) z w p q)) in
    rw (first, rest) refl

read_gives : {X Y F : Type 0} (read : ℕ → X → Result Y F) (xs : List X) (ys : List Y) → length xs ≡ length ys
    → ((i : ℕ) (x : X) (y : Y) → slice_get xs i ≡ Some x → slice_get ys i ≡ Some y → read i x ≡ Ok y) → read_each read 0 xs ≡ Ok ys
read_gives read xs ys same each = read_gives_from read 0 xs ys same (λ i x y p q. subst (λ (k : ℕ). read k x ≡ Ok y) (sym (zero-add i)) (each i x y p q))

-- a plan with classes of these names, and no pools or client kinds
plan_with : List (List ℕ) → Plan
plan_with classes = record { pools = []; classes = map (λ name. record { name = name; pool = 0; body = [] }) classes; clients = [] }

valid_with : (classes : List (List ℕ)) (body : List Action) → is_valid_body (length classes) body ≡ true → IsValidBody (plan_with classes) body
unfolding plan_with
valid_with classes body valid = valid_body (plan_with classes) body (subst (λ (n : ℕ). is_valid_body n body ≡ true) (sym (length-map classes _)) valid)

is_spelled : (classes : List (List ℕ)) (body : List Action) → are_distinct classes ≡ true → EachPlace classes (λ i name. is_valid_name name ≡ true) → is_valid_body (length classes) body ≡ true → IsSpelled classes body
is_spelled classes body distinct names valid =
    let is = valid_with classes body valid in
    record {
      distinct = distinct;
      names = names;
      actions = λ i action here. valid_action (length classes) body i action valid here;
      short = is.short;
      behind = is.behind;
      of_submit = is.of_submit;
      once = is.once;
    }

-- each text of a valid body parses as its action, so all texts parse as the body
pub reads_back : (classes : List (List ℕ)) (part : Part) (index : ℕ) (body : List Action) → are_distinct classes ≡ true → EachPlace classes (λ i name. is_valid_name name ≡ true)
    → is_valid_body (length classes) body ≡ true → body_of classes part index (body_texts classes body) ≡ Ok body
unfolding body_of
reads_back classes part index body distinct names valid =
    let given = is_spelled classes body distinct names valid in
    read_gives (action_among classes part index (body_texts classes body)) (body_texts classes body) body (length-texts classes body) (action_back classes part index body given)
