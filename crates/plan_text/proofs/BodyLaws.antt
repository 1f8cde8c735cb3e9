-- Proofs that a parsed body is valid.
use Rattle.std.proofs.Common.{◌≡◌, ℕ, zero, suc, ◌<◌, true, false, ◌==◌, nat_lt, List, [], ◌∷◌, length, take, slice_get, Option, Some, Result, Ok, refl, sym, ap, subst, ◌∙◌, arith, inl, inr}
use Rattle.std.specs.Prelude.{is_none}
use Rattle.std.specs.List.{list_any}
use Rattle.std.proofs.lemmas.Bool.{cases_Bool, and_from, lt-ltb, eqb-true, not_from_false}
use Rattle.std.proofs.lemmas.Option.{slice_get_within}
use Rattle.support.specs.Reading.{ensure, ok_or}
use Rattle.support.proofs.Steps.{bind_ok, holds_ok, some_ok}
use Rattle.support.proofs.ReadElements.{read_length, read_at}
use Rattle.job_bodies.specs.declared.action.Action.{Action}
use Rattle.job_bodies.specs.declared.action.Action.TheVariants.{Work, Submit, Get}
use Rattle.job_bodies.specs.declared.fault.PlanFault.{PlanFault}
use Rattle.job_bodies.specs.declared.fault.Part.{Part}
use Rattle.job_bodies.specs.Plan.{submits, gets}
use Rattle.job_bodies.specs.WellFormed.{is_valid_get, is_valid_action}
use Rattle.job_bodies.specs.Checks.{at_action, check_action, check_body}
use Rattle.job_bodies.proofs.Passing.{test_passes, each_passes, list_any_from}
use Rattle.plan_text.specs.Checks.{place_of}
use Rattle.plan_text.specs.ParsedActions.{ParsedAction, work, submit, submit_as, get, parse_action}
use Rattle.plan_text.specs.Slots.{filled}
use Rattle.plan_text.specs.Bodies.{class_named, action_of, action_at, action_among, body_of}
use Rattle.plan_text.proofs.ReadActions.{read_spelled}
use Rattle.plan_text.proofs.FilledSlots.{HasParsedAction, fills}

-- ---- the action for a parsed action
abbrev IsOf : ℕ → (List ℕ → Option ℕ) → ParsedAction → Action → Type 0
IsOf classes slots (work units) action = Work units ≡ action
IsOf classes slots (submit class) action = (k : ℕ) × (Submit k ≡ action) × (nat_lt k classes ≡ true)
IsOf classes slots (submit_as class slot) action = (k : ℕ) × (Submit k ≡ action) × (nat_lt k classes ≡ true)
IsOf classes slots (get slot) action = (t : ℕ) × (Get t ≡ action) × (slots slot ≡ Some t)

abbrev given : Action → Result Action PlanFault
given x = Ok x

action_is : (x y : Action) → given x ≡ given y → x ≡ y
action_is x y e = cc

class_there : (classes : List (List ℕ)) (fault : ℕ → PlanFault) (name : List ℕ) (k : ℕ) → class_named classes fault name ≡ Ok k → nat_lt k (length classes) ≡ true
class_there classes fault name k e =
    let found = bind_ok (ensure (nat_lt (place_of classes name) (length classes)) _) _ _ e in
    let there : nat_lt (place_of classes name) (length classes) ≡ true = holds_ok _ _ found.1 in
    let same : place_of classes name ≡ k = cc in
    subst (λ (n : ℕ). nat_lt n (length classes) ≡ true) same there

is_of : (classes : List (List ℕ)) (slots : List ℕ → Option ℕ) (fault : ℕ → PlanFault) (parsed_action : ParsedAction) (action : Action) → action_of classes slots fault parsed_action ≡ Ok action → IsOf (length classes) slots parsed_action action
is_of classes slots fault (work units) action e = action_is _ _ e
is_of classes slots fault (submit class) action e =
    let found = bind_ok (class_named classes fault class) _ _ e in
    (found.0, action_is _ _ found.2, class_there classes fault class found.0 found.1)
is_of classes slots fault (submit_as class slot) action e =
    let found = bind_ok (class_named classes fault class) _ _ e in
    let open_slot = bind_ok (ensure (is_none (slots slot)) _) _ _ found.2 in
    (found.0, action_is _ _ open_slot.2, class_there classes fault class found.0 found.1)
is_of classes slots fault (get slot) action e =
    let found = bind_ok (ok_or (slots slot) _) _ _ e in
    (found.0, action_is _ _ found.2, some_ok (slots slot) _ found.0 found.1)

-- the text at position i parses, and `action` is the action for its parsed action
record Comes (classes : ℕ) (texts : List (List ℕ)) (i : ℕ) (action : Action) : Type 0 where
  within : i < length texts
  parsed_action : ParsedAction
  ordered : HasParsedAction texts i parsed_action
  is : IsOf classes (filled (take i texts)) parsed_action action

comes : (classes : List (List ℕ)) (part : Part) (index : ℕ) (texts : List (List ℕ)) (body : List Action) (i : ℕ) (action : Action) → body_of classes part index texts ≡ Ok body → slice_get body i ≡ Some action
    → Comes (length classes) texts i action
unfolding body_of action_at
comes classes part index texts body i action e here =
    let found = read_at (action_among classes part index texts) texts body i action e here in
    let parsed_action = bind_ok (ok_or (parse_action found.0) _) _ _ found.2 in
    record {
      within = slice_get_within texts i found.0 found.1;
      parsed_action = parsed_action.0;
      ordered = record { text = found.0; here = found.1; gives = some_ok (parse_action found.0) _ parsed_action.0 parsed_action.1 };
      is = is_of classes (filled (take i texts)) (at_action part index i) parsed_action.0 action parsed_action.2;
    }

-- ---- the parsed action at a position is unique
parsed_action_is : (x y : Option ParsedAction) (a b : ParsedAction) → x ≡ Some a → y ≡ Some b → x ≡ y → a ≡ b
parsed_action_is x y a b p q e = cc

same_parsed_action : (texts : List (List ℕ)) (i : ℕ) (a b : ParsedAction) → HasParsedAction texts i a → HasParsedAction texts i b → a ≡ b
same_parsed_action texts i a b p q =
    let here = p.here in
    let there = q.here in
    let same : p.text ≡ q.text = cc in
    parsed_action_is (parse_action p.text) (parse_action q.text) a b p.gives q.gives (ap parse_action same)

-- if an element is at index j of the first i elements of a list, j is below i, and the element is at index j of the list
taken : {X : Type 0} (xs : List X) (i j : ℕ) (x : X) → slice_get (take i xs) j ≡ Some x → (j < i) × (slice_get xs j ≡ Some x)
taken [] zero j x e = absurd cc
taken [] (suc i) j x e = absurd cc
taken (y ∷ xs) zero j x e = absurd cc
taken (y ∷ xs) (suc i) zero x e = (omega arith, e)
taken (y ∷ xs) (suc i) (suc j) x e =
    let rest = taken xs i j x e in
    (omega (arith, rest.0), rest.1)

-- the list has an element at each index below its length
there_is : {X : Type 0} (xs : List X) (i : ℕ) → i < length xs → (x : X) × (slice_get xs i ≡ Some x)
there_is [] i within = absurd (omega arith)
there_is (x ∷ xs) zero within = (x, refl)
there_is (x ∷ xs) (suc i) within = there_is xs i (omega arith)

-- the action for a parsed submit that fills a slot is a submit
comes_submit : (classes : ℕ) (slots : List ℕ → Option ℕ) (parsed_action : ParsedAction) (class slot : List ℕ) (action : Action) → parsed_action ≡ submit_as class slot → IsOf classes slots parsed_action action → (k : ℕ) × (Submit k ≡ action)
comes_submit classes slots parsed_action class slot action same is =
    let at = subst (λ (o : ParsedAction). IsOf classes slots o action) same is in
    (at.0, at.1)

-- the action for the parsed action is not a get of t, unless the parsed action is a get of a slot that the submit at t filled
abbrev GetsNot : ℕ → (List ℕ → Option ℕ) → ParsedAction → ℕ → Action → Type 0
GetsNot classes slots parsed_action t action = IsOf classes slots parsed_action action → ((slot : List ℕ) → parsed_action ≡ get slot → slots slot ≡ Some t → ⊥) → gets t action ≡ false

gets_not : (classes : ℕ) (slots : List ℕ → Option ℕ) (parsed_action : ParsedAction) (t : ℕ) (action : Action) → GetsNot classes slots parsed_action t action
gets_not classes slots (work units) t action is none = subst (λ (a : Action). gets t a ≡ false) is refl
gets_not classes slots (submit class) t action is none = subst (λ (a : Action). gets t a ≡ false) is.1 refl
gets_not classes slots (submit_as class slot) t action is none = subst (λ (a : Action). gets t a ≡ false) is.1 refl
gets_not classes slots (get slot) t action is none =
    subst (λ (a : Action). gets t a ≡ false) is.1 (elim (cases_Bool (t == is.0)) [
      | inl same ↦
          let t-is : t ≡ is.0 = eqb-true t is.0 same in
          absurd (none slot refl (rw t-is is.2))
      | inr other ↦ other
    ])

-- a parsed body has one action for each text
pub body_length : (classes : List (List ℕ)) (part : Part) (index : ℕ) (texts : List (List ℕ)) (body : List Action) → body_of classes part index texts ≡ Ok body → length body ≡ length texts
unfolding body_of
body_length classes part index texts body e = read_length (action_among classes part index texts) 0 texts body e

-- each get of a parsed body is valid
valid_get : (classes : List (List ℕ)) (part : Part) (index : ℕ) (texts : List (List ℕ)) (body : List Action) (i t : ℕ) (slot : List ℕ) → body_of classes part index texts ≡ Ok body → i < length texts
    → HasParsedAction texts i (get slot) → filled (take i texts) slot ≡ Some t → is_valid_get body i t ≡ true
valid_get classes part index texts body i t slot e within ordered at =
    let f = fills texts i slot t (omega arith) at in
    let long : length body ≡ length texts = body_length classes part index texts body e in
    let b = there_is body t (omega (arith, f.before)) in
    let c = comes classes part index texts body t b.0 e b.1 in
    let made = comes_submit (length classes) (filled (take t texts)) c.parsed_action f.class slot b.0 (same_parsed_action texts t c.parsed_action (submit_as f.class slot) c.ordered f.submitted) c.is in
    let submit-is : slice_get body t ≡ Some (Submit made.0) = rw made.1 b.1 in
    let submitted : submits (slice_get body t) ≡ true = rw submit-is refl in
    let once : list_any (gets t) (take i body) ≡ false = list_any_from (gets t) (take i body) (λ j action here.
    let place = taken body i j action here in
    let d = comes classes part index texts body j action e place.1 in
    gets_not (length classes) (filled (take j texts)) d.parsed_action t action d.is (λ other same there.
    let g = fills texts j other t (omega (arith, place.0)) there in
    let one = same_parsed_action texts t (submit_as f.class slot) (submit_as g.class other) f.submitted g.submitted in
    let slot-is : slot ≡ other = cc in
    f.since j g.before place.0 (subst (λ (o : ParsedAction). HasParsedAction texts j o) (same ∙ ap get (sym slot-is)) d.ordered))) in
    and_from _ _ (and_from _ _ (lt-ltb t i f.before) submitted) (not_from_false _ once)

-- each action of a parsed body is valid
valid_by : (classes : List (List ℕ)) (part : Part) (index : ℕ) (texts : List (List ℕ)) (body : List Action) (i : ℕ) (action : Action) (parsed_action : ParsedAction) → body_of classes part index texts ≡ Ok body → i < length texts
    → HasParsedAction texts i parsed_action → IsOf (length classes) (filled (take i texts)) parsed_action action → is_valid_action (length classes) body i action ≡ true
valid_by classes part index texts body i action (work units) e within ordered is =
    subst (λ (a : Action). is_valid_action (length classes) body i a ≡ true) is (read_spelled ordered.text (work units) ordered.gives).0
valid_by classes part index texts body i action (submit class) e within ordered is =
    subst (λ (a : Action). is_valid_action (length classes) body i a ≡ true) is.1 is.2
valid_by classes part index texts body i action (submit_as class slot) e within ordered is =
    subst (λ (a : Action). is_valid_action (length classes) body i a ≡ true) is.1 is.2
valid_by classes part index texts body i action (get slot) e within ordered is =
    subst (λ (a : Action). is_valid_action (length classes) body i a ≡ true) is.1 (valid_get classes part index texts body i is.0 slot e within ordered is.2)

valid_actions : (classes : List (List ℕ)) (part : Part) (index : ℕ) (texts : List (List ℕ)) (body : List Action) → body_of classes part index texts ≡ Ok body
    → (i : ℕ) (action : Action) → slice_get body i ≡ Some action → is_valid_action (length classes) body i action ≡ true
valid_actions classes part index texts body e i action here =
    let c = comes classes part index texts body i action e here in
    valid_by classes part index texts body i action c.parsed_action e c.within c.ordered c.is

action_passes : (classes : ℕ) (part : Part) (index : ℕ) (body : List Action) (i : ℕ) (action : Action) → is_valid_action classes body i action ≡ true → check_action classes part index body i action ≡ Ok tt
action_passes classes part index body i (Work u) h = test_passes _ _ h
action_passes classes part index body i (Submit k) h = test_passes _ _ h
action_passes classes part index body i (Get t) h = test_passes _ _ h

-- a parsed body passes the check of a body, whichever entry has it
pub body_passes : (classes : List (List ℕ)) (part : Part) (index : ℕ) (texts : List (List ℕ)) (body : List Action) → body_of classes part index texts ≡ Ok body
    → (n : ℕ) (at : Part) (place : ℕ) → n ≡ length classes → check_body n at place body ≡ Ok tt
body_passes classes part index texts body e n at place same =
    each_passes (check_action n at place body) body (λ i action here.
    action_passes n at place body i action (rw same (valid_actions classes part index texts body e i action here)))
