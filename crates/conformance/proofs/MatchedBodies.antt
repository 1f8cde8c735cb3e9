-- The result after each body of a family.
use Rattle.std.proofs.Common.{◌≡◌, ℕ, ◌+◌, ◌<◌, ◌≤◌, ◌==◌, ◌&&◌, ◌||◌, nat_lt, is_none, is_some, if◌then◌else◌, ap, Bool, true, false, None, List, [], ◌∷◌, ◌++◌, length, length-append, get_or, take, map, filter, refl, sym, subst, ◌∙◌, arith, IsTrue}
use Rattle.std.specs.List.{All, AllPairs, Contains, range_with_len}
use Rattle.std.specs.List.Sorted.{IsStrictlyIncreasing}
use Rattle.std.proofs.lemmas.List.{map-append, take_all, get_or_append_left, get_or_push}
use Rattle.std.proofs.lemmas.List.FromFn.{length-range_with_len, get_or-range_with_len}
use Rattle.std.proofs.lemmas.List.Kept.{AllPairs-from_increasing, IsStrictlyIncreasing-filter}
use Rattle.std.proofs.lemmas.List.Quantifiers.{Any-push, all_pairs_push}
use Rattle.std.proofs.lemmas.List.Elements.{All-push, All-weaker, All-contains, Contains-append_left, Contains-push}
use Rattle.std.proofs.lemmas.Bool.{eqb-false, ltb-false}
use Rattle.job_bodies.specs.declared.action.Action.{Action}
use Rattle.conformance.specs.declared.explained_prefix.ExplainedPrefix.{ExplainedPrefix}
use Rattle.conformance.specs.declared.step.ActorKind.{ActorKind}
use Rattle.conformance.specs.declared.step.PathStep.{PathStep}
use Rattle.conformance.specs.declared.step.PathState.{PathState}
use Rattle.conformance.specs.Path.{IsPathOf}
use Rattle.conformance.specs.PathMatch.{IsExplained, IsUnambiguous, HasManyOpenLists, longer}
use Rattle.conformance.specs.FamilyMatch.{IsMostExplained, NamesMissing}
use Rattle.conformance.specs.FamilyResult.{IsCorrectResult}
use Rattle.conformance.proofs.OneClassEach.{one_class_each}
use Rattle.conformance.proofs.Explained.{Any-append_left, explained_fits, explained_deviates, some_before}

-- ---- a prefix of a list
All-front : {X : Type 0} → (P : X → Type 0) (xs ys : List X) → All P (xs ++ ys) → All P xs
All-front P xs ys all k d inside = subst P (get_or_append_left xs ys d k inside) (all k d (omega (arith, length-append xs ys)))

pairs_front : (xs : List ℕ) (y : ℕ) → AllPairs (λ m n. m < n) (xs ++ y ∷ []) → AllPairs (λ m n. m < n) xs
pairs_front xs y pairs i j d before inside =
    let long : length (xs ++ y ∷ []) ≡ length xs + 1 = length-append xs (y ∷ []) in
    let first : get_or (xs ++ y ∷ []) i d ≡ get_or xs i d = get_or_append_left xs (y ∷ []) d i (omega arith) in
    let second : get_or (xs ++ y ∷ []) j d ≡ get_or xs j d = get_or_append_left xs (y ∷ []) d j inside in
    omega (arith, first, second, pairs i j d before (omega arith))

-- The last number is larger than each other one.
below_last : (xs : List ℕ) (y m : ℕ) → AllPairs (λ m n. m < n) (xs ++ y ∷ []) → Contains xs m → m < y
below_last xs y m pairs there =
    let long : length (xs ++ y ∷ []) ≡ length xs + 1 = length-append xs (y ∷ []) in
    let first : get_or (xs ++ y ∷ []) there.0 m ≡ get_or xs there.0 m = get_or_append_left xs (y ∷ []) m there.0 there.1 in
    let last : get_or (xs ++ y ∷ []) (length xs) m ≡ y = get_or_push xs y m (length xs) refl in
    omega (arith, first, last, there.2, pairs there.0 (length xs) m there.1 (omega arith))

-- ---- body by body
-- The number was matched, and the path matches its body.
abbrev pub IsMember : ActorKind → (ℕ → List Action) → PathState → List PathStep → List ℕ → ℕ → Type 0
IsMember kind body_of path_state path matched n = Contains matched n × IsPathOf kind path_state (body_of n) path

-- If each job of the path has one class of the body at most, and the path matches the body, the number is a member.
abbrev pub IsSure : ActorKind → (ℕ → List Action) → PathState → List PathStep → List ℕ → ℕ → Type 0
IsSure kind body_of path_state path members n = IsUnambiguous (body_of n) path → IsPathOf kind path_state (body_of n) path → Contains members n

-- Members remain members after one more body.
members_stay : (kind : ActorKind) (body_of : ℕ → List Action) (path_state : PathState) (path : List PathStep) (matched members : List ℕ) (n : ℕ) → All (IsMember kind body_of path_state path matched) members → All (IsMember kind body_of path_state path (matched ++ n ∷ [])) members
members_stay kind body_of path_state path matched members n sound =
    All-weaker (IsMember kind body_of path_state path matched) (IsMember kind body_of path_state path (matched ++ n ∷ [])) (λ m one. (Contains-append_left matched (n ∷ []) m one.0, one.1)) members sound

-- One more body.
bodies_more : (body_of : ℕ → List Action) (matched : List ℕ) (n : ℕ) → map body_of (matched ++ n ∷ []) ≡ map body_of matched ++ body_of n ∷ []
bodies_more body_of matched n = map-append body_of matched (n ∷ [])

-- The path matches the next body.
pub reported_fits : (kind : ActorKind) (body_of : ℕ → List Action) (path_state : PathState) (path : List PathStep) (matched members : List ℕ) (longest : ExplainedPrefix) (is_decided : Bool) (n : ℕ) → IsCorrectResult kind body_of path_state path matched members longest is_decided → IsPathOf kind path_state (body_of n) path
    → IsCorrectResult kind body_of path_state path (matched ++ n ∷ []) (members ++ n ∷ []) (record { length = length path; excess = None; missing = None }) is_decided
reported_fits kind body_of path_state path matched members longest is_decided n reported of =
    let P : ℕ → Type 0 = λ m. IsPathOf kind path_state (body_of m) path → Contains members m in
    let Q : ℕ → Type 0 = λ m. IsPathOf kind path_state (body_of m) path → Contains (members ++ n ∷ []) m in
    let R : ℕ → Type 0 = λ m. IsUnambiguous (body_of m) path → IsPathOf kind path_state (body_of m) path → Contains members m in
    let S : ℕ → Type 0 = λ m. IsUnambiguous (body_of m) path → IsPathOf kind path_state (body_of m) path → Contains (members ++ n ∷ []) m in
    record {
      sound = All-push (IsMember kind body_of path_state path (matched ++ n ∷ [])) members n (members_stay kind body_of path_state path matched members n reported.sound) (Contains-push matched n, of);
      complete = λ all. All-push Q matched n (All-weaker P Q (λ m there one. Contains-append_left members (n ∷ []) m (there one)) matched (reported.complete all)) (λ _. Contains-push members n);
      sure = All-push S matched n (All-weaker R S (λ m there only one. Contains-append_left members (n ∷ []) m (there only one)) matched reported.sure) (λ _ _. Contains-push members n);
      explained = λ all. subst (λ (bodies : List (List Action)). IsMostExplained kind bodies path (record { length = length path; excess = None; missing = None })) (sym (bodies_more body_of matched n)) (explained_fits kind path_state (map body_of matched) path (body_of n) of);
      named = λ all none filled whole. absurd (omega (arith, length-append members (n ∷ []), ap (λ (xs : List ℕ). length xs) none));
      decided = reported.decided;
      many = λ not_all. Any-append_left (λ m. HasManyOpenLists kind (body_of m) path) matched (n ∷ []) (reported.many not_all);
      few = omega (arith, reported.few, length-append members (n ∷ []), length-append matched (n ∷ []));
      ascending = λ pairs. all_pairs_push (λ l m. l < m) members n (reported.ascending (pairs_front matched n pairs)) (λ k d inside. below_last matched n (get_or members k d) pairs (reported.sound k d inside).0);
    }

-- If the path does not match the next body, no member is missing.
reported_not : (kind : ActorKind) (body_of : ℕ → List Action) (path_state : PathState) (path : List PathStep) (matched members : List ℕ) (n : ℕ) → All (λ m. IsPathOf kind path_state (body_of m) path → Contains members m) matched → ¬ IsPathOf kind path_state (body_of n) path
    → All (λ m. IsPathOf kind path_state (body_of m) path → Contains members m) (matched ++ n ∷ [])
reported_not kind body_of path_state path matched members n complete not_of =
    All-push (λ m. IsPathOf kind path_state (body_of m) path → Contains members m) matched n complete (λ of. absurd (not_of of))

-- If the whole path is explained, a job is missing: the new body names one, or the bodies before it do.
named_longer : (less same without : Bool) (kind : ActorKind) (body_of : ℕ → List Action) (path : List PathStep) (matched members : List ℕ) (n : ℕ) (before now : ExplainedPrefix) → nat_lt before.length now.length ≡ less → (before.length == now.length) ≡ same → is_none before.excess ≡ without → IsMostExplained kind (map body_of matched) path before
    → IsExplained kind (body_of n) path now → NamesMissing members (map body_of matched) path before → members ≡ [] → (if less || (same && without) then now else before).length ≡ length path → is_some (if less || (same && without) then now else before).missing ≡ true
named_longer true same without kind body_of path matched members n before now is_less is_same is_without old new names none whole = new.named whole
named_longer false true true kind body_of path matched members n before now is_less is_same is_without old new names none whole = new.named whole
named_longer false true false kind body_of path matched members n before now is_less is_same is_without old new names none whole =
    names none (some_before kind (map body_of matched) path before now old (ltb-false before.length now.length is_less) (λ _. is_without)) whole
named_longer false false without kind body_of path matched members n before now is_less is_same is_without old new names none whole =
    names none (some_before kind (map body_of matched) path before now old (ltb-false before.length now.length is_less) (λ e. absurd (eqb-false before.length now.length is_same (sym e)))) whole

-- The path does not match the next body.
pub reported_deviates : (kind : ActorKind) (body_of : ℕ → List Action) (path_state : PathState) (path : List PathStep) (matched members : List ℕ) (longest : ExplainedPrefix) (is_decided : Bool) (n : ℕ) (explained : ExplainedPrefix) → IsCorrectResult kind body_of path_state path matched members longest is_decided → ¬ IsPathOf kind path_state (body_of n) path → IsExplained kind (body_of n) path explained
    → IsCorrectResult kind body_of path_state path (matched ++ n ∷ []) members (longer longest explained) is_decided
reported_deviates kind body_of path_state path matched members longest is_decided n explained reported not_of by = record {
  sound = members_stay kind body_of path_state path matched members n reported.sound;
  complete = λ all. reported_not kind body_of path_state path matched members n (reported.complete all) not_of;
  sure = All-push (IsSure kind body_of path_state path members) matched n reported.sure (λ only of. absurd (not_of of));
  explained = λ all. subst (λ (bodies : List (List Action)). IsMostExplained kind bodies path (longer longest explained)) (sym (bodies_more body_of matched n)) (explained_deviates kind (map body_of matched) path (body_of n) longest explained (reported.explained all) by);
  named = λ all none filled whole. named_longer (nat_lt longest.length explained.length) (longest.length == explained.length) (is_none longest.excess) kind body_of path matched members n longest explained refl refl refl (reported.explained all) by (reported.named all) none whole;
  decided = reported.decided;
  many = λ not_all. Any-append_left (λ m. HasManyOpenLists kind (body_of m) path) matched (n ∷ []) (reported.many not_all);
  few = omega (arith, reported.few, length-append matched (n ∷ []));
  ascending = λ pairs. reported.ascending (pairs_front matched n pairs);
}

-- It is undecided whether the path matches the next body.
pub reported_undecided : (kind : ActorKind) (body_of : ℕ → List Action) (path_state : PathState) (path : List PathStep) (matched members : List ℕ) (longest : ExplainedPrefix) (is_decided : Bool) (n : ℕ) → IsCorrectResult kind body_of path_state path matched members longest is_decided → ¬ IsUnambiguous (body_of n) path → HasManyOpenLists kind (body_of n) path
    → IsCorrectResult kind body_of path_state path (matched ++ n ∷ []) members longest false
reported_undecided kind body_of path_state path matched members longest is_decided n reported several many_lists = record {
  sound = members_stay kind body_of path_state path matched members n reported.sound;
  complete = λ all. cc;
  sure = All-push (IsSure kind body_of path_state path members) matched n reported.sure (λ only of. absurd (several only));
  explained = λ all. cc;
  named = λ all. cc;
  decided = λ each. absurd (several (one_class_each (body_of n) path each));
  many = λ not_all. Any-push (λ m. HasManyOpenLists kind (body_of m) path) matched n many_lists;
  few = omega (arith, reported.few, length-append matched (n ∷ []));
  ascending = λ pairs. reported.ascending (pairs_front matched n pairs);
}

-- ---- the whole family
-- After the last body, all were matched.
pub reported_whole : (kind : ActorKind) (body_of : ℕ → List Action) (path_state : PathState) (path : List PathStep) (items family : List ℕ) (index : ℕ) (members : List ℕ) (longest : ExplainedPrefix) (is_decided : Bool) → IsCorrectResult kind body_of path_state path (take index items) members longest is_decided → length items ≤ index → items ≡ family
    → IsCorrectResult kind body_of path_state path family members longest is_decided
reported_whole kind body_of path_state path items family index members longest is_decided reported over same =
    subst (λ (matched : List ℕ). IsCorrectResult kind body_of path_state path matched members longest is_decided) (take_all index items over ∙ same) reported

-- Each entry of the family whose body the path matches is a member.
pub reported_complete : (kind : ActorKind) (body_of : ℕ → List Action) (path_state : PathState) (path : List PathStep) (family members : List ℕ) (longest : ExplainedPrefix) (is_decided : Bool) → IsCorrectResult kind body_of path_state path family members longest is_decided → IsTrue is_decided → (n : ℕ) → Contains family n → IsPathOf kind path_state (body_of n) path → Contains members n
reported_complete kind body_of path_state path family members longest is_decided reported all n among of =
    All-contains (λ m. IsPathOf kind path_state (body_of m) path → Contains members m) family n (reported.complete all) among of

-- The members of an ascending family are in ascending order.
pub reported_ascending : (kind : ActorKind) (body_of : ℕ → List Action) (path_state : PathState) (path : List PathStep) (family members : List ℕ) (longest : ExplainedPrefix) (is_decided : Bool) → IsCorrectResult kind body_of path_state path family members longest is_decided → IsStrictlyIncreasing family → IsStrictlyIncreasing members
reported_ascending kind body_of path_state path family members longest is_decided reported up k inside =
    reported.ascending (AllPairs-from_increasing family up) k (k + 1) 0 (omega arith) inside

-- A filtered range is in ascending order.
pub range_ascends : (test : ℕ → Bool) (count : ℕ) → IsStrictlyIncreasing (filter test (range_with_len 0 count))
range_ascends test count = IsStrictlyIncreasing-filter test (range_with_len 0 count) (λ k inside.
    let long : length (range_with_len 0 count) ≡ count = length-range_with_len 0 count in
    omega (arith, get_or-range_with_len 0 count k 0 (omega arith), get_or-range_with_len 0 count (k + 1) 0 (omega arith)))

-- Each entry of the family of which each job of the path has one class at most, and whose body the path matches, is a member.
pub reported_sure : (kind : ActorKind) (body_of : ℕ → List Action) (path_state : PathState) (path : List PathStep) (family members : List ℕ) (longest : ExplainedPrefix) (is_decided : Bool) → IsCorrectResult kind body_of path_state path family members longest is_decided → (n : ℕ) → Contains family n → IsSure kind body_of path_state path members n
reported_sure kind body_of path_state path family members longest is_decided reported n among = All-contains (IsSure kind body_of path_state path members) family n reported.sure among
