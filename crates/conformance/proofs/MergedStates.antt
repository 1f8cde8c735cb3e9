-- States in which the walks of all states with the same open jobs are joined, as far as these were read.
use Rattle.std.proofs.Common.{◌≡◌, ◌<◌, ◌≤◌, ℕ, zero, suc, true, false, Bool, ◌⊎◌, inl, inr, ⊎_elim, slice_get, Some, List, [], ◌∷◌, ◌++◌, length, get_or, refl, sym, ap, subst, ◌∙◌, arith}
use Rattle.std.proofs.lemmas.Bool.{cases_lt, false≢true, or_cases, or_left, or_right}
use Rattle.std.proofs.lemmas.List.{get_or_past}
use Rattle.std.proofs.lemmas.Option.{slice_get_within, same_Some}
use Rattle.support.specs.In.{In, here}
use Rattle.support.proofs.Members.{not_In_nil, In-append_left, In-append_right, In-push_cases, In-cons_cases, In-slice_get}
use Rattle.conformance.specs.declared.walk_state.WalkState.{WalkState}
use Rattle.conformance.specs.WalkState.{is_at}
use Rattle.conformance.specs.WalkStates.{IsCopy, IsMerged, AreMerged, AreDistinct, AreJoined}

-- `new` has the walks of `one`, and those of the states of `read` that have the same open jobs. All of them are in `states`.
pub record IsMergedOf (states read : List WalkState) (one new : WalkState) : Type 0 where
  pub jobs : new.jobs.items ≡ one.jobs.items
  pub passes : new.passes.items ≡ one.passes.items
  pub row_length : length new.row.items ≡ length one.row.items
  pub from : (index : ℕ) → is_at new index ≡ true → (state : WalkState) × In state states × (state.jobs.items ≡ one.jobs.items) × (is_at state index ≡ true)
  pub to : (index : ℕ) (state : WalkState) → In state read → state.jobs.items ≡ one.jobs.items → is_at state index ≡ true → index < length one.row.items → is_at new index ≡ true

pub merged_none : (states : List WalkState) (one copy : WalkState) → In one states → IsCopy one copy → IsMergedOf states [] one copy
merged_none states one copy i is = record {
  jobs = is.jobs;
  passes = is.passes;
  row_length = ap length is.row;
  from = λ index at. (one, i, refl, subst (λ (row : List Bool). get_or row index false ≡ true) is.row at);
  to = λ index state is_in same at lt. absurd (not_In_nil is_in);
}

pub merged_same : (states read : List WalkState) (one new state next : WalkState) → IsMergedOf states read one new → In state states → state.jobs.items ≡ one.jobs.items
    → next.jobs.items ≡ new.jobs.items → next.passes.items ≡ new.passes.items → length next.row.items ≡ length new.row.items → AreJoined new.row.items state.row.items next.row.items → IsMergedOf states (read ++ state ∷ []) one next
merged_same states read one new state next is i same jobs passes long joined =
    let bound : (index : ℕ) → is_at next index ≡ true → index < length new.row.items = λ index at. ⊎_elim (λ lt. omega (arith, lt, long)) (λ past. absurd (false≢true (sym (get_or_past next.row.items index false past) ∙ at))) (cases_lt index (length next.row.items)) in
    record {
      jobs = jobs ∙ is.jobs;
      passes = passes ∙ is.passes;
      row_length = long ∙ is.row_length;
      from = λ index at. ⊎_elim
          (λ before. is.from index before)
          (λ now. (state, i, same, now))
          (or_cases (get_or new.row.items index false) (get_or state.row.items index false) (sym (joined index (bound index at)) ∙ at));
      to = λ index other is_in alike at lt.
          let width = is.row_length in
          let whole = joined index (omega (arith, lt, width)) in
          ⊎_elim
          (λ before. whole ∙ or_left (get_or new.row.items index false) (get_or state.row.items index false) (is.to index other before alike at lt))
          (λ last. whole ∙ or_right (get_or new.row.items index false) (get_or state.row.items index false) (subst (λ (s : WalkState). is_at s index ≡ true) last at))
          (In-push_cases read state is_in);
    }

pub merged_other : (states read : List WalkState) (one new state : WalkState) → IsMergedOf states read one new → (state.jobs.items ≡ one.jobs.items → ⊥) → IsMergedOf states (read ++ state ∷ []) one new
merged_other states read one new state is differs = record {
  jobs = is.jobs;
  passes = is.passes;
  row_length = is.row_length;
  from = is.from;
  to = λ index other is_in alike at lt. ⊎_elim
      (λ before. is.to index other before alike at lt)
      (λ last. absurd (differs (sym (ap (λ (s : WalkState). s.jobs.items) last) ∙ alike)))
      (In-push_cases read state is_in);
}

pub merged_all : (states : List WalkState) (one new : WalkState) → IsMergedOf states states one new → IsMerged states one new
merged_all states one new is = record { jobs = is.jobs; passes = is.passes; row_length = is.row_length; from = is.from; to = is.to }

-- ---- all states
no_element : (i : ℕ) (one : WalkState) → slice_get [] i ≡ Some one → ⊥
no_element i one at = let lt = slice_get_within [] i one at in omega (arith, lt)

-- An index of a list with one more element is an index of the list, or the last one.
push_at : (states : List WalkState) (state one : WalkState) (i : ℕ) → slice_get (states ++ state ∷ []) i ≡ Some one → (slice_get states i ≡ Some one) ⊎ ((i ≡ length states) × (one ≡ state))
push_at [] state one zero at = inr (refl, sym (same_Some state one at))
push_at [] state one (suc i) at = absurd (no_element i one at)
push_at (first ∷ states) state one zero at = inl at
push_at (first ∷ states) state one (suc i) at = ⊎_elim (λ before. inl before) (λ last. inr (ap suc last.0, last.1)) (push_at states state one i at)

pub distinct_push : (states : List WalkState) (state : WalkState) → AreDistinct states → ((other : WalkState) → In other states → other.jobs.items ≡ state.jobs.items → ⊥) → AreDistinct (states ++ state ∷ [])
distinct_push states state are unlike i j one other at_i at_j same =
    ⊎_elim
    (λ before_i. ⊎_elim
    (λ before_j. are i j one other before_i before_j same)
    (λ last_j. absurd (unlike one (In-slice_get states i one before_i) (same ∙ ap (λ (s : WalkState). s.jobs.items) last_j.1)))
    (push_at states state other j at_j))
    (λ last_i. ⊎_elim
    (λ before_j. absurd (unlike other (In-slice_get states j other before_j) (sym same ∙ ap (λ (s : WalkState). s.jobs.items) last_i.1)))
    (λ last_j. last_i.0 ∙ sym last_j.0)
    (push_at states state other j at_j))
    (push_at states state one i at_i)

-- The list has a state for the open jobs of each state of `read`.
pub record AreMergedOf (states read new : List WalkState) : Type 0 where
  pub from : (state : WalkState) → In state new → (one : WalkState) × In one states × IsMerged states one state
  pub to : (one : WalkState) → In one read → (state : WalkState) × In state new × (state.jobs.items ≡ one.jobs.items)
  pub distinct : AreDistinct new

pub none_merged : (states : List WalkState) → AreMergedOf states [] []
none_merged states = record {
  from = λ state i. absurd (not_In_nil i);
  to = λ one i. absurd (not_In_nil i);
  distinct = λ i j one other at _ _. absurd (no_element i one at);
}

pub one_merged : (states read new : List WalkState) (one state : WalkState) → AreMergedOf states read new → In one states → IsMerged states one state
    → ((other : WalkState) → In other new → other.jobs.items ≡ one.jobs.items → ⊥) → AreMergedOf states (read ++ one ∷ []) (new ++ state ∷ [])
one_merged states read new one state are i is unlike = record {
  from = λ other is_in. ⊎_elim
      (λ before. are.from other before)
      (λ last. (one, i, subst (λ (s : WalkState). IsMerged states one s) (sym last) is))
      (In-push_cases new state is_in);
  to = λ other is_in. ⊎_elim
      (λ before. let found = are.to other before in (found.0, In-append_left (state ∷ []) found.1, found.2))
      (λ last. (state, In-append_right new here, is.jobs ∙ ap (λ (s : WalkState). s.jobs.items) (sym last)))
      (In-push_cases read one is_in);
  distinct = distinct_push new state are.distinct (λ other is_in same. unlike other is_in (same ∙ is.jobs));
}

pub none_more_merged : (states read new : List WalkState) (one state : WalkState) → AreMergedOf states read new → In state new → state.jobs.items ≡ one.jobs.items → AreMergedOf states (read ++ one ∷ []) new
none_more_merged states read new one state are i same = record {
  from = are.from;
  distinct = are.distinct;
  to = λ other is_in. ⊎_elim
      (λ before. are.to other before)
      (λ last. (state, i, same ∙ ap (λ (s : WalkState). s.jobs.items) (sym last)))
      (In-push_cases read one is_in);
}

pub all_merged : (states new : List WalkState) → AreMergedOf states states new → AreMerged states new
all_merged states new are = record { from = are.from; to = are.to; distinct = are.distinct }

-- ---- one state, or none
same_as : (state one : WalkState) → In one (state ∷ []) → one ≡ state
same_as state one i = ⊎_elim (λ same. same) (λ later. absurd (not_In_nil later)) (In-cons_cases i)

only_one : (states : List WalkState) → length states ≤ 1 → (one other : WalkState) → In one states → In other states → one ≡ other
only_one [] few one other i j = absurd (not_In_nil i)
only_one (state ∷ []) few one other i j = same_as state one i ∙ sym (same_as state other j)
only_one (first ∷ second ∷ states) few one other i j = absurd (omega (arith, few))

pub single_merged : (states : List WalkState) → length states ≤ 1 → AreMerged states states
single_merged states few = record {
  from = λ state i. (
    state,
    i,
    record {
      jobs = refl;
      passes = refl;
      row_length = refl;
      from = λ index at. (state, i, refl, at);
      to = λ index other j same at lt. subst (λ (s : WalkState). is_at s index ≡ true) (only_one states few other state j i) at;
    },
  );
  to = λ one i. (one, i, refl);
  distinct = λ i j one other at_i at_j same.
      let first = slice_get_within states i one at_i in
      let second = slice_get_within states j other at_j in
      omega (arith, few, first, second);
}
