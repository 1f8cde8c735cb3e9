-- The tables of a state before the first step of a path, and after a submit or a get.
use Rattle.std.proofs.Common.{◌≡◌, ℕ, zero, suc, ◌+◌, ◌<◌, ◌≤◌, ⊎_elim, ◌↔◌, Bool, true, false, cond, ◌&&◌, ◌||◌, eqb, leb, ltb, List, [], ◌∷◌, ◌++◌, length, get_or, replicate, Option, Some, None, refl, sym, ap, subst, ◌∙◌, arith}
use Rattle.std.specs.Prelude.{slice_get}
use Rattle.std.specs.List.{list_any}
use Rattle.std.proofs.lemmas.Bool.{cases_lt, false≢true, le-leb, eqb-true, eqb-false, ne_eqb, or_cases, or_left, or_right}
use Rattle.std.proofs.lemmas.List.{get_or_past, get_or-replicate, length-replicate, replicate_more}
use Rattle.std.proofs.lemmas.Option.{get_or_from_slice_get}
use Rattle.support.specs.In.{In, here}
use Rattle.support.proofs.Members.{In-cons_cases, not_In_nil}
use Rattle.job_bodies.specs.declared.action.Action.{Action}
use Rattle.conformance.specs.declared.open_job.OpenJob.{OpenJob}
use Rattle.conformance.specs.declared.body_gets.BodyGet.{BodyGet}
use Rattle.conformance.specs.declared.step.ActorKind.{ActorKind}
use Rattle.conformance.specs.declared.step.PathStep.{PathStep}
use Rattle.conformance.specs.declared.walk_state.WalkState.{WalkState}
use Rattle.conformance.specs.Path.{Walks, starts, body_moves, count_in, open_class, without, is_submit_of, MayGet}
use Rattle.conformance.specs.BodyGets.{AreGets, get_at, can_pass, pass_after}
use Rattle.conformance.specs.WalkState.{is_at, HasTables, IsAfterSubmit, IsAfterGetOf}
use Rattle.conformance.specs.WalkStates.{AreStatesAt, IsStateOf}
use Rattle.conformance.proofs.OpenCounts.{count_submitted, count_without_other}
use Rattle.conformance.proofs.Walks.{walk_in_body}
use Rattle.conformance.proofs.WalkStates.{walk_moves}

-- ---- the first state
can_pass_none : (o : Option BodyGet) → can_pass o [] ≡ true
can_pass_none None = refl
can_pass_none (Some get) = le-leb 0 get.limit (omega arith)

first_jobs : (kind : ActorKind) (body : List Action) (path : List PathStep) {q : ℕ} {jobs : List OpenJob} → Walks kind body path q 0 jobs → jobs ≡ []
first_jobs kind body path starts = refl
first_jobs kind body path (body_moves action w e h) = first_jobs kind body path w

first_walk : (kind : ActorKind) (body : List Action) (path : List PathStep) (q : ℕ) → q ≤ length body → Walks kind body path q 0 []
first_walk kind body path zero h = starts
first_walk kind body path (suc q) h = walk_moves kind body path q 0 [] (first_walk kind body path q (omega (arith, h))) (omega (arith, h)) (can_pass_none (get_at body q))

only_in : (one state : WalkState) → In one (state ∷ []) → one ≡ state
only_in one state i = ⊎_elim (λ same. same) (λ later. absurd (not_In_nil later)) (In-cons_cases i)

module _ (body : List Action) (state : WalkState) (no_jobs : state.jobs.items ≡ []) (all_pass : state.passes.items ≡ replicate (length body) true) (all_row : state.row.items ≡ replicate (length body) true ++ true ∷ []) where
  whole_row : state.row.items ≡ replicate (length body + 1) true
  whole_row = all_row ∙ replicate_more (length body) true

  first_at : (q : ℕ) → q ≤ length body → is_at state q ≡ true
  first_at q h = ap (λ row. get_or row q false) whole_row ∙ get_or-replicate (length body + 1) q true false (omega (arith, h))

  first_tables : HasTables body state
  first_tables = record {
    row_length = ap length whole_row ∙ length-replicate (length body + 1) true;
    passes_length = ap length all_pass ∙ length-replicate (length body) true;
    passes = λ index lt.
        (ap (λ passes. get_or passes index false) all_pass ∙ get_or-replicate (length body) index true false lt)
        ∙ sym (ap (can_pass (get_at body index)) no_jobs ∙ can_pass_none (get_at body index));
  }

  at_bound : (q : ℕ) → is_at state q ≡ true → q ≤ length body
  at_bound q h =
      ⊎_elim
      (λ lt. let e = first_tables.row_length in omega (arith, lt, e))
      (λ past. absurd (false≢true (sym (get_or_past state.row.items q false past) ∙ h)))
      (cases_lt q (length state.row.items))

  state_at_start : (kind : ActorKind) (path : List PathStep) → IsStateOf kind body path 0 state
  state_at_start kind path = record {
    tables = first_tables;
    begun = (0, first_at 0 (omega arith));
    sound = λ q h. subst (λ jobs. Walks kind body path q 0 jobs) (sym no_jobs) (first_walk kind body path q (at_bound q h));
    closed = λ q lt at passes. first_at (suc q) (omega (arith, lt));
  }

  pub states_at_start : (kind : ActorKind) (path : List PathStep) → AreStatesAt kind body path 0 (state ∷ [])
  states_at_start kind path = record {
    each = λ one i. subst (IsStateOf kind body path 0) (sym (only_in one state i)) (state_at_start kind path);
    complete = λ q jobs w. record {
      state = state;
      is_in = here;
      jobs_are = first_jobs kind body path w ∙ sym no_jobs;
      at = first_at q (walk_in_body kind body path w);
    };
  }

-- ---- whether the body can be at some index
pub begun_from_any : (row : List Bool) → list_any (λ b. b) row ≡ true → (q : ℕ) × (get_or row q false ≡ true)
begun_from_any [] h = absurd (false≢true h)
begun_from_any (b ∷ row) h = ⊎_elim (λ here. (0, here)) (λ later. let found = begun_from_any row later in (suc found.0, found.1)) (or_cases b (list_any (λ x. x) row) h)

pub any_from_at : (row : List Bool) (q : ℕ) → get_or row q false ≡ true → list_any (λ b. b) row ≡ true
any_from_at [] q h = absurd (false≢true h)
any_from_at (b ∷ row) zero h = or_left b (list_any (λ x. x) row) h
any_from_at (b ∷ row) (suc q) h = or_right b (list_any (λ x. x) row) (any_from_at row q h)

-- ---- which gets the body may pass
pass_if : (b : Bool) (class count : ℕ) (get : BodyGet) (old new : List OpenJob) → eqb get.class class ≡ b → count ≡ count_in class new → ((other : ℕ) → eqb class other ≡ false → count_in other new ≡ count_in other old)
    → cond b (leb count get.limit) (leb (count_in get.class old) get.limit) ≡ leb (count_in get.class new) get.limit
pass_if true class count get old new e counted others = ap (λ n. leb n get.limit) (counted ∙ sym (ap (λ d. count_in d new) (eqb-true get.class class e)))
pass_if false class count get old new e counted others =
    let other : eqb class get.class ≡ false = ne_eqb class get.class (λ same. eqb-false get.class class e (sym same)) in
    ap (λ n. leb n get.limit) (sym (others get.class other))

pass_next : (o : Option BodyGet) (class count : ℕ) (old new : List OpenJob) → count ≡ count_in class new → ((other : ℕ) → eqb class other ≡ false → count_in other new ≡ count_in other old)
    → pass_after class count o (can_pass o old) ≡ can_pass o new
pass_next None class count old new counted others = refl
pass_next (Some get) class count old new counted others = pass_if (eqb get.class class) class count get old new refl counted others

plus_zero : (n : ℕ) → n + 0 ≡ n
plus_zero n = omega arith

closes_by : (new : WalkState) (before before_seen row passes_then : List Bool) → before_seen ≡ before → passes_then ≡ new.passes.items → new.row.items ≡ row
    → ((index : ℕ) → index < length passes_then → get_or row (index + 1) false ≡ (get_or before_seen (index + 1) false || (get_or row index false && get_or passes_then index false)))
    → (index : ℕ) → index < length new.passes.items → get_or new.row.items (index + 1) false ≡ (get_or before (index + 1) false || (get_or new.row.items index false && get_or new.passes.items index false))
closes_by new before before_seen row passes_then before_is then_is row_is close_rest index lt =
    let same : length passes_then ≡ length new.passes.items = ap length then_is in
    ap (λ xs. get_or xs (index + 1) false) row_is
    ∙ (close_rest index (omega (arith, lt, same))
    ∙ (ap (λ xs. get_or xs (index + 1) false || (get_or row index false && get_or passes_then index false)) before_is
    ∙ (ap (λ xs. get_or before (index + 1) false || (get_or xs index false && get_or passes_then index false)) (sym row_is)
    ∙ ap (λ xs. get_or before (index + 1) false || (get_or new.row.items index false && get_or xs index false)) then_is)))

module _ (body : List Action) (gets : List (Option BodyGet)) (are_gets : AreGets body gets) (old : WalkState) (tables : HasTables body old) (class count : ℕ) where
  pub passes_next : (jobs : List OpenJob) (passes : List Bool) → count ≡ count_in class jobs → ((other : ℕ) → eqb class other ≡ false → count_in other jobs ≡ count_in other old.jobs.items)
      → ((index : ℕ) → index < length gets → get_or passes index false ≡ pass_after class count (get_or gets index None) (get_or old.passes.items index false))
      → (index : ℕ) → index < length body → get_or passes index false ≡ can_pass (get_at body index) jobs
  passes_next jobs passes counted others each index lt =
      let get_is = get_or_from_slice_get gets index (get_at body index) None (are_gets.each index lt) in
      let same = are_gets.same_length in
      each index (omega (arith, lt, same))
      ∙ (ap (λ o. pass_after class count o (get_or old.passes.items index false)) get_is
      ∙ (ap (pass_after class count (get_at body index)) (tables.passes index lt)
      ∙ pass_next (get_at body index) class count old.jobs.items jobs counted others))

  pub tables_next : (new : WalkState) → count ≡ count_in class new.jobs.items → ((other : ℕ) → eqb class other ≡ false → count_in other new.jobs.items ≡ count_in other old.jobs.items)
      → ((index : ℕ) → index < length gets → get_or new.passes.items index false ≡ pass_after class count (get_or gets index None) (get_or old.passes.items index false))
      → length new.passes.items ≡ length old.passes.items → length new.row.items ≡ length old.row.items → HasTables body new
  tables_next new counted others each passes_same row_same = record {
    row_length = row_same ∙ tables.row_length;
    passes_length = passes_same ∙ tables.passes_length;
    passes = passes_next new.jobs.items new.passes.items counted others each;
  }

  -- After a submit.
  pub after_submit_of : (job : ℕ) (new : WalkState) (shifted : List Bool) → new.jobs.items ≡ old.jobs.items ++ record { job = job; class = class } ∷ [] → count ≡ count_in class new.jobs.items
      → ((index : ℕ) → index < length gets → get_or new.passes.items index false ≡ pass_after class count (get_or gets index None) (get_or old.passes.items index false))
      → length new.passes.items ≡ length old.passes.items → length new.row.items ≡ length old.row.items
      → get_or shifted 0 false ≡ false
      → ((index : ℕ) → index < length body → get_or shifted (index + 1) false ≡ (get_or old.row.items index false && is_submit_of class (slice_get body index)))
      → get_or new.row.items 0 false ≡ get_or shifted 0 false
      → ((index : ℕ) → index < length new.passes.items → get_or new.row.items (index + 1) false ≡ (get_or shifted (index + 1) false || (get_or new.row.items index false && get_or new.passes.items index false)))
      → IsAfterSubmit body job class old new
  after_submit_of job new shifted jobs counted each passes_same row_same shift_first shift_rest close_first close_rest =
      let others : (other : ℕ) → eqb class other ≡ false → count_in other new.jobs.items ≡ count_in other old.jobs.items =
      λ other ne. ap (count_in other) jobs ∙ (count_submitted other job class old.jobs.items ∙ (ap (λ (b : Bool). count_in other old.jobs.items + cond b 1 0) ne ∙ plus_zero (count_in other old.jobs.items))) in
      let new_tables = tables_next new counted others each passes_same row_same in
      record {
        tables = new_tables;
        jobs = jobs;
        first = close_first ∙ shift_first;
        rest = λ index lt.
            let same = new_tables.passes_length in
            close_rest index (omega (arith, lt, same))
            ∙ (ap (λ b. b || (get_or new.row.items index false && get_or new.passes.items index false)) (shift_rest index lt)
            ∙ ap (λ b. (get_or old.row.items index false && is_submit_of class (slice_get body index)) || (get_or new.row.items index false && b)) (new_tables.passes index lt));
      }

  -- After a get.
  pub after_get_of : (kind : ActorKind) (job end : ℕ) (new : WalkState) (cut : List Bool) → open_class job old.jobs.items ≡ Some class → new.jobs.items ≡ without job old.jobs.items → count ≡ count_in class new.jobs.items
      → ((index : ℕ) → index < length gets → get_or new.passes.items index false ≡ pass_after class count (get_or gets index None) (get_or old.passes.items index false))
      → length new.passes.items ≡ length old.passes.items → length new.row.items ≡ length old.row.items
      → ((index : ℕ) → index ≤ length body → (ltb index end ≡ true) ↔ MayGet kind body index class)
      → ((index : ℕ) → get_or cut index false ≡ (get_or old.row.items index false && ltb index end))
      → get_or new.row.items 0 false ≡ get_or cut 0 false
      → ((index : ℕ) → index < length new.passes.items → get_or new.row.items (index + 1) false ≡ (get_or cut (index + 1) false || (get_or new.row.items index false && get_or new.passes.items index false)))
      → IsAfterGetOf kind body job class old new
  after_get_of kind job end new cut is_open jobs counted each passes_same row_same is_end cut_at close_first close_rest =
      let others : (other : ℕ) → eqb class other ≡ false → count_in other new.jobs.items ≡ count_in other old.jobs.items =
      λ other ne. ap (count_in other) jobs ∙ count_without_other other class job old.jobs.items is_open ne in
      let new_tables = tables_next new counted others each passes_same row_same in
      record {
        tables = new_tables;
        jobs = jobs;
        end = end;
        is_end = is_end;
        first = close_first ∙ cut_at 0;
        rest = λ index lt.
            let same = new_tables.passes_length in
            close_rest index (omega (arith, lt, same))
            ∙ (ap (λ b. b || (get_or new.row.items index false && get_or new.passes.items index false)) (cut_at (index + 1))
            ∙ ap (λ b. (get_or old.row.items (index + 1) false && ltb (index + 1) end) || (get_or new.row.items index false && b)) (new_tables.passes index lt));
      }

  -- The same, from what the steps of the function give: each list was written in its turn.
  pub after_submit_by : (job : ℕ) (new : WalkState) (jobs_seen : List OpenJob) (passes_seen passes row_seen shifted shifted_seen row passes_then : List Bool)
      → new.jobs.items ≡ old.jobs.items ++ record { job = job; class = class } ∷ [] → jobs_seen ≡ new.jobs.items → count ≡ count_in class jobs_seen
      → passes_seen ≡ old.passes.items → length passes ≡ length passes_seen → new.passes.items ≡ passes
      → ((index : ℕ) → index < length gets → get_or passes index false ≡ pass_after class count (get_or gets index None) (get_or passes_seen index false))
      → row_seen ≡ old.row.items → length shifted ≡ length row_seen → get_or shifted 0 false ≡ false
      → ((index : ℕ) → index < length body → get_or shifted (index + 1) false ≡ (get_or row_seen index false && is_submit_of class (slice_get body index)))
      → shifted_seen ≡ shifted → passes_then ≡ new.passes.items → length row ≡ length shifted_seen → new.row.items ≡ row
      → get_or row 0 false ≡ get_or shifted_seen 0 false
      → ((index : ℕ) → index < length passes_then → get_or row (index + 1) false ≡ (get_or shifted_seen (index + 1) false || (get_or row index false && get_or passes_then index false)))
      → IsAfterSubmit body job class old new
  after_submit_by job new jobs_seen passes_seen passes row_seen shifted shifted_seen row passes_then jobs jobs_seen_is counted passes_seen_is passes_len passes_is each row_seen_is shift_len shift_first shift_rest shifted_is then_is row_len row_is close_first close_rest =
      after_submit_of job new shifted jobs (counted ∙ ap (count_in class) jobs_seen_is)
      (λ index lt. ap (λ xs. get_or xs index false) passes_is ∙ (each index lt ∙ ap (λ xs. pass_after class count (get_or gets index None) (get_or xs index false)) passes_seen_is))
      (ap length passes_is ∙ (passes_len ∙ ap length passes_seen_is))
      (ap length row_is ∙ (row_len ∙ (ap length shifted_is ∙ (shift_len ∙ ap length row_seen_is))))
      shift_first
      (λ index lt. shift_rest index lt ∙ ap (λ xs. get_or xs index false && is_submit_of class (slice_get body index)) row_seen_is)
      (ap (λ xs. get_or xs 0 false) row_is ∙ (close_first ∙ ap (λ xs. get_or xs 0 false) shifted_is))
      (closes_by new shifted shifted_seen row passes_then shifted_is then_is row_is close_rest)

  pub after_get_by : (kind : ActorKind) (job end : ℕ) (new : WalkState) (jobs_seen : List OpenJob) (passes_seen passes row_seen cut cut_seen row passes_then : List Bool)
      → open_class job old.jobs.items ≡ Some class → new.jobs.items ≡ without job old.jobs.items → jobs_seen ≡ new.jobs.items → count ≡ count_in class jobs_seen
      → passes_seen ≡ old.passes.items → length passes ≡ length passes_seen → new.passes.items ≡ passes
      → ((index : ℕ) → index < length gets → get_or passes index false ≡ pass_after class count (get_or gets index None) (get_or passes_seen index false))
      → ((index : ℕ) → index ≤ length body → (ltb index end ≡ true) ↔ MayGet kind body index class)
      → row_seen ≡ old.row.items → length cut ≡ length row_seen
      → ((index : ℕ) → get_or cut index false ≡ (get_or row_seen index false && ltb index end))
      → cut_seen ≡ cut → passes_then ≡ new.passes.items → length row ≡ length cut_seen → new.row.items ≡ row
      → get_or row 0 false ≡ get_or cut_seen 0 false
      → ((index : ℕ) → index < length passes_then → get_or row (index + 1) false ≡ (get_or cut_seen (index + 1) false || (get_or row index false && get_or passes_then index false)))
      → IsAfterGetOf kind body job class old new
  after_get_by kind job end new jobs_seen passes_seen passes row_seen cut cut_seen row passes_then is_open jobs jobs_seen_is counted passes_seen_is passes_len passes_is each is_end row_seen_is cut_len cut_at cut_is then_is row_len row_is close_first close_rest =
      after_get_of kind job end new cut is_open jobs (counted ∙ ap (count_in class) jobs_seen_is)
      (λ index lt. ap (λ xs. get_or xs index false) passes_is ∙ (each index lt ∙ ap (λ xs. pass_after class count (get_or gets index None) (get_or xs index false)) passes_seen_is))
      (ap length passes_is ∙ (passes_len ∙ ap length passes_seen_is))
      (ap length row_is ∙ (row_len ∙ (ap length cut_is ∙ (cut_len ∙ ap length row_seen_is))))
      is_end
      (λ index. cut_at index ∙ ap (λ xs. get_or xs index false && ltb index end) row_seen_is)
      (ap (λ xs. get_or xs 0 false) row_is ∙ (close_first ∙ ap (λ xs. get_or xs 0 false) cut_is))
      (closes_by new cut cut_seen row passes_then cut_is then_is row_is close_rest)
