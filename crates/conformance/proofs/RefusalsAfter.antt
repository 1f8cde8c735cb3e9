-- The facts about the refusals of a recording, after one more line.
use Rattle.std.proofs.Common.{◌≡◌, ◌+◌, ℕ, ◌==◌, ◌||◌, Bool, true, false, if◌then◌else◌, List, [], ◌∷◌, ◌++◌, length, is_some, Option, Some, None, slice_get, refl, ap, sym, ◌∙◌, append-nil}
use Rattle.std.specs.List.{list_any, filter_map}
use Rattle.std.specs.Option.{option_map, option_and_then, option_to_list}
use Rattle.std.proofs.lemmas.Bool.{eq-eqb}
use Rattle.std.proofs.lemmas.List.Folds.{list_any-append}
use Rattle.support.specs.Numbered.{value_at}
use Rattle.job_bodies.specs.Plan.{Plan}
use Rattle.recordings.specs.Before.{has_started}
use Rattle.recordings.specs.LineParts.{starts_job, refuses_job}
use Rattle.recordings.specs.LineSteps.{with_lines_before, is_refused}
use Rattle.recordings.specs.declared.recording_line.Line.{Line}
use Rattle.recordings.specs.declared.recording_line.Line.TheVariants as code
use Rattle.recordings.specs.RecordingLine.{RecordedLine, Submits, Refused, line_view}
use Rattle.recordings.specs.declared.recording_line.RecordedActor.{RecordedActor}
use Rattle.recordings.specs.declared.invalidation.Invalidation.{Invalidation}
use Rattle.recordings.specs.declared.invalidation.InvalidatingEvent.TheVariants as event
use Rattle.conformance.specs.declared.handlers.Handlers.{Handlers}
use Rattle.conformance.specs.declared.refused_jobs.RefusedJobs.{RefusedJobs}
use Rattle.conformance.specs.declared.rejections.Rejections.{Rejections}
use Rattle.conformance.specs.Handlers.{AreHandlersOf, NotesLine}
use Rattle.conformance.specs.JobSet.{has_job}
use Rattle.conformance.specs.PoolComparison.{has_name}
use Rattle.conformance.specs.PoolDeviations.{pool_named}
use Rattle.conformance.specs.RefusedJobs.{AreFactsOf, or_else, planned_if, planned_by}
use Rattle.conformance.specs.RejectionRule.{is_abort, is_caller_runs, is_discard, has_other_handler, shuts, is_shut, acts, has_acted, pool_by, submit_pool, rejecting_pool, pool_of_rejection, pool_of_job, unless_rejected, pool_of_refusal, pools_in, refusing_pools_in, refusal_unless, refusal_by, refusals_in}
use Rattle.conformance.specs.Rejections.{AreRejectionsOfPrefix, pools_after, refusal_after, NotesRefusal}
use Rattle.conformance.proofs.LineByLine.{any_more, filter_map_more, lines_before_more}

-- ---- the first element
pub first_or : {X : Type 0} (xs : List X) (more : Option X) → slice_get (xs ++ option_to_list more) 0 ≡ or_else (slice_get xs 0) more
first_or [] None = refl
first_or [] (Some x) = refl
first_or (first ∷ xs) more = refl

map_or : {X Y : Type 0} (f : X → Y) (a b : Option X) → option_map f (or_else a b) ≡ or_else (option_map f a) (option_map f b)
map_or f None b = refl
map_or f (Some x) b = refl

-- ---- the handlers
pub handlers_after : (before : List RecordedLine) (line : RecordedLine) (old new : Handlers) → AreHandlersOf before old → NotesLine old line new → AreHandlersOf (before ++ line ∷ []) new
handlers_after before line old new are notes = record {
  not_abort = λ pool. notes.not_abort pool ∙ ap (λ (b : Bool). b || has_other_handler is_abort pool line) (are.not_abort pool) ∙ sym (any_more (has_other_handler is_abort pool) before line);
  not_caller_runs = λ pool. notes.not_caller_runs pool ∙ ap (λ (b : Bool). b || has_other_handler is_caller_runs pool line) (are.not_caller_runs pool) ∙ sym (any_more (has_other_handler is_caller_runs pool) before line);
  not_discard = λ pool. notes.not_discard pool ∙ ap (λ (b : Bool). b || has_other_handler is_discard pool line) (are.not_discard pool) ∙ sym (any_more (has_other_handler is_discard pool) before line);
  shut = λ pool. notes.shut pool ∙ ap (λ (b : Bool). b || shuts pool line) (are.shut pool) ∙ sym (any_more (shuts pool) before line);
}

-- ---- the refused jobs
pub refused_more : (before : List RecordedLine) (line : RecordedLine) (job : ℕ) → is_refused (before ++ line ∷ []) job ≡ (is_refused before job || refuses_job job line)
unfolding is_refused
refused_more before line job = any_more (refuses_job job) before line

pub acted_more : (before : List RecordedLine) (line : RecordedLine) (job : ℕ) → has_acted (before ++ line ∷ []) job ≡ (has_acted before job || acts job line)
unfolding has_acted
acted_more before line job = any_more (acts job) before line

pub started_more : (before : List RecordedLine) (line : RecordedLine) (job : ℕ) → has_started (before ++ line ∷ []) job ≡ (has_started before job || starts_job job line)
unfolding has_started
started_more before line job = any_more (starts_job job) before line

pub submit_pool_more : (before : List RecordedLine) (line : RecordedLine) (job : ℕ) → submit_pool (before ++ line ∷ []) job ≡ or_else (submit_pool before job) (pool_by job line)
unfolding submit_pool
submit_pool_more before line job = ap (λ (pools : List (List ℕ)). slice_get pools 0) (filter_map_more (pool_by job) before line) ∙ first_or (filter_map (pool_by job) before) (pool_by job line)

planned_if_is : (plan : Plan) (is_submit : Bool) (pool : List ℕ) → planned_if is_submit (pool_named plan pool) ≡ option_map (pool_named plan) (if is_submit then Some pool else None)
planned_if_is plan true pool = refl
planned_if_is plan false pool = refl

planned_is : (plan : Plan) (job : ℕ) (line : RecordedLine) → planned_by plan job line ≡ option_map (pool_named plan) (pool_by job line)
planned_is plan job (Submits actor one class pool) = planned_if_is plan (one == job) pool
planned_is plan job line = refl

pub no_facts : (plan : Plan) (jobs : RefusedJobs) → ((job : ℕ) → value_at jobs.pools job ≡ None) → ((job : ℕ) → has_job jobs.acted job ≡ false) → ((job : ℕ) → has_job jobs.started job ≡ false) → AreFactsOf plan [] jobs
unfolding submit_pool has_acted has_started
no_facts plan jobs pools acted started = record { pools = λ job refused. pools job; acted = λ job refused. acted job; started = λ job refused. started job }

-- The effect of a line on the facts.
pub record NotesFacts (plan : Plan) (old : RefusedJobs) (line : RecordedLine) (new : RefusedJobs) : Type 0 where
  pub refused : new.refused ≡ old.refused
  pub pools : (job : ℕ) → has_job old.refused job ≡ true → value_at new.pools job ≡ or_else (value_at old.pools job) (planned_by plan job line)
  pub acted : (job : ℕ) → has_job old.refused job ≡ true → has_job new.acted job ≡ (has_job old.acted job || acts job line)
  pub started : (job : ℕ) → has_job old.refused job ≡ true → has_job new.started job ≡ (has_job old.started job || starts_job job line)

pub facts_after : (plan : Plan) (before : List RecordedLine) (line : RecordedLine) (old new : RefusedJobs) → AreFactsOf plan before old → NotesFacts plan old line new → AreFactsOf plan (before ++ line ∷ []) new
facts_after plan before line old new are notes =
    let was : (job : ℕ) → has_job new.refused job ≡ true → has_job old.refused job ≡ true = λ job refused. ap (λ jobs. has_job jobs job) (sym notes.refused) ∙ refused in
    record {
      pools = λ job refused.
          notes.pools job (was job refused)
          ∙ ap (λ (there : Option (Option ℕ)). or_else there (planned_by plan job line)) (are.pools job (was job refused))
          ∙ ap (or_else (option_map (pool_named plan) (submit_pool before job))) (planned_is plan job line)
          ∙ sym (map_or (pool_named plan) (submit_pool before job) (pool_by job line))
          ∙ ap (option_map (pool_named plan)) (sym (submit_pool_more before line job));
      acted = λ job refused. notes.acted job (was job refused) ∙ ap (λ (b : Bool). b || acts job line) (are.acted job (was job refused)) ∙ sym (acted_more before line job);
      started = λ job refused. notes.started job (was job refused) ∙ ap (λ (b : Bool). b || starts_job job line) (are.started job (was job refused)) ∙ sym (started_more before line job);
    }

-- ---- the rejections
pub shut_more : (before : List RecordedLine) (line : RecordedLine) (name : List ℕ) → is_shut (before ++ line ∷ []) name ≡ (is_shut before name || shuts name line)
unfolding is_shut
shut_more before line name = any_more (shuts name) before line

pub pools_more : (plan : Plan) (lines before : List RecordedLine) (line : RecordedLine) → pools_in plan lines (before ++ line ∷ []) ≡ pools_in plan lines before ++ option_to_list (pool_of_rejection plan lines before line)
unfolding pools_in
pools_more plan lines before line =
    let pool : List RecordedLine × RecordedLine → Option ℕ = λ p. pool_of_rejection plan lines p.0 p.1 in
    ap (filter_map pool) (lines_before_more before line) ∙ filter_map_more pool (with_lines_before before) (before, line)

pub refusing_more : (plan : Plan) (lines before : List RecordedLine) (line : RecordedLine) → refusing_pools_in plan lines (before ++ line ∷ []) ≡ refusing_pools_in plan lines before ++ option_to_list (pool_of_refusal plan lines before line)
unfolding refusing_pools_in
refusing_more plan lines before line =
    let pool : List RecordedLine × RecordedLine → Option ℕ = λ p. pool_of_refusal plan lines p.0 p.1 in
    ap (filter_map pool) (lines_before_more before line) ∙ filter_map_more pool (with_lines_before before) (before, line)

pub refusals_more : (plan : Plan) (lines before : List RecordedLine) (line : RecordedLine) → refusals_in plan lines (before ++ line ∷ []) ≡ refusals_in plan lines before ++ option_to_list (refusal_by plan lines before line)
unfolding refusals_in
refusals_more plan lines before line =
    let refusal : List RecordedLine × RecordedLine → Option Invalidation = λ p. refusal_by plan lines p.0 p.1 in
    ap (filter_map refusal) (lines_before_more before line) ∙ filter_map_more refusal (with_lines_before before) (before, line)

first_more : (plan : Plan) (lines before : List RecordedLine) (line : RecordedLine) → slice_get (refusals_in plan lines (before ++ line ∷ [])) 0 ≡ or_else (slice_get (refusals_in plan lines before) 0) (refusal_by plan lines before line)
first_more plan lines before line = ap (λ (refusals : List Invalidation). slice_get refusals 0) (refusals_more plan lines before line) ∙ first_or (refusals_in plan lines before) (refusal_by plan lines before line)

pub none_in_prefix : (plan : Plan) (lines : List RecordedLine) (rejections : Rejections) → rejections.pools.items ≡ [] → rejections.refusing.items ≡ [] → rejections.first_refusal ≡ None → ((name : List ℕ) → has_name rejections.shut name ≡ false) → AreRejectionsOfPrefix plan lines [] rejections
unfolding pools_in refusing_pools_in refusals_in is_shut
none_in_prefix plan lines rejections pools refusing first shut = record { pools = pools; refusing = refusing; first = first; shut = shut }

-- A line that neither refuses a job nor shuts a pool down.
or_nothing : {X : Type 0} (there : Option X) → or_else there None ≡ there
or_nothing None = refl
or_nothing (Some x) = refl

pub or_false : (b : Bool) → (b || false) ≡ b
or_false true = refl
or_false false = refl

pub record NotesOther (line : RecordedLine) (old new : Rejections) : Type 0 where
  pub pools : new.pools.items ≡ old.pools.items
  pub refusing : new.refusing.items ≡ old.refusing.items
  pub first : new.first_refusal ≡ old.first_refusal
  pub shut : (name : List ℕ) → has_name new.shut name ≡ (has_name old.shut name || shuts name line)

other_in_prefix : (plan : Plan) (lines before : List RecordedLine) (line : RecordedLine) (old new : Rejections) → pool_of_rejection plan lines before line ≡ None → pool_of_refusal plan lines before line ≡ None → refusal_by plan lines before line ≡ None → AreRejectionsOfPrefix plan lines before old → NotesOther line old new
    → AreRejectionsOfPrefix plan lines (before ++ line ∷ []) new
other_in_prefix plan lines before line old new no_pool no_refusing no_refusal are notes = record {
  pools = notes.pools ∙ are.pools ∙ sym (append-nil (pools_in plan lines before)) ∙ ap (λ (o : Option ℕ). pools_in plan lines before ++ option_to_list o) (sym no_pool) ∙ sym (pools_more plan lines before line);
  refusing = notes.refusing ∙ are.refusing ∙ sym (append-nil (refusing_pools_in plan lines before)) ∙ ap (λ (o : Option ℕ). refusing_pools_in plan lines before ++ option_to_list o) (sym no_refusing) ∙ sym (refusing_more plan lines before line);
  first = notes.first ∙ are.first ∙ sym (or_nothing (slice_get (refusals_in plan lines before) 0)) ∙ ap (or_else (slice_get (refusals_in plan lines before) 0)) (sym no_refusal) ∙ sym (first_more plan lines before line);
  shut = λ name. notes.shut name ∙ ap (λ (b : Bool). b || shuts name line) (are.shut name) ∙ sym (shut_more before line name);
}

-- A line that refuses no job.
abbrev pub refuses_none : RecordedLine → Bool
refuses_none (Refused actor job) = false
refuses_none line = true

pub no_pool_by : (plan : Plan) (lines before : List RecordedLine) (line : RecordedLine) → refuses_none line ≡ true → pool_of_rejection plan lines before line ≡ None
no_pool_by plan lines before (Refused actor job) other = absurd (let e : false ≡ true = other in cc)
no_pool_by plan lines before line other = refl

pub no_refusing_by : (plan : Plan) (lines before : List RecordedLine) (line : RecordedLine) → refuses_none line ≡ true → pool_of_refusal plan lines before line ≡ None
no_refusing_by plan lines before (Refused actor job) other = absurd (let e : false ≡ true = other in cc)
no_refusing_by plan lines before line other = refl

pub no_refusal_by : (plan : Plan) (lines before : List RecordedLine) (line : RecordedLine) → refuses_none line ≡ true → refusal_by plan lines before line ≡ None
no_refusal_by plan lines before (Refused actor job) other = absurd (let e : false ≡ true = other in cc)
no_refusal_by plan lines before line other = refl

pub other_after : (plan : Plan) (lines before : List RecordedLine) (line : RecordedLine) (old new : Rejections) → refuses_none line ≡ true → AreRejectionsOfPrefix plan lines before old → NotesOther line old new → AreRejectionsOfPrefix plan lines (before ++ line ∷ []) new
other_after plan lines before line old new other are notes = other_in_prefix plan lines before line old new (no_pool_by plan lines before line other) (no_refusing_by plan lines before line other) (no_refusal_by plan lines before line other) are notes

-- A line that refuses a job.
refusal_is : (pool : Option ℕ) (refusal : Invalidation) (first : Option Invalidation) → refusal_after pool refusal first ≡ or_else first (refusal_unless (is_some pool) refusal)
refusal_is None refusal first = refl
refusal_is (Some pool) refusal first = sym (or_nothing first)

pub refusal_after_line : (plan : Plan) (lines before : List RecordedLine) (number : ℕ) (actor : RecordedActor) (job : ℕ) (old new : Rejections) → number ≡ length before + 1 → AreRejectionsOfPrefix plan lines before old
    → NotesRefusal (rejecting_pool plan lines before job) (pool_of_job plan lines job) number actor job old new → AreRejectionsOfPrefix plan lines (before ++ Refused actor job ∷ []) new
refusal_after_line plan lines before number actor job old new is are notes =
    let line : RecordedLine = Refused actor job in
    let pool = rejecting_pool plan lines before job in
    record {
      pools = notes.pools ∙ ap (pools_after pool) are.pools ∙ sym (pools_more plan lines before line);
      refusing = notes.refusing ∙ ap (pools_after (unless_rejected pool (pool_of_job plan lines job))) are.refusing ∙ sym (refusing_more plan lines before line);
      first = notes.first
          ∙ ap (λ (n : ℕ). refusal_after pool (record { line = n; event = event.Refused actor job }) old.first_refusal) is
          ∙ refusal_is pool (record { line = length before + 1; event = event.Refused actor job }) old.first_refusal
          ∙ ap (λ (first : Option Invalidation). or_else first (refusal_by plan lines before line)) are.first
          ∙ sym (first_more plan lines before line);
      shut = λ name. ap (λ shut. has_name shut name) notes.shut ∙ are.shut name ∙ sym (or_false (is_shut before name)) ∙ sym (shut_more before line name);
    }

-- ---- lookups
pub none_refused : (job : ℕ) → is_refused [] job ≡ false
unfolding is_refused
none_refused job = refl

any_front : {X : Type 0} (p : X → Bool) (front rest : List X) → list_any p front ≡ true → list_any p (front ++ rest) ≡ true
any_front p front rest h = list_any-append p front rest ∙ ap (λ (b : Bool). b || list_any p rest) h

or_true : (b : Bool) → (b || true) ≡ true
or_true true = refl
or_true false = refl

-- A job that one of the lines refuses is refused.
pub refused_there : (lines before after : List RecordedLine) (line : RecordedLine) → lines ≡ (before ++ line ∷ []) ++ after → (job : ℕ) → refuses_job job line ≡ true → is_refused lines job ≡ true
unfolding is_refused
refused_there lines before after line is job h =
    ap (list_any (refuses_job job)) is
    ∙ any_front (refuses_job job) (before ++ line ∷ []) after (any_more (refuses_job job) before line ∙ ap (λ (b : Bool). list_any (refuses_job job) before || b) h ∙ or_true (list_any (refuses_job job) before))

-- The stored pool of a job is that of its `submit` line.
abbrev pub flat : {X : Type 0} → Option (Option X) → Option X
flat None = None
flat (Some there) = there

flat_map_is : {X Y : Type 0} (f : X → Option Y) (there : Option X) → flat (option_map f there) ≡ option_and_then f there
flat_map_is f None = refl
flat_map_is f (Some x) = refl

pub flattened : (plan : Plan) (lines : List RecordedLine) (job : ℕ) (stored : Option (Option ℕ)) → stored ≡ option_map (pool_named plan) (submit_pool lines job) → flat stored ≡ option_and_then (pool_named plan) (submit_pool lines job)
flattened plan lines job stored is = ap flat is ∙ flat_map_is (pool_named plan) (submit_pool lines job)

-- ---- lines
pub own_refusal : (actor : RecordedActor) (job : ℕ) → refuses_job job (Refused actor job) ≡ true
own_refusal actor job = eq-eqb job job refl

-- A line other than `refused` and `shutdown` refuses no job and shuts no pool down.
pub is_other : (line : Line) → ((actor : RecordedActor) (job : ℕ) → line ≡ code.Refused actor job → ⊥) → ((pool : _) → line ≡ code.ShutDown pool → ⊥) → (refuses_none (line_view line) ≡ true) × ((name : List ℕ) → shuts name (line_view line) ≡ false)
is_other (code.Refused actor job) not_refused not_shut = absurd (not_refused actor job refl)
is_other (code.ShutDown pool) not_refused not_shut = absurd (not_shut pool refl)
is_other line not_refused not_shut = (refl, λ name. refl)
