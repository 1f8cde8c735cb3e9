-- The stored submitters of unclaimed jobs are correct after one more line.
use Rattle.std.proofs.Common.{◌≡◌, ◌≤◌, ℕ, ◌+◌, ◌==◌, ◌&&◌, ◌||◌, not, Bool, true, false, if◌then◌else◌, List, [], ◌∷◌, ◌++◌, length, map, Option, Some, None, slice_get, refl, ap, sym, ◌∙◌, arith}
use Rattle.std.specs.Option.{option_to_list}
use Rattle.std.specs.List.{list_any, filter_map}
use Rattle.std.proofs.lemmas.List.{map-append}
use Rattle.recordings.specs.declared.recording_line.RecordedActor.{RecordedActor}
use Rattle.recordings.specs.RecordingLine.{RecordedLine, Submits, Got}
use Rattle.recordings.specs.LineParts.{is_same_actor, is_actor, is_submit}
use Rattle.recordings.specs.Before.{submits}
use Rattle.recordings.specs.Rules.{has_next_number}
use Rattle.recordings.proofs.Appended.{submits_more}
use Rattle.recordings.proofs.Keeping.{Keeps}
use Rattle.recordings.specs.LineSteps.{with_lines_before}
use Rattle.recordings.specs.PathsOfLines.{KeepsRules}
use Rattle.recordings.proofs.Tests.{neither, any_more, filter_map_more}
use Rattle.recordings.proofs.ByLast.{by_kept}
use Rattle.recordings.proofs.LaterNumbers.{next_job, next_number}
use Rattle.recordings.specs.declared.foreign_get.ForeignGet.{ForeignGet}
use Rattle.recordings.specs.declared.unclaimed.UnclaimedJobs.{UnclaimedJobs}
use Rattle.recordings.specs.ForeignGets.{submitter_by, submitter_of, is_own_get, is_got_by_own, is_foreign, foreign_get_of, foreign_gets, first_foreign_get}
use Rattle.recordings.specs.UnclaimedJobs.{submitter_in, entry_after_get, entry_after_line, foreign_get_by, with_foreign}

-- ---- the submitter of a job, and whether the submitter got it, after one more line
abbrev or_else : {X : Type 0} → Option X → Option X → Option X
or_else None next = next
or_else (Some x) next = Some x

first_or : {X : Type 0} (xs : List X) (more : Option X) → slice_get (xs ++ option_to_list more) 0 ≡ or_else (slice_get xs 0) more
first_or [] None = refl
first_or [] (Some x) = refl
first_or (first ∷ xs) more = refl

lines_before_more : (before : List RecordedLine) (line : RecordedLine) → with_lines_before (before ++ line ∷ []) ≡ with_lines_before before ++ (before, line) ∷ []
lines_before_more [] line = refl
lines_before_more (first ∷ before) line =
    let after : List RecordedLine × RecordedLine → List RecordedLine × RecordedLine = λ p. (first ∷ p.0, p.1) in
    ap (λ (ps : List (List RecordedLine × RecordedLine)). ([], first) ∷ map after ps) (lines_before_more before line)
    ∙ ap (λ (ps : List (List RecordedLine × RecordedLine)). ([], first) ∷ ps) (map-append after (with_lines_before before) ((before, line) ∷ []))

submitter_more : (before : List RecordedLine) (line : RecordedLine) (job : ℕ) → submitter_of (before ++ line ∷ []) job ≡ or_else (submitter_of before job) (submitter_by job line)
unfolding submitter_of
submitter_more before line job = ap (λ (actors : List RecordedActor). slice_get actors 0) (filter_map_more (submitter_by job) before line) ∙ first_or (filter_map (submitter_by job) before) (submitter_by job line)

got_more : (before : List RecordedLine) (line : RecordedLine) (job : ℕ) → is_got_by_own (before ++ line ∷ []) job ≡ (is_got_by_own before job || is_own_get job before line)
unfolding is_got_by_own
got_more before line job =
    let own : List RecordedLine × RecordedLine → Bool = λ p. is_own_get job p.0 p.1 in
    ap (list_any own) (lines_before_more before line) ∙ any_more own (with_lines_before before) (before, line)

gets_more : (before : List RecordedLine) (line : RecordedLine) → foreign_gets (before ++ line ∷ []) ≡ foreign_gets before ++ option_to_list (foreign_get_of before line)
unfolding foreign_gets
gets_more before line =
    let foreign : List RecordedLine × RecordedLine → Option ForeignGet = λ p. foreign_get_of p.0 p.1 in
    ap (filter_map foreign) (lines_before_more before line) ∙ filter_map_more foreign (with_lines_before before) (before, line)

foreign_more : (before : List RecordedLine) (line : RecordedLine) → first_foreign_get (before ++ line ∷ []) ≡ or_else (first_foreign_get before) (foreign_get_of before line)
foreign_more before line = ap (λ (gets : List ForeignGet). slice_get gets 0) (gets_more before line) ∙ first_or (foreign_gets before) (foreign_get_of before line)

-- ---- before the first line
pub none_submitted : (job : ℕ) → submitter_of [] job ≡ None
unfolding submitter_of
none_submitted job = refl

pub none_got : (job : ℕ) → is_got_by_own [] job ≡ false
unfolding is_got_by_own
none_got job = refl

pub none_foreign : first_foreign_get [] ≡ None
unfolding foreign_gets
none_foreign = refl

-- ---- a job that was not submitted yet
record IsFresh (lines : List RecordedLine) (job : ℕ) : Type 0 where
  submitter : submitter_of lines job ≡ None
  got : is_got_by_own lines job ≡ false

unsubmitted_past : (before : List RecordedLine) (line : RecordedLine) (j : ℕ) → has_next_number before line ≡ true → submits before + (if is_submit line then 1 else 0) ≤ j → submitter_by j line ≡ None
unsubmitted_past before (Submits actor job class pool) j next past =
    let other : (job == j) ≡ false = grind (arith, next, past) in
    ap (λ (b : Bool). if b then Some actor else None) other
unsubmitted_past before line j next past = refl

and_false : (a : Bool) → (a && false) ≡ false
and_false true = refl
and_false false = refl

unclaimed_past : (before : List RecordedLine) (line : RecordedLine) (j : ℕ) → submitter_of before j ≡ None → is_own_get j before line ≡ false
unclaimed_past before (Got actor job) j none = ap (λ who. (job == j) && is_actor actor who) none ∙ and_false (job == j)
unclaimed_past before line j none = refl

fresh_more : (before : List RecordedLine) (line : RecordedLine) (j : ℕ) → IsFresh before j → submitter_by j line ≡ None → IsFresh (before ++ line ∷ []) j
fresh_more before line j fresh unsubmitted = record {
  submitter = submitter_more before line j ∙ (ap (λ who. or_else who (submitter_by j line)) fresh.submitter ∙ unsubmitted);
  got = got_more before line j ∙ neither (is_got_by_own before j) (is_own_get j before line) fresh.got (unclaimed_past before line j fresh.submitter);
}

fresh_job : (lines : List RecordedLine) → KeepsRules lines → (j : ℕ) → submits lines ≤ j → IsFresh lines j
fresh_job =
    by_kept (λ lines. (j : ℕ) → submits lines ≤ j → IsFresh lines j) (λ j past. record { submitter = none_submitted j; got = none_got j })
    (λ before line kept k h j past.
    let all : submits before + (if is_submit line then 1 else 0) ≤ j = rw (← submits_more before line) past in
    fresh_more before line j (h j (omega arith)) (unsubmitted_past before line j (next_number before line k) all))

-- ---- the entry of a job
abbrev pub unclaimed_of : Bool → Option RecordedActor → Option RecordedActor
unclaimed_of got submitter = if got then None else submitter

abbrev unclaimed_there : List RecordedLine → ℕ → Option RecordedActor
unclaimed_there lines job = unclaimed_of (is_got_by_own lines job) (submitter_of lines job)

with_last : (before : List RecordedLine) (line : RecordedLine) (job : ℕ) → unclaimed_there (before ++ line ∷ []) job ≡ unclaimed_of (is_got_by_own before job || is_own_get job before line) (or_else (submitter_of before job) (submitter_by job line))
with_last before line job =
    ap (λ got. unclaimed_of got (submitter_of (before ++ line ∷ []) job)) (got_more before line job) ∙ ap (unclaimed_of (is_got_by_own before job || is_own_get job before line)) (submitter_more before line job)

stays : (got : Bool) (submitter : Option RecordedActor) → unclaimed_of got submitter ≡ unclaimed_of (got || false) (or_else submitter None)
stays true submitter = refl
stays false None = refl
stays false (Some one) = refl

submitted : (before : List RecordedLine) (actor : RecordedActor) (job one : ℕ) (same : Bool) → (same ≡ true → IsFresh before one)
    → (if same then Some actor else unclaimed_there before one) ≡ unclaimed_of (is_got_by_own before one || false) (or_else (submitter_of before one) (if same then Some actor else None))
submitted before actor job one true fresh =
    sym (ap (λ got. unclaimed_of (got || false) (or_else (submitter_of before one) (Some actor))) (fresh refl).got ∙ ap (λ who. or_else who (Some actor)) (fresh refl).submitter)
submitted before actor job one false fresh = stays (is_got_by_own before one) (submitter_of before one)

own_got : (actor : RecordedActor) (got : Bool) (submitter : Option RecordedActor) → entry_after_get actor (unclaimed_of got submitter) ≡ unclaimed_of (got || is_actor actor submitter) (or_else submitter None)
own_got actor true submitter = refl
own_got actor false None = refl
own_got actor false (Some one) = refl

got_there : (actor : RecordedActor) (got : Bool) (submitter : Option RecordedActor) (same : Bool)
    → (if same then entry_after_get actor (unclaimed_of got submitter) else unclaimed_of got submitter) ≡ unclaimed_of (got || (same && is_actor actor submitter)) (or_else submitter None)
got_there actor got submitter true = own_got actor got submitter
got_there actor got submitter false = stays got submitter

after_line : (before : List RecordedLine) (line : RecordedLine) (one : ℕ) → KeepsRules before → Keeps before line
    → entry_after_line line one (unclaimed_there before one) ≡ unclaimed_of (is_got_by_own before one || is_own_get one before line) (or_else (submitter_of before one) (submitter_by one line))
after_line before (Submits actor job class pool) one kept k = submitted before actor job one (job == one) (λ same. fresh_job before kept one (next_job before (Submits actor job class pool) one k same))
after_line before (Got actor job) one kept k = got_there actor (is_got_by_own before one) (submitter_of before one) (job == one)
after_line before line one kept k = stays (is_got_by_own before one) (submitter_of before one)

pub unclaimed_after : (before : List RecordedLine) (line : RecordedLine) → KeepsRules before → Keeps before line → (job : ℕ) → entry_after_line line job (unclaimed_of (is_got_by_own before job) (submitter_of before job))
    ≡ unclaimed_of (is_got_by_own (before ++ line ∷ []) job) (submitter_of (before ++ line ∷ []) job)
unclaimed_after before line kept k job = after_line before line job kept k ∙ sym (with_last before line job)

-- ---- a get by another actor
and_true : (a : Bool) → a ≡ (a && true)
and_true true = refl
and_true false = refl

another : (got : Bool) (submitter : Option RecordedActor) (actor : RecordedActor) → is_foreign (unclaimed_of got submitter) actor ≡ (is_foreign submitter actor && not got)
another true submitter actor = sym (and_false (is_foreign submitter actor))
another false None actor = refl
another false (Some one) actor = and_true (not (is_same_actor one actor))

foreign_said : (unclaimed : UnclaimedJobs) (before : List RecordedLine) (line : RecordedLine) → ((job : ℕ) → submitter_in unclaimed job ≡ unclaimed_there before job) → foreign_get_by unclaimed (length before + 1) line ≡ foreign_get_of before line
foreign_said unclaimed before (Got actor job) there =
    ap (λ (b : Bool). if b then Some (record { line = length before + 1; actor = actor; job = job }) else None)
    (ap (λ who. is_foreign who actor) (there job) ∙ another (is_got_by_own before job) (submitter_of before job) actor)
foreign_said unclaimed before line there = refl

first_said : (unclaimed : UnclaimedJobs) (number : ℕ) (line : RecordedLine) (foreign : Option ForeignGet) → with_foreign unclaimed number line foreign ≡ or_else foreign (foreign_get_by unclaimed number line)
first_said unclaimed number line None = refl
first_said unclaimed number line (Some get) = refl

pub foreign_after : (unclaimed : UnclaimedJobs) (before : List RecordedLine) (line : RecordedLine) (number : ℕ) (foreign : Option ForeignGet) → number ≡ length before + 1 → ((job : ℕ) → submitter_in unclaimed job ≡ unclaimed_of (is_got_by_own before job) (submitter_of before job))
    → foreign ≡ first_foreign_get before → with_foreign unclaimed number line foreign ≡ first_foreign_get (before ++ line ∷ [])
foreign_after unclaimed before line number foreign at there is =
    first_said unclaimed number line foreign
    ∙ (ap (λ get. or_else get (foreign_get_by unclaimed number line)) is
    ∙ (ap (or_else (first_foreign_get before)) (ap (λ n. foreign_get_by unclaimed n line) at ∙ foreign_said unclaimed before line there) ∙ sym (foreign_more before line)))
