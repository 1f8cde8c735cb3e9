-- The live view of a reached state shows the pools, and what the jobs wait for.
use Rattle.std.proofs.Common.{◌≡◌, ℕ, ◌+◌, ◌<◌, ◌≤◌, Bool, true, false, ◌&&◌, if◌then◌else◌, List, [], ◌∷◌, ◌++◌, length, take, slice_get, Some, None, refl, sym, ap, ap₂, ◌∙◌, arith, append_assoc}
use Rattle.std.specs.Prelude.{flat_map, string_bytes, String, Result, Ok, Err}
use Rattle.std.specs.List.{enumerate_from}
use Rattle.std.proofs.lemmas.Option.{get_or_from_slice_get}
use Rattle.support.specs.Pushed.{Pushes}
use Rattle.job_bodies.specs.Plan.{Plan, Pool, class_at}
use Rattle.job_bodies.specs.WellFormed.{IsWellFormed}
use Rattle.job_bodies.proofs.Bodies.{HasValidBodies, ordered}
use Rattle.pool_machine.specs.PoolState.{PoolView}
use Rattle.pool_machine.specs.State.{Stage, State, CreatedJob, job_at, child}
use Rattle.pool_machine.specs.State.Stage.{Queued, At, Done, Claimed}
use Rattle.pool_machine.specs.Reach.{IsReached}
use Rattle.pool_machine.proofs.Reached.{kept}
use Rattle.pool_machine.proofs.StateInvariant.{StateInvariant}
use Rattle.interleaving.specs.declared.job_view.Phase.TheVariants as phase
use Rattle.interleaving.specs.LiveView.{View, live_view, may_get, is_number, phase_seen, job_with}
use Rattle.interleaving.proofs.View.{view_at, pool_at_view}
use Rattle.interleaving.proofs.Changes.{seen_at}
use Rattle.interleaving.specs.ViewStep.{no_pool_view}
use Rattle.report.specs.Story.{pool_text, pool_line, pools_text, awaited_text, awaited_class, wait_text, wait_of, waits_text, more_text}
use Rattle.report.specs.StorySeen as seen
use Rattle.report.proofs.WaitsShown.{awaited_shown}
use Rattle.report.specs.StorySeen.{pool_line_seen}

-- the line of one more pool
pub pool_appended : (view : View) (old new : List ℕ) (number : ℕ) (pool : Pool) (state : PoolView) (rest : List Pool) → slice_get view.pools number ≡ Some state → new ≡ old ++ pool_text pool.name state
    → new ++ flat_map (pool_line_seen view) (enumerate_from (number + 1) rest) ≡ old ++ flat_map (pool_line_seen view) (enumerate_from number (pool ∷ rest))
pool_appended view old new number pool state rest at is_new =
    let behind = flat_map (pool_line_seen view) (enumerate_from (number + 1) rest) in
    ap (λ (text : List ℕ). text ++ behind) (is_new ∙ ap (λ (x : PoolView). old ++ pool_text pool.name x) (sym (get_or_from_slice_get view.pools number state no_pool_view at)))
    ∙ append_assoc old (pool_line_seen view (number, pool)) behind

-- ---- pools

line_shown : (plan : Plan) (s : State) (p : ℕ) (pool : Pool) → p < length plan.pools → pool_line_seen (live_view plan s) (p, pool) ≡ pool_line plan s (p, pool)
line_shown plan s p pool inside = ap (λ (x : PoolView). pool_text pool.name x) (pool_at_view plan s p inside)

lines_shown : (plan : Plan) (s : State) (n : ℕ) (pools : List Pool) → n + length pools ≤ length plan.pools
    → flat_map (pool_line_seen (live_view plan s)) (enumerate_from n pools) ≡ flat_map (pool_line plan s) (enumerate_from n pools)
lines_shown plan s n [] inside = refl
lines_shown plan s n (pool ∷ pools) inside =
    ap₂ (λ (xs ys : List ℕ). xs ++ ys) (line_shown plan s n pool (omega (arith, inside))) (lines_shown plan s (n + 1) pools (omega (arith, inside)))

pub pools_shown : (plan : Plan) (s : State) → flat_map (pool_line_seen (live_view plan s)) (enumerate_from 0 plan.pools) ≡ pools_text plan s
pools_shown plan s = lines_shown plan s 0 plan.pools (omega arith)

-- ---- what jobs wait for

none_if : (plan : Plan) (view : View) (j : ℕ) (job : CreatedJob) (b : Bool) → seen.wait_of_job plan view j (job_with job (if b then Some phase.Done else None)) ≡ []
none_if plan view j job true = refl
none_if plan view j job false = refl

module _ (plan : Plan) (s : State) (bodies : HasValidBodies plan) (kept : StateInvariant plan s) where
  text_at_stage : (j : ℕ) (stage : Stage) → (job_at s j).stage ≡ stage → seen.wait_seen plan (live_view plan s) j ≡ wait_text plan s j (job_at s j).class stage
  unfolding seen.wait_seen
  text_at_stage j Queued e = ap (seen.wait_of_job plan (live_view plan s) j) (view_at plan s j ∙ seen_at s j Queued phase.Queued e refl)
  text_at_stage j (At i) e =
      let k = (job_at s j).class in
      let action = slice_get (class_at plan k).body i in
      ap (seen.wait_of_job plan (live_view plan s) j) (view_at plan s j ∙ seen_at s j (At i) (phase.At i) e refl)
      ∙ ap (λ (ns : List ℕ). flat_map (awaited_text plan j k (awaited_class plan k action)) ns) (awaited_shown plan s bodies kept j i action e refl)
  text_at_stage j Done e =
      let job = job_at s j in
      ap (seen.wait_of_job plan (live_view plan s) j) (view_at plan s j ∙ ap (λ stage. job_with job (phase_seen s j job stage)) e)
      ∙ none_if plan (live_view plan s) j job (may_get s job.parent && is_number (child s job.parent job.slot) j)
  text_at_stage j Claimed e =
      let job = job_at s j in
      ap (seen.wait_of_job plan (live_view plan s) j) (view_at plan s j ∙ ap (λ stage. job_with job (phase_seen s j job stage)) e)

  texts_shown : (members : List ℕ) → flat_map (seen.wait_seen plan (live_view plan s)) members ≡ flat_map (wait_of plan s) members
  texts_shown [] = refl
  texts_shown (j ∷ members) = ap₂ (λ (xs ys : List ℕ). xs ++ ys) (text_at_stage j (job_at s j).stage refl) (texts_shown members)

pub waits_shown : (plan : Plan) (s : State) (members : List ℕ) → IsWellFormed plan → IsReached plan s → seen.waits_text plan (live_view plan s) members ≡ waits_text plan s members
waits_shown plan s members ok reached = ap (λ (text : List ℕ). text ++ more_text (length members)) (texts_shown plan s (ordered plan ok) (kept plan s ok reached) (take 20 members))

-- ---- three parts of a text

pub parts_pushed : {X E Z : Type 0} (r : Result X E) (old one two new : String Z) (x y z x' y' z' : List ℕ) → string_bytes one ≡ string_bytes old ++ x → string_bytes two ≡ string_bytes one ++ y → Pushes r two new z
    → x ≡ x' → y ≡ y' → z ≡ z' → Pushes r old new ((x' ++ y') ++ z')
parts_pushed (Ok value) old one two new x y z x' y' z' first second third is_x is_y is_z =
    third ∙ ap (λ (text : List ℕ). text ++ z) (second ∙ ap (λ (text : List ℕ). text ++ y) first ∙ append_assoc (string_bytes old) x y) ∙ append_assoc (string_bytes old) (x ++ y) z
    ∙ ap (λ (text : List ℕ). string_bytes old ++ ((text ++ y) ++ z)) is_x ∙ ap₂ (λ (text more : List ℕ). string_bytes old ++ ((x' ++ text) ++ more)) is_y is_z
parts_pushed (Err error) old one two new x y z x' y' z' first second third is_x is_y is_z = third
