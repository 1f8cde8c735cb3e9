-- The runs of a list of steps, of which some were emitted.
use Rattle.std.proofs.Common.{◌≡◌, ℕ, ◌+◌, ◌<◌, ◌≤◌, Bool, true, false, if◌then◌else◌, List, [], ◌∷◌, ◌++◌, length, map, get_or, take, drop, sym, ap, ◌∙◌, arith, append_assoc, add-one}
use Rattle.std.proofs.Math.Seq.{drop-cons}
use Rattle.std.proofs.lemmas.List.{take_more, take_all, drop_all}
use Rattle.serde_json.specs.Data.{Data}
use Rattle.job_bodies.specs.Plan.{Plan}
use Rattle.diagnostics.specs.declared.entry_places.PlanPlaces.{PlanPlaces}
use Rattle.report.specs.declared.event_steps.EventStep.{EventStep}
use Rattle.report.specs.declared.json_events.OpenRun.{OpenRun}
use Rattle.report.specs.EventRuns.{EventShown, Run, follows, runs_from, runs}
use Rattle.report.specs.EventsShown.{shown_after, shown_from, run_of}
use Rattle.report.specs.JsonEvents.{run_data}

abbrev pub emitted_runs : Plan → PlanPlaces → List Run → List Data
emitted_runs plan places rs = map (run_data plan places) rs

-- the runs after the step at this index, if this run is open
abbrev pub runs_at : List EventStep → OpenRun → ℕ → List Run
runs_at steps run index = runs_from run.first run.times (shown_after (take index steps) run.last) (shown_from (take index steps) (drop index steps))

-- the values are those of the runs that are closed before the step at this index
pub record Emitted (plan : Plan) (places : PlanPlaces) (old : List Data) (steps : List EventStep) (values : List Data) (run : OpenRun) (index : ℕ) : Type 0 where
  pub some : 1 ≤ index
  pub few : run.times ≤ index
  pub emitted : values ++ emitted_runs plan places (runs_at steps run index) ≡ old ++ emitted_runs plan places (runs (shown_from [] steps))

abbrev pub open_run : EventStep → ℕ → EventStep → OpenRun
open_run first n last = record { first = first; times = n; last = last }

-- ---- one more step

run_joined : (first : EventStep) (n : ℕ) (last next : EventShown) (rest : List EventShown) → follows first n next.step ≡ true → runs_from first n last (next ∷ rest) ≡ runs_from first (n + 1) next rest
run_joined first n last next rest e =
    ap (λ (b : Bool). if b then runs_from first (n + 1) next rest else record { first = first; times = n; last = last } ∷ runs_from next.step 1 next rest) e

run_closed : (first : EventStep) (n : ℕ) (last next : EventShown) (rest : List EventShown) → follows first n next.step ≡ false
    → runs_from first n last (next ∷ rest) ≡ record { first = first; times = n; last = last } ∷ runs_from next.step 1 next rest
run_closed first n last next rest e =
    ap (λ (b : Bool). if b then runs_from first (n + 1) next rest else record { first = first; times = n; last = last } ∷ runs_from next.step 1 next rest) e

shown_split : (before : List EventStep) (steps : List EventStep) (next : EventStep) (rest : List EventStep) (now : List EventStep) → steps ≡ next ∷ rest → now ≡ before ++ next ∷ []
    → shown_from before steps ≡ shown_after now next ∷ shown_from now rest
shown_split before steps next rest now e f =
    ap (shown_from before) e ∙ sym (ap (λ (xs : List EventStep). shown_after xs next ∷ shown_from xs rest) f)

-- the steps after an index are the step there and those after it
shown_next : (steps : List EventStep) (index : ℕ) (next : EventStep) → index < length steps → get_or steps index next ≡ next
    → shown_from (take index steps) (drop index steps) ≡ shown_after (take (index + 1) steps) next ∷ shown_from (take (index + 1) steps) (drop (index + 1) steps)
shown_next steps index next inside is_next =
    let tail : drop index steps ≡ get_or steps index next ∷ drop (index + 1) steps = rw add-one (drop-cons steps index next inside) in
    shown_split (take index steps) (drop index steps) next (drop (index + 1) steps) (take (index + 1) steps)
    (tail ∙ ap (λ (x : EventStep). x ∷ drop (index + 1) steps) is_next)
    (take_more steps index next inside ∙ ap (λ (x : EventStep). take index steps ++ x ∷ []) is_next)

pub emitted_first : (plan : Plan) (places : PlanPlaces) (old : List Data) (steps : List EventStep) (first : EventStep) → 0 < length steps → get_or steps 0 first ≡ first → Emitted plan places old steps old (open_run first 1 first) 1
emitted_first plan places old [] first some is_first = absurd (omega arith)
emitted_first plan places old (x ∷ xs) first some is_first = record {
  some = omega arith;
  few = omega arith;
  emitted = ap (λ (y : EventStep). old ++ emitted_runs plan places (runs_at (x ∷ xs) (open_run y 1 y) 1)) (sym is_first);
}

-- the next step belongs to the open run
pub emitted_joined : (plan : Plan) (places : PlanPlaces) (old : List Data) (steps : List EventStep) (values : List Data) (run : OpenRun) (index : ℕ) (next : EventStep)
    → index < length steps → get_or steps index next ≡ next → follows run.first run.times next ≡ true
    → Emitted plan places old steps values run index → Emitted plan places old steps values (open_run run.first (run.times + 1) next) (index + 1)
emitted_joined plan places old steps values run index next inside is_next e emitted = record {
  some = omega arith;
  few = omega (arith, emitted.few);
  emitted =
      sym (ap (λ (rs : List Run). values ++ emitted_runs plan places rs)
      (ap (runs_from run.first run.times (shown_after (take index steps) run.last)) (shown_next steps index next inside is_next)
      ∙ run_joined run.first run.times (shown_after (take index steps) run.last) (shown_after (take (index + 1) steps) next) (shown_from (take (index + 1) steps) (drop (index + 1) steps)) e))
      ∙ emitted.emitted;
}

-- the next step begins a new run
pub emitted_closed : (plan : Plan) (places : PlanPlaces) (old : List Data) (steps : List EventStep) (values after : List Data) (run : OpenRun) (index : ℕ) (next : EventStep)
    → index < length steps → get_or steps index next ≡ next → follows run.first run.times next ≡ false → after ≡ values ++ run_data plan places (run_of run (take index steps)) ∷ []
    → Emitted plan places old steps values run index → Emitted plan places old steps after (open_run next 1 next) (index + 1)
emitted_closed plan places old steps values after run index next inside is_next e pushed emitted =
    let rest = runs_from next 1 (shown_after (take (index + 1) steps) next) (shown_from (take (index + 1) steps) (drop (index + 1) steps)) in
    record {
      some = omega arith;
      few = omega arith;
      emitted =
          ap (λ (xs : List Data). xs ++ emitted_runs plan places rest) pushed
          ∙ append_assoc values (run_data plan places (run_of run (take index steps)) ∷ []) (emitted_runs plan places rest)
          ∙ sym (ap (λ (rs : List Run). values ++ emitted_runs plan places rs)
          (ap (runs_from run.first run.times (shown_after (take index steps) run.last)) (shown_next steps index next inside is_next)
          ∙ run_closed run.first run.times (shown_after (take index steps) run.last) (shown_after (take (index + 1) steps) next) (shown_from (take (index + 1) steps) (drop (index + 1) steps)) e))
          ∙ emitted.emitted;
    }

-- there are no steps left
pub emitted_all : (plan : Plan) (places : PlanPlaces) (old : List Data) (steps : List EventStep) (values after : List Data) (run : OpenRun) (index : ℕ)
    → length steps ≤ index → after ≡ values ++ run_data plan places (run_of run steps) ∷ []
    → Emitted plan places old steps values run index → after ≡ old ++ emitted_runs plan places (runs (shown_from [] steps))
emitted_all plan places old steps values after run index past pushed emitted =
    pushed
    ∙ sym (ap (λ (rs : List Run). values ++ emitted_runs plan places rs)
    (ap (λ (xs : List EventStep). runs_from run.first run.times (shown_after xs run.last) (shown_from xs (drop index steps))) (take_all index steps past)
    ∙ ap (λ (xs : List EventStep). runs_from run.first run.times (shown_after steps run.last) (shown_from steps xs)) (drop_all index steps past)))
    ∙ emitted.emitted
