-- The path of an actor submits no job twice.
use Rattle.std.proofs.Common.{◌≡◌, ℕ, ◌<◌, ◌≤◌, inl, inr, true, false, List, [], ◌∷◌, ◌++◌, length, take, slice_index_or, ap, sym, subst, ◌∙◌, arith}
use Rattle.std.specs.List.{list_any}
use Rattle.std.proofs.lemmas.Bool.{cases_lt}
use Rattle.std.proofs.lemmas.List.{get_or_append_left, length-append, take-append-le}
use Rattle.std.proofs.Math.Seq.{get_or-append_seam, take-append_seam}
use Rattle.recordings.specs.declared.recording_line.RecordedActor.{RecordedActor}
use Rattle.recordings.specs.RecordingLine.{RecordedLine}
use Rattle.recordings.specs.declared.step.RecordedStep.{RecordedStep}
use Rattle.recordings.specs.declared.step.RecordedStep.TheVariants as recorded
use Rattle.recordings.specs.ActorPath.{submits}
use Rattle.recordings.specs.LineSteps.{JobStep, is_submit_of}
use Rattle.recordings.specs.Path.{with_places, path_of, steps_of}
use Rattle.recordings.specs.PathsOfLines.{KeepsRules}
use Rattle.recordings.proofs.Steps.{lawful_steps}
use Rattle.recordings.proofs.ValidSteps.{ValidSteps, none, submit, get}
use Rattle.recordings.proofs.SubmitIndices.{any_with_places, same_number, places_none, places_submit, places_get}
use Rattle.conformance.specs.ActorTables.{AreOnce}

last_place : (path : List RecordedStep) (step : RecordedStep) (i : ℕ) → i < length (path ++ step ∷ []) → length path ≤ i → length path ≡ i
last_place path step i low past = omega (arith, low, past, length-append path (step ∷ []))

-- The appended step submits no job of an earlier step.
last_once : (path : List RecordedStep) (step : RecordedStep) → AreOnce path → ((job : ℕ) → submits job step ≡ true → list_any (submits job) path ≡ false) → AreOnce (path ++ step ∷ [])
last_once path step once fresh = λ i job low is.
    elim (cases_lt i (length path)) [
      | inl before ↦
          ap (list_any (submits job)) (take-append-le i path (step ∷ []) (omega (arith, before)))
          ∙ once i job before (ap (submits job) (sym (get_or_append_left path (step ∷ []) (recorded.Submits 0) i before)) ∙ is)
      | inr past ↦
          let at : length path ≡ i = last_place path step i low past in
          subst (λ n. list_any (submits job) (take n (path ++ step ∷ [])) ≡ false) at
          (ap (list_any (submits job)) (take-append_seam path (step ∷ []))
          ∙ fresh job (ap (submits job) (sym (get_or-append_seam path step [] (recorded.Submits 0))) ∙ subst (λ n. submits job (slice_index_or (path ++ step ∷ []) n (recorded.Submits 0)) ≡ true) (sym at) is))
    ]

fresh_submit : (steps : List JobStep) (one job : ℕ) → list_any (is_submit_of one) steps ≡ false → submits job (recorded.Submits one) ≡ true → list_any (submits job) (with_places steps) ≡ false
fresh_submit steps one job fresh is = subst (λ n. list_any (submits n) (with_places steps) ≡ false) (same_number one job is) (any_with_places one steps ∙ fresh)

once_lawful : (steps : List JobStep) → ValidSteps steps → AreOnce (with_places steps)
once_lawful _ none = subst AreOnce (sym places_none) (λ i job low is. absurd (omega (arith, low)))
once_lawful _ (submit steps one l fresh) = subst AreOnce (sym (places_submit steps l one)) (last_once (with_places steps) (recorded.Submits one) (once_lawful steps l) (λ job is. fresh_submit steps one job fresh is))
once_lawful _ (get steps one l submitted unclaimed) = subst AreOnce (sym (places_get steps l one submitted)) (last_once (with_places steps) _ (once_lawful steps l) (λ job is. absurd (let e : false ≡ true = is in cc)))

pub path_once : (lines : List RecordedLine) (actor : RecordedActor) → KeepsRules lines → AreOnce (path_of lines actor)
path_once lines actor keeps = once_lawful (steps_of lines actor) (lawful_steps actor lines keeps)
