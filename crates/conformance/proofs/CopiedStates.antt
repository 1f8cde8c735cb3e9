-- What holds of a copy of a state holds of the state.
use Rattle.std.proofs.Common.{◌≡◌, ℕ, ◌&&◌, ◌||◌, false, Bool, List, [], ◌∷◌, ◌++◌, get_or, ap, ◌∙◌}
use Rattle.job_bodies.specs.declared.action.Action.{Action}
use Rattle.conformance.specs.declared.open_job.OpenJob.{OpenJob}
use Rattle.conformance.specs.declared.walk_state.WalkState.{WalkState}
use Rattle.conformance.specs.Path.{is_submit_of}
use Rattle.std.specs.Prelude.{slice_get}
use Rattle.conformance.specs.BodyGets.{get_at, can_pass}
use Rattle.conformance.specs.WalkState.{is_at, IsAfterSubmit}
use Rattle.conformance.specs.WalkStates.{IsCopy}

at_copy : (state copy : WalkState) → IsCopy state copy → (index : ℕ) → is_at copy index ≡ is_at state index
at_copy state copy is index = ap (λ (row : List Bool). get_or row index false) is.row

pub submitted_from_copy : (body : List Action) (job class : ℕ) (state copy new : WalkState) → IsCopy state copy → IsAfterSubmit body job class copy new → IsAfterSubmit body job class state new
submitted_from_copy body job class state copy new is after = record {
  tables = after.tables;
  jobs = after.jobs ∙ ap (λ (jobs : List OpenJob). jobs ++ record { job = job; class = class } ∷ []) is.jobs;
  first = after.first;
  rest = λ index lt. after.rest index lt ∙ ap (λ (at : Bool). (at && is_submit_of class (slice_get body index)) || (is_at new index && can_pass (get_at body index) new.jobs.items)) (at_copy state copy is index);
}
