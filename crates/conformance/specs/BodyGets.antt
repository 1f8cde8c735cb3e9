-- When a body may pass its gets.
use Rattle.std.specs.Prelude.{◌≡◌, ◌<◌, ℕ, suc, Bool, true, false, ◌==◌, nat_le, if◌then◌else◌, List, Option, None, Some, length, count_by, slice_get}
use Rattle.job_bodies.specs.declared.action.Action.{Action}
use Rattle.job_bodies.specs.declared.action.Action.TheVariants.{Get}
use Rattle.job_bodies.specs.Plan.{submitted_class}
use Rattle.conformance.specs.declared.body_gets.BodyGet.{BodyGet}
use Rattle.conformance.specs.declared.open_job.OpenJob.{OpenJob}
use Rattle.conformance.specs.Path.{open_in_body, count_in}

-- The action as a get, or `None` if it is no get. `jobs` has the submits whose jobs are open in the body after the action.
abbrev pub get_with : Option Action → List Action → List ℕ → Option BodyGet
get_with (Some (Get submit)) body jobs = Some (record { class = submitted_class body submit; limit = count_by (λ other. submitted_class body other == submitted_class body submit) jobs })
get_with _ body jobs = None

-- The get at this index of the body, or `None` if there is no get. Its limit is the number of jobs of its class that are open
-- in the body after the get.
abbrev pub get_at : List Action → ℕ → Option BodyGet
get_at body index = get_with (slice_get body index) body (open_in_body body (suc index))

-- The list has an entry for each action of the body: the get, or `None` if the action is no get.
pub record AreGets (body : List Action) (gets : List (Option BodyGet)) : Type 0 where
  pub same_length : length gets ≡ length body
  pub each : (index : ℕ) → index < length body → slice_get gets index ≡ Some (get_at body index)

-- The body may pass the action while these jobs of the path are open.
abbrev pub can_pass : Option BodyGet → List OpenJob → Bool
can_pass None jobs = true
can_pass (Some get) jobs = nat_le (count_in get.class jobs) get.limit

-- The action gets a job of the class.
abbrev pub is_get_of : ℕ → Option BodyGet → Bool
is_get_of class None = false
is_get_of class (Some get) = get.class == class

-- The body may pass the action after the number of open jobs of the class has become `count`. `before` says whether it could
-- pass the action before that.
abbrev pub pass_after : ℕ → ℕ → Option BodyGet → Bool → Bool
pass_after class count None before = before
pass_after class count (Some get) before = if get.class == class then nat_le count get.limit else before
