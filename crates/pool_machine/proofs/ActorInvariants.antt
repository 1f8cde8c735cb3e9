-- Proofs that each event preserves the invariant of each actor: the job of every get that is still to come exists.
use Rattle.std.proofs.Common.{◌≡◌, ◌≢◌, ℕ, ◌+◌, ◌<◌, ◌≤◌, ◌⊎◌, false, inl, inr, List, [], ◌∷◌, ◌++◌, length, slice_get, Some, refl, sym, ap, subst, ◌∙◌, arith}
use Rattle.std.proofs.lemmas.Bool.{false≢true, cases_lt}
use Rattle.std.proofs.lemmas.Option.{slice_get_within}
use Rattle.support.specs.Places.{places_where, last_of}
use Rattle.job_bodies.specs.declared.action.Action.{Action}
use Rattle.job_bodies.specs.declared.action.Action.TheVariants as action
use Rattle.job_bodies.specs.Plan.{Plan, submits, class_of_submit, submitted_class}
use Rattle.job_bodies.specs.ValidBody.{IsValidBody}
use Rattle.pool_machine.specs.declared.parent.Parent.{Parent}
use Rattle.pool_machine.specs.declared.parent.Parent.TheVariants as parent
use Rattle.pool_machine.specs.State.{Stage, State, CreatedJob, is_made_by}
use Rattle.pool_machine.specs.Step.{point, moved_jobs, new_job}
use Rattle.pool_machine.proofs.Positions.{standing_made}
use Rattle.pool_machine.specs.Laws.{HasGreaterNumber}
use Rattle.pool_machine.proofs.StateInvariant.{HasChild, ActorInvariant}
use Rattle.pool_machine.proofs.Stages.{staged, length-moved, child-moved}
use Rattle.pool_machine.proofs.Children.{one_child, HasChild-staged, HasChild-moved, HasChild-pushed, HasChild_new, made_by_maker, not_at_slot, not_by_other}

-- a job that an actor creates has a greater number than the actor
pub is_after : (plan : Plan) (s : State) (a : Parent) (body : List Action) (i i' : ℕ) → point plan s a ≡ Some (record { body = body; position = i }) → HasGreaterNumber a (length (moved_jobs a i' s))
is_after plan s (parent.Client c) body i i' stands = tt
is_after plan s (parent.Job j) body i i' stands =
    let inside = standing_made plan s j body i stands in
    omega (arith, length-moved s (parent.Job j) i')

-- in a valid body, a get never names a position whose action is not a submit
pub no_get : (plan : Plan) (body : List Action) (i g : ℕ) (there : Action) → IsValidBody plan body → slice_get body i ≡ Some there → submits (Some there) ≡ false → slice_get body g ≡ Some (action.Get i) → ⊥
no_get plan body i g there valid is_there no_submit is_get = false≢true (sym no_submit ∙ ap submits (sym is_there) ∙ valid.of_submit g i is_get)

-- an actor at the start of its body satisfies the invariant, because no submit is before it
pub actor_begins : (jobs : List CreatedJob) (a : Parent) (body : List Action) → ActorInvariant jobs a body 0
actor_begins jobs a body = record { inside = omega arith; ready = λ g t low below is_get. absurd (omega arith) }

-- an actor that performs an action other than a submit still satisfies the invariant
pub actor_passes : (plan : Plan) (jobs : List CreatedJob) (a : Parent) (body : List Action) (i : ℕ) (there : Action) → IsValidBody plan body → ActorInvariant jobs a body i → slice_get body i ≡ Some there → submits (Some there) ≡ false → ActorInvariant jobs a body (i + 1)
actor_passes plan jobs a body i there valid kept is_there no_submit =
    let within = slice_get_within body i there is_there in
    record { inside = omega arith; ready = λ g t low below is_get. ready g t low below is_get (cases_lt t i) }
  where
    ready : (g t : ℕ) → i + 1 ≤ g → t < i + 1 → slice_get body g ≡ Some (action.Get t) → (t < i) ⊎ (i ≤ t) → HasChild jobs a t (submitted_class body t)
    ready g t low below is_get (inl earlier) = kept.ready g t (omega arith) earlier is_get
    ready g t low below is_get (inr past) =
        let here : t ≡ i = omega arith in
        absurd (no_get plan body i g there valid is_there no_submit (is_get ∙ ap (λ (n : ℕ). Some (action.Get n)) here))

-- an actor still satisfies the invariant after the jobs changed, if it still has the jobs of its later gets
pub actor_changed : (jobs jobs' : List CreatedJob) (a : Parent) (body : List Action) (i : ℕ) → ActorInvariant jobs a body i
    → ((g t k : ℕ) → i ≤ g → slice_get body g ≡ Some (action.Get t) → HasChild jobs a t k → HasChild jobs' a t k) → ActorInvariant jobs' a body i
actor_changed jobs jobs' a body i kept change =
    record { inside = kept.inside; ready = λ g t low below is_get. change g t (submitted_class body t) low is_get (kept.ready g t low below is_get) }

pub actor_moved : (s : State) (b : Parent) (i' : ℕ) (a : Parent) (body : List Action) (i : ℕ) → ActorInvariant s.jobs a body i → ActorInvariant (moved_jobs b i' s) a body i
actor_moved s b i' a body i kept = actor_changed s.jobs (moved_jobs b i' s) a body i kept (λ g t k low is_get child. HasChild-moved s b i' a t k child)

pub actor_staged : (jobs : List CreatedJob) (j : ℕ) (stage : Stage) (a : Parent) (body : List Action) (i : ℕ) → stage ≢ Stage.Claimed → ActorInvariant jobs a body i → ActorInvariant (staged jobs j stage) a body i
actor_staged jobs j stage a body i unclaimed kept = actor_changed jobs (staged jobs j stage) a body i kept (λ g t k low is_get child. HasChild-staged jobs j stage a t k child (λ same. unclaimed))

-- an actor still satisfies the invariant after it submitted a job, which is the job of the get that names this submit
pub actor_submits : (plan : Plan) (s : State) (a : Parent) (body : List Action) (i k : ℕ) (stage : Stage) → ActorInvariant s.jobs a body i → point plan s a ≡ Some (record { body = body; position = i }) → slice_get body i ≡ Some (action.Submit k) → stage ≢ Stage.Claimed
    → ActorInvariant (moved_jobs a (i + 1) s ++ new_job k a i stage ∷ []) a body (i + 1)
actor_submits plan s a body i k stage kept stands is_there unclaimed =
    let within = slice_get_within body i (action.Submit k) is_there in
    record { inside = omega arith; ready = λ g t low below is_get. ready g t low below is_get (cases_lt t i) }
  where
    ready : (g t : ℕ) → i + 1 ≤ g → t < i + 1 → slice_get body g ≡ Some (action.Get t) → (t < i) ⊎ (i ≤ t) → HasChild (moved_jobs a (i + 1) s ++ new_job k a i stage ∷ []) a t (submitted_class body t)
    ready g t low below is_get (inl earlier) =
        HasChild-pushed (moved_jobs a (i + 1) s) (new_job k a i stage) a t (submitted_class body t) (not_at_slot k a i stage t (λ (same : t ≡ i). omega arith))
        (HasChild-moved s a (i + 1) a t (submitted_class body t) (kept.ready g t (omega arith) earlier is_get))
    ready g t low below is_get (inr past) =
        let here : i ≡ t = omega arith in
        subst (λ (n : ℕ). HasChild (moved_jobs a (i + 1) s ++ new_job k a i stage ∷ []) a n (submitted_class body n)) here
        (HasChild_new (moved_jobs a (i + 1) s) (new_job k a i stage) a i (submitted_class body i) (made_by_maker k a i stage) (sym (ap class_of_submit is_there)) unclaimed (is_after plan s a body i (i + 1) stands))

-- after an actor submitted a job, all other actors still have the jobs of their gets
pub other_submits : (s : State) (b : Parent) (j k : ℕ) (stage : Stage) (a : Parent) (body : List Action) (i : ℕ) → a ≢ b → ActorInvariant s.jobs a body i → ActorInvariant (moved_jobs b (j + 1) s ++ new_job k b j stage ∷ []) a body i
other_submits s b j k stage a body i other kept =
    actor_changed s.jobs (moved_jobs b (j + 1) s ++ new_job k b j stage ∷ []) a body i kept
    (λ g t l low is_get child. HasChild-pushed (moved_jobs b (j + 1) s) (new_job k b j stage) a t l (not_by_other k b j stage a t other) (HasChild-moved s b (j + 1) a t l child))

-- ---- a get claims a job for which only one actor waits, at one submit

-- job n is the latest job that the actor created at position t
abbrev pub IsLatest : State → Parent → ℕ → ℕ → Type 0
IsLatest s a t n = last_of (places_where (is_made_by a t) s.jobs) ≡ Some n

-- if two gets find the same job, they are gets of the same actor and the same submit
not_got : (s : State) (b : Parent) (i' : ℕ) (a : Parent) (t u j n : ℕ) → IsLatest s b u j → last_of (places_where (is_made_by a t) (moved_jobs b i' s)) ≡ Some n → n ≡ j → (a ≡ b) × (t ≡ u)
not_got s b i' a t u j n of_b of_a same =
    one_child (moved_jobs b i' s) a b t u j (of_a ∙ ap Some same) (child-moved s b i' b u ∙ of_b)

pub actor_gets : (plan : Plan) (s : State) (a : Parent) (body : List Action) (i t j : ℕ) → IsValidBody plan body → ActorInvariant s.jobs a body i → slice_get body i ≡ Some (action.Get t) → IsLatest s a t j
    → ActorInvariant (staged (moved_jobs a (i + 1) s) j Stage.Claimed) a body (i + 1)
actor_gets plan s a body i t j valid kept is_there is_child =
    let passed = actor_moved s a (i + 1) a body (i + 1) (actor_passes plan s.jobs a body i (action.Get t) valid kept is_there refl) in
    actor_changed (moved_jobs a (i + 1) s) (staged (moved_jobs a (i + 1) s) j Stage.Claimed) a body (i + 1) passed
    (λ g u k low is_get child. HasChild-staged (moved_jobs a (i + 1) s) j Stage.Claimed a u k child
    (λ same. absurd (valid.once i g t (omega arith) is_there (is_get ∙ ap (λ (n : ℕ). Some (action.Get n)) (not_got s a (i + 1) a u t j child.number is_child child.is_child same).1))))

pub other_gets : (s : State) (b : Parent) (i' u j : ℕ) (a : Parent) (body : List Action) (i : ℕ) → a ≢ b → ActorInvariant s.jobs a body i → IsLatest s b u j
    → ActorInvariant (staged (moved_jobs b i' s) j Stage.Claimed) a body i
other_gets s b i' u j a body i other kept is_child =
    actor_changed (moved_jobs b i' s) (staged (moved_jobs b i' s) j Stage.Claimed) a body i (actor_moved s b i' a body i kept)
    (λ g t k low is_get child. HasChild-staged (moved_jobs b i' s) j Stage.Claimed a t k child (λ same. absurd (other (not_got s b i' a t u j child.number is_child child.is_child same).0)))
