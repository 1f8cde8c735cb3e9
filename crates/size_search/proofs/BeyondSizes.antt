-- No sizes are enough for a plan with a cause: the conditions of a certificate exclude the cause, and the cause does not depend on sizes.
use Rattle.std.proofs.Common.{◌≡◌, ℕ, ◌<◌, ◌≤◌, true, false, List, [], ◌∷◌, length, map, filter, get_or, slice_get, Option, Some, None, IsTrue, subst, sym, ap, ◌∙◌, arith, refl}
use Rattle.std.proofs.lemmas.Bool.{false≢true, or_parts}
use Rattle.job_bodies.specs.declared.action.Action.{Action}
use Rattle.job_bodies.specs.declared.action.Action.TheVariants.{Submit}
use Rattle.job_bodies.specs.Plan.{Class, Client, Plan, no_class, no_client, pool_at, class_at, client_at, needs_no_bound, submitted_class, class_of_submit}
use Rattle.job_bodies.specs.WellFormed.{IsWellFormed}
use Rattle.job_bodies.proofs.Bodies.{ordered}
use Rattle.weights.specs.declared.bound.Bound.{Bound}
use Rattle.weights.specs.declared.bound.Bound.TheVariants.{Standing, Lifetime}
use Rattle.weights.specs.Vector.{queued_weight}
use Rattle.weights.specs.Bound.{bound_vector, bound_get_return}
use Rattle.cert_text.specs.Cert.{Cert, pool_cert_at}
use Rattle.soundness.proofs.BoundLaws.{BoundLaws, PoolBoundLaws, bound_vector_laws}
use Rattle.soundness.specs.Accepted.{accepted}
use Rattle.soundness.proofs.CertLaws.{cert_laws}
use Rattle.size_search.specs.Submitted.{IsSubmitted, IsNeverGot, LostByClients, LostByJobs, goes_without_bound, repeated_bodies}
use Rattle.size_search.specs.Widened.{outline}
use Rattle.size_search.specs.NoSizesHelp.{IsBeyondSizes, NoSizesHelp}
use Rattle.size_search.proofs.Changes.{pool_at-outline}
use Rattle.size_search.proofs.Circles.{submitted_in, sinks_below}
use Rattle.size_search.proofs.LastThreads.{pool_waits_for_itself}
use Rattle.size_search.proofs.Losses.{class_submitted}
use Rattle.size_search.proofs.Repeats.{IsWeighed, lighter_without_get, repeats_with_gets, none_is_lighter}

circle : (plan : Plan) (k : ℕ) → IsSubmitted plan ((class_at plan k).body ∷ []) k → IsBeyondSizes plan
circle plan k submitted other cert well same is_accepted =
    let classes : other.classes ≡ plan.classes = ap (λ (any : Plan). any.classes) same in
    let body : (class_at other k).body ≡ (class_at plan k).body = ap (λ (all : List Class). (get_or all k no_class).body) classes in
    let there = subst (λ (first : List Action). IsSubmitted other (first ∷ []) k) (sym body) (submitted_in plan other ((class_at plan k).body ∷ []) classes submitted) in
    let below = sinks_below other cert.ranks k (cert_laws other cert is_accepted).ranks there in
    omega (arith, below)

-- ---- the conditions of an accepted certificate on the jobs of a class

queued_weighs : (plan : Plan) (p : ℕ) (bound : Bound) → BoundLaws plan p bound → (pool_at plan p).unbounded ≡ false → (k : ℕ) → k < length plan.classes → (class_at plan k).pool ≡ p → 1 ≤ queued_weight (bound_vector bound) k
queued_weighs plan p (Standing v) laws = laws.queued
queued_weighs plan p (Lifetime v) laws = laws.queued

-- a pool that needs a bound has one
record IsBound (plan : Plan) (p : ℕ) : Type 0 where
  bound : Bound
  laws : BoundLaws plan p bound

must_have_bound : (plan : Plan) (p : ℕ) (bound : Option Bound) → PoolBoundLaws plan p bound → needs_no_bound (pool_at plan p) ≡ false → IsBound plan p
must_have_bound plan p None none needs = absurd (false≢true (sym needs ∙ none))
must_have_bound plan p (Some bound) laws needs = record { bound = bound; laws = laws }

-- the consequences of the bound of class k's pool: no action makes an actor heavier, and a queued job of class k has weight
record IsBounded (plan : Plan) (cert : Cert) (k : ℕ) : Type 0 where
  bound : Bound
  weighed : IsWeighed (bound_get_return bound) plan (bound_vector bound) cert.ranks
  weighs : 1 ≤ queued_weight (bound_vector bound) k

bounded : (plan : Plan) (cert : Cert) (k : ℕ) → IsWellFormed plan → IsTrue (accepted plan cert) → k < length plan.classes → needs_no_bound (pool_at plan (class_at plan k).pool) ≡ false → IsBounded plan cert k
bounded plan cert k well is_accepted inside needs =
    let p = (class_at plan k).pool in
    let is_ordered = ordered plan well in
    let laws = cert_laws plan cert is_accepted in
    let has = must_have_bound plan p (pool_cert_at cert p).bound (laws.bound p (is_ordered.pools k inside)) needs in
    let pool = pool_at plan p in
    let bounded_queue = (or_parts pool.may_reject pool.unbounded needs).1 in
    record {
      bound = has.bound;
      weighed = record { ordered = is_ordered; vector = bound_vector_laws plan p has.bound has.laws; levels = laws.ranks };
      weighs = queued_weighs plan p has.bound has.laws bounded_queue k inside refl;
    }

-- ---- clients with a submit that is never got

-- the class that a submit submits
class_of : (plan : Plan) (body : List Action) (i k : ℕ) → slice_get body i ≡ Some (Submit k) → goes_without_bound plan body i ≡ false → needs_no_bound (pool_at plan (class_at plan k).pool) ≡ false
class_of plan body i k at needs = ap (λ (x : Option Action). needs_no_bound (pool_at plan (class_at plan (class_of_submit x)).pool)) (sym at) ∙ needs

no_client_does : (plan : Plan) (cert : Cert) (c i : ℕ) → IsWellFormed plan → IsTrue (accepted plan cert) → LostByClients plan false c i → ⊥
no_client_does plan cert c i well is_accepted lost =
    let cause = lost.never_got in
    let submitted = class_submitted (slice_get (client_at plan c).body i) cause.never_got.is_submit in
    let k = submitted.0 in
    let facts = bounded plan cert k well is_accepted (((ordered plan well).clients c).submit i k submitted.1) (class_of plan (client_at plan c).body i k submitted.1 lost.of_pool) in
    repeats_with_gets (bound_get_return facts.bound) plan (bound_vector facts.bound) cert.ranks c i k facts.weighed cause.repeats submitted.1 cause.never_got.not_got facts.weighs

-- whether a submit goes to a pool that needs no bound does not depend on sizes
same_pools : (plan other : Plan) (body : List Action) (i : ℕ) → outline other ≡ outline plan → goes_without_bound other body i ≡ goes_without_bound plan body i
same_pools plan other body i same =
    let class : class_at other (submitted_class body i) ≡ class_at plan (submitted_class body i) = ap (λ (any : Plan). get_or any.classes (submitted_class body i) no_class) same in
    let p = (class_at plan (submitted_class body i)).pool in
    ap (λ (any : Class). needs_no_bound (pool_at other any.pool)) class
    ∙ (sym (ap needs_no_bound (pool_at-outline other p))
    ∙ (ap (λ (any : Plan). needs_no_bound (pool_at any p)) same
    ∙ ap needs_no_bound (pool_at-outline plan p)))

client_never_gets : (plan : Plan) (c i : ℕ) → LostByClients plan false c i → IsBeyondSizes plan
client_never_gets plan c i lost other cert well same is_accepted =
    let cause = lost.never_got in
    let client : client_at plan c ≡ client_at other c = ap (λ (any : Plan). get_or any.clients c no_client) (sym same) in
    no_client_does other cert c i well is_accepted
    (record {
      never_got = record { repeats = subst (λ (any : Client). any.repeat ≡ true) client cause.repeats; never_got = subst (λ (any : Client). IsNeverGot any.body i) client cause.never_got };
      of_pool = ap (λ (any : Client). goes_without_bound other any.body i) (sym client) ∙ (same_pools plan other (client_at plan c).body i same ∙ lost.of_pool);
    })

-- ---- jobs with a submit that is never got

no_job_does : (plan : Plan) (cert : Cert) (k i : ℕ) → IsWellFormed plan → IsTrue (accepted plan cert) → LostByJobs plan false k i → ⊥
no_job_does plan cert k i well is_accepted lost =
    let cause = lost.never_got in
    let submitted = class_submitted (slice_get (class_at plan k).body i) cause.never_got.is_submit in
    let j = submitted.0 in
    let facts = bounded plan cert j well is_accepted (((ordered plan well).classes k).submit i j submitted.1) (class_of plan (class_at plan k).body i j submitted.1 lost.of_pool) in
    none_is_lighter (bound_get_return facts.bound) plan (bound_vector facts.bound) cert.ranks facts.weighed cause.submitted
    (lighter_without_get (bound_get_return facts.bound) plan (bound_vector facts.bound) cert.ranks k i j facts.weighed submitted.1 cause.never_got.not_got facts.weighs)

repeated_in : (plan other : Plan) → other.clients ≡ plan.clients → repeated_bodies plan ≡ repeated_bodies other
repeated_in plan other same = ap (λ (clients : List Client). map (λ (client : Client). client.body) (filter (λ (client : Client). client.repeat) clients)) (sym same)

class_never_gets : (plan : Plan) (k i : ℕ) → LostByJobs plan false k i → IsBeyondSizes plan
class_never_gets plan k i lost other cert well same is_accepted =
    let cause = lost.never_got in
    let classes : other.classes ≡ plan.classes = ap (λ (any : Plan). any.classes) same in
    let clients : other.clients ≡ plan.clients = ap (λ (any : Plan). any.clients) same in
    let class : class_at plan k ≡ class_at other k = ap (λ (all : List Class). get_or all k no_class) (sym classes) in
    no_job_does other cert k i well is_accepted
    (record {
      never_got = record {
        submitted = subst (λ (bodies : List (List Action)). IsSubmitted other bodies k) (repeated_in plan other clients) (submitted_in plan other (repeated_bodies plan) classes cause.submitted);
        never_got = subst (λ (any : Class). IsNeverGot any.body i) class cause.never_got;
      };
      of_pool = ap (λ (any : Class). goes_without_bound other any.body i) (sym class) ∙ (same_pools plan other (class_at plan k).body i same ∙ lost.of_pool);
    })

pub no_sizes_help : NoSizesHelp
no_sizes_help = record { circle = circle; client_never_gets = client_never_gets; class_never_gets = class_never_gets; pool_waits_for_itself = pool_waits_for_itself }
