-- A client that repeats loses no weight, so it causes no submit that is never got.
use Rattle.std.proofs.Common.{◌≡◌, ℕ, zero, suc, ◌<◌, ◌≤◌, true, false, List, length, filter, slice_get, Some, refl, sym, subst, arith}
use Rattle.std.proofs.lemmas.Option.{get_or_from_slice_get}
use Rattle.support.specs.In.{In}
use Rattle.support.proofs.Members.{In-map_from, In-filter_from}
use Rattle.job_bodies.specs.declared.action.Action.{Action}
use Rattle.job_bodies.specs.declared.action.Action.TheVariants.{Submit}
use Rattle.job_bodies.specs.Plan.{Client, Plan, no_client, class_at, client_at, has_get_of}
use Rattle.job_bodies.specs.ValidBody.{IsValidBody}
use Rattle.job_bodies.proofs.Bodies.{HasValidBodies}
use Rattle.weights.specs.declared.get_return.GetReturn.{GetReturn}
use Rattle.weights.specs.declared.get_return.GetReturn.TheVariants.{DoneWeight, NoWeight}
use Rattle.weights.specs.Vector.{Vector, queued_weight, job_weight, done_weight, client_weight}
use Rattle.weights.specs.GetReturn.{returned_weight}
use Rattle.weights.specs.Ranks.{Ranks, level}
use Rattle.soundness.proofs.VectorLaws.{VectorLaws, class_of_action}
use Rattle.soundness.proofs.RankLaws.{RankLaws}
use Rattle.size_search.specs.Submitted.{IsSubmitted, begins, follows, repeated_bodies}
use Rattle.size_search.proofs.Opened.{place_in}
use Rattle.size_search.proofs.Losses.{NoneGains, never_heavier, lost_without_get, lost_by_child}

-- a vector of a plan that satisfies its rules, and ranks that satisfy theirs
pub record IsWeighed (get_return : GetReturn) (plan : Plan) (v : Vector) (ranks : Ranks) : Type 0 where
  pub ordered : HasValidBodies plan
  pub vector : VectorLaws get_return plan v
  pub levels : RankLaws plan ranks

returned_weight-le : (get_return : GetReturn) (plan : Plan) (v : Vector) (k : ℕ) → returned_weight get_return plan v k ≤ done_weight plan v k
returned_weight-le DoneWeight plan v k =
    let all : returned_weight DoneWeight plan v k ≡ done_weight plan v k = refl in
    omega (arith, all)
returned_weight-le NoWeight plan v k =
    let nothing : returned_weight NoWeight plan v k ≡ 0 = refl in
    omega (arith, nothing)

-- ---- jobs

-- a job is not heavier at its end than in the queue, by induction on the level of its class
never_gains : (get_return : GetReturn) (plan : Plan) (v : Vector) (ranks : Ranks) → IsWeighed get_return plan v ranks → (n k : ℕ) → k < length plan.classes → level ranks k < n → done_weight plan v k ≤ queued_weight v k
never_gains get_return plan v ranks weighed zero k inside low = absurd (omega (arith, low))
never_gains get_return plan v ranks weighed (suc n) k inside low =
    let body = (class_at plan k).body in
    let valid = weighed.ordered.classes k in
    let children : NoneGains get_return plan v body = λ i j is_submit.
    let below : level ranks j < n = omega (arith, low, weighed.levels.sinks k i j is_submit) in
    omega (arith, returned_weight-le get_return plan v j, never_gains get_return plan v ranks weighed n j (valid.submit i j is_submit) below) in
    omega (arith, never_heavier get_return plan v (job_weight v k) body valid (weighed.vector.classes k) children, weighed.vector.begins k inside, weighed.vector.ends k inside)

pub none_gains : (get_return : GetReturn) (plan : Plan) (v : Vector) (ranks : Ranks) (body : List Action) → IsWeighed get_return plan v ranks → IsValidBody plan body → NoneGains get_return plan v body
none_gains get_return plan v ranks body weighed valid i k is_submit =
    omega (arith, returned_weight-le get_return plan v k, never_gains get_return plan v ranks weighed (suc (level ranks k)) k (valid.submit i k is_submit) (omega arith))

-- a job whose body loses weight is lighter at its end than in the queue
lighter_at_end : (get_return : GetReturn) (plan : Plan) (v : Vector) (ranks : Ranks) (k : ℕ) → IsWeighed get_return plan v ranks → k < length plan.classes → job_weight v k (length (class_at plan k).body) < job_weight v k 0
    → done_weight plan v k < queued_weight v k
lighter_at_end get_return plan v ranks k weighed inside lost = omega (arith, lost, weighed.vector.begins k inside, weighed.vector.ends k inside)

-- a job with a submit that is never got is lighter at its end than in the queue
pub lighter_without_get : (get_return : GetReturn) (plan : Plan) (v : Vector) (ranks : Ranks) (k i j : ℕ) → IsWeighed get_return plan v ranks → slice_get (class_at plan k).body i ≡ Some (Submit j) → has_get_of (class_at plan k).body i ≡ false
    → 1 ≤ queued_weight v j → done_weight plan v k < queued_weight v k
lighter_without_get get_return plan v ranks k i j weighed is_submit not_got weighs =
    let body = (class_at plan k).body in
    let valid = weighed.ordered.classes k in
    lighter_at_end get_return plan v ranks k weighed (class_of_action plan k i (Submit j) is_submit)
    (lost_without_get get_return plan v (job_weight v k) body i j valid (weighed.vector.classes k) (none_gains get_return plan v ranks body weighed valid) is_submit not_got weighs)

-- a job that submits a lighter job is lighter too
lighter_by_child : (get_return : GetReturn) (plan : Plan) (v : Vector) (ranks : Ranks) (k i j : ℕ) → IsWeighed get_return plan v ranks → slice_get (class_at plan k).body i ≡ Some (Submit j) → done_weight plan v j < queued_weight v j
    → done_weight plan v k < queued_weight v k
lighter_by_child get_return plan v ranks k i j weighed is_submit lighter =
    let body = (class_at plan k).body in
    let valid = weighed.ordered.classes k in
    lighter_at_end get_return plan v ranks k weighed (class_of_action plan k i (Submit j) is_submit)
    (lost_by_child get_return plan v (job_weight v k) body i j valid (weighed.vector.classes k) (none_gains get_return plan v ranks body weighed valid) is_submit (omega (arith, lighter, returned_weight-le get_return plan v j)))

-- ---- clients that repeat

-- clients that repeat make no submit that is never got
pub repeats_with_gets : (get_return : GetReturn) (plan : Plan) (v : Vector) (ranks : Ranks) (c i k : ℕ) → IsWeighed get_return plan v ranks → (client_at plan c).repeat ≡ true → slice_get (client_at plan c).body i ≡ Some (Submit k)
    → has_get_of (client_at plan c).body i ≡ false → 1 ≤ queued_weight v k → ⊥
repeats_with_gets get_return plan v ranks c i k weighed repeats is_submit not_got weighs =
    let body = (client_at plan c).body in
    let valid = weighed.ordered.clients c in
    let lost = lost_without_get get_return plan v (client_weight v c) body i k valid (weighed.vector.clients c) (none_gains get_return plan v ranks body weighed valid) is_submit not_got weighs in
    omega (arith, lost, weighed.vector.loops c repeats)

-- clients that repeat submit no job that is lighter at its end than in the queue
client_submits_none : (get_return : GetReturn) (plan : Plan) (v : Vector) (ranks : Ranks) (c i k : ℕ) → IsWeighed get_return plan v ranks → (client_at plan c).repeat ≡ true → slice_get (client_at plan c).body i ≡ Some (Submit k)
    → done_weight plan v k < queued_weight v k → ⊥
client_submits_none get_return plan v ranks c i k weighed repeats is_submit lighter =
    let body = (client_at plan c).body in
    let valid = weighed.ordered.clients c in
    let lost = lost_by_child get_return plan v (client_weight v c) body i k valid (weighed.vector.clients c) (none_gains get_return plan v ranks body weighed valid) is_submit (omega (arith, lighter, returned_weight-le get_return plan v k)) in
    omega (arith, lost, weighed.vector.loops c repeats)

-- a client that repeats has this body
record IsRepeatedBy (plan : Plan) (body : List Action) : Type 0 where
  client : ℕ
  repeats : (client_at plan client).repeat ≡ true
  same : (client_at plan client).body ≡ body

repeated_by : (plan : Plan) (body : List Action) → In body (repeated_bodies plan) → IsRepeatedBy plan body
repeated_by plan body from =
    let repeat_of = λ (client : Client). client.repeat in
    let of_client = In-map_from (λ (client : Client). client.body) (filter repeat_of plan.clients) from in
    let client = of_client.0 in
    let kept = In-filter_from repeat_of plan.clients of_client.1 in
    let found = place_in kept.0 in
    let is_client : client_at plan found.0 ≡ client = get_or_from_slice_get plan.clients found.0 client no_client found.1 in
    record {
      client = found.0;
      repeats = subst (λ (any : Client). any.repeat ≡ true) (sym is_client) kept.1;
      same = subst (λ (any : Client). any.body ≡ body) (sym is_client) of_client.2;
    }

-- clients that repeat cause no job that is lighter at its end than in the queue, directly or through other jobs
pub none_is_lighter : (get_return : GetReturn) (plan : Plan) (v : Vector) (ranks : Ranks) → IsWeighed get_return plan v ranks → {k : ℕ} → IsSubmitted plan (repeated_bodies plan) k → done_weight plan v k < queued_weight v k → ⊥
none_is_lighter get_return plan v ranks weighed (begins {k = k} {body = body} from at) lighter =
    let by = repeated_by plan body from in
    let found = place_in (subst (In (Submit k)) (sym by.same) at) in
    client_submits_none get_return plan v ranks by.client found.0 k weighed by.repeats found.1 lighter
none_is_lighter get_return plan v ranks weighed (follows {j = j} {k = k} known at) lighter =
    let found = place_in at in
    none_is_lighter get_return plan v ranks weighed known (lighter_by_child get_return plan v ranks j found.0 k weighed found.1 lighter)
