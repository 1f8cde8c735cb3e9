-- The steady vector satisfies the rules of a vector whose gets return weight.
use Rattle.std.proofs.Common.{◌≡◌, ℕ, zero, suc, ◌+◌, ◌<◌, ◌≤◌, Bool, true, false, cond, List, [], length, drop, get_or, slice_get, Some, inl, inr, refl, sym, ap, subst, ◌∙◌, arith}
use Rattle.std.proofs.Math.Seq.{drop-length}
use Rattle.std.proofs.lemmas.Bool.{cases_lt}
use Rattle.std.proofs.lemmas.List.{get_or_past}
use Rattle.std.proofs.lemmas.Option.{slice_get_within}
use Rattle.support.proofs.Members.{In-slice_get, In-get_or, In-map, In-filter}
use Rattle.job_bodies.specs.declared.action.Action.{Action}
use Rattle.job_bodies.specs.declared.action.Action.TheVariants.{Work, Submit, Get}
use Rattle.job_bodies.specs.Plan.{Pool, Class, Client, Plan, no_pool, no_class, no_client, class_at, client_at, submits, has_get_of}
use Rattle.job_bodies.proofs.Bodies.{HasValidBodies}
use Rattle.weights.specs.declared.get_return.GetReturn.TheVariants.{DoneWeight}
use Rattle.weights.specs.Vector.{Vector, workers_weight, queued_weight, job_weight, done_weight, client_weight}
use Rattle.soundness.proofs.VectorLaws.{BodyLaws, VectorLaws}
use Rattle.size_search.specs.Submitted.{IsSubmitted, begins, follows, IsNeverGot, repeated_bodies, IsAllGot}
use Rattle.size_search.specs.Steady.{most, weight_before, weight_at, job_end, client_end, steady_vector, steady_levels}
use Rattle.size_search.proofs.Opened.{rest_at}
use Rattle.size_search.proofs.Balance.{GivesAllBack, least-le, begins_as_it_ends}
use Rattle.size_search.proofs.Depths.{levels_sink}
use Rattle.size_search.proofs.Shapes.{get_or-changed}
use Rattle.size_search.proofs.SteadyRows.{class_is, client_is, IsClassRow, class_numbers, client_numbers}

-- ---- one action

weight-step : (plan : Plan) (v : Vector) (least : ℕ) (body : List Action) (last i : ℕ) (x : Action) → slice_get body i ≡ Some x
    → weight_at plan v least body last (drop i body) ≡ weight_before plan v least body x (weight_at plan v least body last (drop (i + 1) body))
weight-step plan v least body last i x at =
    let number : suc i ≡ i + 1 = omega arith in
    ap (weight_at plan v least body last) (rest_at body i x at) ∙ ap (λ (n : ℕ). weight_before plan v least body x (weight_at plan v least body last (drop n body))) number

-- weights that are computed from the end of a body satisfy the rules of a body
body_laws_of : (plan : Plan) (v : Vector) (least : ℕ) (body : List Action) (last : ℕ) (weight : ℕ → ℕ) → ((i : ℕ) → i ≤ length body → weight i ≡ weight_at plan v least body last (drop i body)) → BodyLaws DoneWeight plan v weight body
body_laws_of plan v least body last weight is = record {
  work = λ i u at.
      let inside = slice_get_within body i (Work u) at in
      omega (arith, weight-step plan v least body last i (Work u) at, is i (omega (arith, inside)), is (i + 1) (omega (arith, inside)));
  submit = λ i k at.
      let inside = slice_get_within body i (Submit k) at in
      omega (arith, weight-step plan v least body last i (Submit k) at, is i (omega (arith, inside)), is (i + 1) (omega (arith, inside)));
  get = λ i t at.
      let inside = slice_get_within body i (Get t) at in
      omega (arith, weight-step plan v least body last i (Get t) at, is i (omega (arith, inside)), is (i + 1) (omega (arith, inside)));
}

no_body_laws : (plan : Plan) (v : Vector) (weight : ℕ → ℕ) → BodyLaws DoneWeight plan v weight []
no_body_laws plan v weight = record { work = λ i u at. absurd cc; submit = λ i k at. absurd cc; get = λ i t at. absurd cc }

-- ---- the rows of a plan in which each submit is got

pub is_class_row : (plan : Plan) → HasValidBodies plan → IsAllGot plan → (k : ℕ) → k < length plan.classes → IsClassRow plan (steady_vector plan) k
is_class_row plan ordered free k inside = class_numbers plan (steady_vector plan) k (class_is plan ordered free.no_circle k inside)

is_client_row : (plan : Plan) → HasValidBodies plan → (c : ℕ) → c < length plan.clients → (i : ℕ) → i ≤ length (client_at plan c).body
    → client_weight (steady_vector plan) c i ≡ weight_at plan (steady_vector plan) 0 (client_at plan c).body (client_end (steady_vector plan) (client_at plan c)) (drop i (client_at plan c).body)
is_client_row plan ordered c inside i within = client_numbers plan (steady_vector plan) c i (client_is plan ordered c inside) within

no_worker_weighs : (plan : Plan) (p : ℕ) → workers_weight (steady_vector plan) p ≡ 0
no_worker_weighs plan p = get_or-changed (λ (pool : Pool). 0) plan.pools p no_pool

-- a job weighs at least 1 in every state
pub queued_weighs : (plan : Plan) → HasValidBodies plan → IsAllGot plan → (k : ℕ) → k < length plan.classes → 1 ≤ queued_weight (steady_vector plan) k
queued_weighs plan ordered free k inside =
    let body = (class_at plan k).body in
    let v = steady_vector plan in
    omega (arith, (is_class_row plan ordered free k inside).queued, least-le plan v 1 body (job_end v body) body (omega arith))

pub job_weighs : (plan : Plan) → HasValidBodies plan → IsAllGot plan → (k i : ℕ) → k < length plan.classes → i ≤ length (class_at plan k).body → 1 ≤ job_weight (steady_vector plan) k i
job_weighs plan ordered free k i inside within =
    let body = (class_at plan k).body in
    let v = steady_vector plan in
    omega (arith, (is_class_row plan ordered free k inside).position i within, least-le plan v 1 body (job_end v body) (drop i body) (omega arith))

-- ---- the jobs that repeating clients cause return all their weight

got_or : (b : Bool) → (b ≡ false → ⊥) → b ≡ true
got_or true wrong = refl
got_or false wrong = absurd (wrong refl)

never_got : (body : List Action) (i k : ℕ) → slice_get body i ≡ Some (Submit k) → has_get_of body i ≡ false → IsNeverGot body i
never_got body i k at none = record { is_submit = ap submits at; not_got = none }

-- a job that repeating clients cause weighs as much done as queued, by induction on the level of its class
done_as_queued : (plan : Plan) → HasValidBodies plan → IsAllGot plan → (n k : ℕ) → k < length plan.classes → get_or (steady_levels plan) k 0 < n → IsSubmitted plan (repeated_bodies plan) k
    → done_weight plan (steady_vector plan) k ≡ queued_weight (steady_vector plan) k
done_as_queued plan ordered free zero k inside low known = absurd (omega (arith, low))
done_as_queued plan ordered free (suc n) k inside low known =
    let v = steady_vector plan in
    let body = (class_at plan k).body in
    let valid = ordered.classes k in
    let row = is_class_row plan ordered free k inside in
    let back : GivesAllBack plan v body = record {
      got = λ i j at. got_or (has_get_of body i) (λ none. free.jobs_get k i (record { submitted = known; never_got = never_got body i j at none }));
      same = λ i j at.
          let among = In-slice_get body i (Submit j) at in
          done_as_queued plan ordered free n j (valid.submit i j at) (omega (arith, low, levels_sink plan ordered free.no_circle k j among)) (follows known among);
    } in
    omega (arith, row.done, row.queued, begins_as_it_ends plan v 1 body (job_end v body) valid back (omega arith))

client_inside : (plan : Plan) (c : ℕ) → (client_at plan c).repeat ≡ true → c < length plan.clients
client_inside plan c repeats = elim (cases_lt c (length plan.clients)) [
  | inl inside ↦ inside
  | inr past ↦
      let not : (client_at plan c).repeat ≡ false = ap (λ (client : Client). client.repeat) (get_or_past plan.clients c no_client past) in
      absurd cc
]

client_gives_back : (plan : Plan) → HasValidBodies plan → IsAllGot plan → (c : ℕ) → (client_at plan c).repeat ≡ true → GivesAllBack plan (steady_vector plan) (client_at plan c).body
client_gives_back plan ordered free c repeats = record {
  got = λ i k at. got_or (has_get_of (client_at plan c).body i) (λ none. free.clients_get c i (record { repeats = repeats; never_got = never_got (client_at plan c).body i k at none }));
  same = λ i k at.
      let repeated = In-map (λ (client : Client). client.body) (In-filter (λ (client : Client). client.repeat) (In-get_or plan.clients c no_client (client_inside plan c repeats)) repeats) in
      let known = begins repeated (In-slice_get (client_at plan c).body i (Submit k) at) in
      done_as_queued plan ordered free (suc (get_or (steady_levels plan) k 0)) k ((ordered.clients c).submit i k at) (omega arith) known;
}

-- ---- all rules

class_laws : (plan : Plan) → HasValidBodies plan → IsAllGot plan → (k : ℕ) → BodyLaws DoneWeight plan (steady_vector plan) (job_weight (steady_vector plan) k) (class_at plan k).body
class_laws plan ordered free k = elim (cases_lt k (length plan.classes)) [
  | inl inside ↦
      let v = steady_vector plan in
      let body = (class_at plan k).body in
      body_laws_of plan v 1 body (job_end v body) (job_weight v k) (is_class_row plan ordered free k inside).position
  | inr past ↦ subst (λ (class : Class). BodyLaws DoneWeight plan (steady_vector plan) (job_weight (steady_vector plan) k) class.body) (sym (get_or_past plan.classes k no_class past)) (no_body_laws plan (steady_vector plan) (job_weight (steady_vector plan) k))
]

client_laws : (plan : Plan) → HasValidBodies plan → (c : ℕ) → BodyLaws DoneWeight plan (steady_vector plan) (client_weight (steady_vector plan) c) (client_at plan c).body
client_laws plan ordered c = elim (cases_lt c (length plan.clients)) [
  | inl inside ↦
      let v = steady_vector plan in
      let client = client_at plan c in
      body_laws_of plan v 0 client.body (client_end v client) (client_weight v c) (is_client_row plan ordered c inside)
  | inr past ↦ subst (λ (client : Client). BodyLaws DoneWeight plan (steady_vector plan) (client_weight (steady_vector plan) c) client.body) (sym (get_or_past plan.clients c no_client past)) (no_body_laws plan (steady_vector plan) (client_weight (steady_vector plan) c))
]

loops : (plan : Plan) → HasValidBodies plan → IsAllGot plan → (c : ℕ) → (client_at plan c).repeat ≡ true → client_weight (steady_vector plan) c 0 ≤ client_weight (steady_vector plan) c (length (client_at plan c).body)
loops plan ordered free c repeats =
    let v = steady_vector plan in
    let client = client_at plan c in
    let inside = client_inside plan c repeats in
    let ends : client_end v client ≡ most v client.body = ap (λ (b : Bool). cond b (most v client.body) 0) repeats in
    let first = is_client_row plan ordered c inside 0 (omega arith) in
    let final = is_client_row plan ordered c inside (length client.body) (omega arith) in
    let nothing_left : weight_at plan v 0 client.body (client_end v client) (drop (length client.body) client.body) ≡ client_end v client = ap (weight_at plan v 0 client.body (client_end v client)) (drop-length client.body) in
    let same = begins_as_it_ends plan v 0 client.body (client_end v client) (ordered.clients c) (client_gives_back plan ordered free c repeats) (omega (arith, ends)) in
    omega (arith, first, final, nothing_left, same)

pub steady_laws : (plan : Plan) → HasValidBodies plan → IsAllGot plan → VectorLaws DoneWeight plan (steady_vector plan)
steady_laws plan ordered free = record {
  classes = class_laws plan ordered free;
  clients = client_laws plan ordered;
  begins = λ k inside.
      let row = is_class_row plan ordered free k inside in
      omega (arith, row.queued, row.position 0 (omega arith));
  ends = λ k inside.
      let v = steady_vector plan in
      let body = (class_at plan k).body in
      let row = is_class_row plan ordered free k inside in
      let nothing_left : weight_at plan v 1 body (job_end v body) (drop (length body) body) ≡ job_end v body = ap (weight_at plan v 1 body (job_end v body)) (drop-length body) in
      omega (arith, row.done, row.position (length body) (omega arith), nothing_left, no_worker_weighs plan (class_at plan k).pool);
  loops = loops plan ordered free;
}
