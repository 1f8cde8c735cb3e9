-- In an accepted certificate, the reach of each class for which the last thread of a pool can wait is below the rank of the pool, so no pool
-- waits for itself.
use Rattle.std.proofs.Common.{◌≡◌, ℕ, ◌*◌, ◌<◌, ◌≤◌, Bool, true, false, not, cond, List, length, map, get_or, ltb, sum_by, IsTrue, ⊎_elim, refl, sym, ap, subst, ◌∙◌, arith, zero-add}
use Rattle.std.specs.List.{enumerate_from}
use Rattle.std.proofs.lemmas.Bool.{cases_Bool, ltb-true, false≢true}
use Rattle.std.proofs.lemmas.List.Sums.{sum_by-cons}
use Rattle.std.proofs.lemmas.Option.{slice_get_within, slice_get-get_or, get_or_from_slice_get}
use Rattle.std.proofs.Math.Nat.{mul-le-mul_left}
use Rattle.support.specs.In.{In, here, there}
use Rattle.support.proofs.Members.{In-map_from, In-enumerate_from}
use Rattle.job_bodies.specs.declared.action.Action.{Action}
use Rattle.job_bodies.specs.declared.action.Action.TheVariants.{Submit, Get}
use Rattle.job_bodies.specs.Plan.{Pool, Class, Client, Plan, no_pool, no_class, no_client, pool_at, class_at, client_at, submitted_class, least_threads}
use Rattle.job_bodies.specs.WellFormed.{IsWellFormed}
use Rattle.job_bodies.proofs.Bodies.{HasValidBodies, ordered}
use Rattle.weights.specs.declared.get_return.GetReturn.TheVariants.{DoneWeight}
use Rattle.weights.specs.Vector.{Vector, workers_weight, queued_weight, job_weight, client_weight, total}
use Rattle.weights.specs.Ranks.{rank, reach, is_counted, is_counted_action}
use Rattle.cert_text.specs.Cert.{Cert, pool_cert_at}
use Rattle.soundness.specs.Accepted.{accepted}
use Rattle.soundness.proofs.VectorLaws.{class_of_action}
use Rattle.soundness.proofs.CertLaws.{CertLaws, cert_laws}
use Rattle.size_search.specs.Submitted.{IsSubmitted, begins, follows}
use Rattle.size_search.specs.ByClients.{client_bodies}
use Rattle.size_search.specs.Waiting.{GetsClass, HoldsLastThread, WaitsFor, at_get, by_job, by_thread, WaitsForItself}
use Rattle.size_search.specs.Widened.{outline}
use Rattle.size_search.specs.NoSizesHelp.{IsBeyondSizes}
use Rattle.size_search.proofs.Changes.{same_timeout}
use Rattle.size_search.proofs.Circles.{submitted_in}
use Rattle.size_search.proofs.Opened.{place_in}
use Rattle.size_search.proofs.JobGraphs.{got_inside, getter_inside}
use Rattle.size_search.proofs.Losses.{lost_at_most}
use Rattle.size_search.proofs.Repeats.{IsWeighed, none_gains}

-- ---- a total of 0

term-le : {X : Type 0} (f : X → ℕ) {x : X} {xs : List X} → In x xs → f x ≤ sum_by f xs
term-le f {x} (here {xs = xs}) = omega (arith, sum_by-cons f x xs)
term-le f (there {y = y} {xs = xs} at) = omega (arith, sum_by-cons f y xs, term-le f at)

-- the total of the vector is 0
record IsWeightless (plan : Plan) (v : Vector) : Type 0 where
  worker : (p : ℕ) → p < length plan.pools → workers_weight v p ≡ 0
  client : (c : ℕ) → c < length plan.clients → client_weight v c 0 ≡ 0

-- the clients' part of a total, and the workers'
abbrev clients_part : Plan → Vector → ℕ
clients_part plan v = sum_by (λ (entry : ℕ × Client). entry.1.count * client_weight v entry.0 0) (enumerate_from 0 plan.clients)

abbrev workers_part : Plan → Vector → ℕ
workers_part plan v = sum_by (λ (entry : ℕ × Pool). workers_weight v entry.0 * entry.1.max) (enumerate_from 0 plan.pools)

no_factor : (m n : ℕ) → 1 ≤ n → m * n ≤ 0 → m ≡ 0
no_factor m n some none = omega (arith, mul-le-mul_left m some, none)

weightless : (plan : Plan) (v : Vector) → HasValidBodies plan → total plan v ≤ 0 → IsWeightless plan v
weightless plan v valid none = record { worker = worker; client = client }
  where
    worker : (p : ℕ) → p < length plan.pools → workers_weight v p ≡ 0
    worker p inside =
        let pool = pool_at plan p in
        let at = In-enumerate_from 0 plan.pools p pool p (slice_get-get_or plan.pools p no_pool inside) (zero-add p) in
        let term : workers_weight v p * pool.max ≤ workers_part plan v = term-le (λ (entry : ℕ × Pool). workers_weight v entry.0 * entry.1.max) at in
        no_factor (workers_weight v p) pool.max (omega (arith, valid.core p inside, valid.max p inside)) (omega (arith, term, none))

    client : (c : ℕ) → c < length plan.clients → client_weight v c 0 ≡ 0
    client c inside =
        let client = client_at plan c in
        let at = In-enumerate_from 0 plan.clients c client c (slice_get-get_or plan.clients c no_client inside) (zero-add c) in
        let term : client.count * client_weight v c 0 ≤ clients_part plan v = term-le (λ (entry : ℕ × Client). entry.1.count * client_weight v entry.0 0) at in
        no_factor (client_weight v c 0) client.count (valid.count c inside) (omega (arith, term, none))

-- ---- jobs that clients submit have no weight

-- a client has this body
record IsBodyOf (plan : Plan) (body : List Action) : Type 0 where
  client : ℕ
  inside : client < length plan.clients
  same : (client_at plan client).body ≡ body

body_of : (plan : Plan) (body : List Action) → In body (client_bodies plan) → IsBodyOf plan body
body_of plan body from =
    let of_client = In-map_from (λ (client : Client). client.body) plan.clients from in
    let found = place_in of_client.1 in
    let is : client_at plan found.0 ≡ of_client.0 = get_or_from_slice_get plan.clients found.0 of_client.0 no_client found.1 in
    record { client = found.0; inside = slice_get_within plan.clients found.0 of_client.0 found.1; same = ap (λ (client : Client). client.body) is ∙ of_client.2 }

-- a job of a class that clients submit has no weight at its positions
job_weightless : (plan : Plan) (cert : Cert) (v : Vector) → IsWeighed DoneWeight plan v cert.ranks → IsWeightless plan v → (k i : ℕ) → k < length plan.classes → i ≤ length (class_at plan k).body → queued_weight v k ≡ 0 → job_weight v k i ≡ 0
job_weightless plan cert v weighed none k i inside within queued =
    let body = (class_at plan k).body in
    let valid = weighed.ordered.classes k in
    omega (
      arith,
      lost_at_most DoneWeight plan v (job_weight v k) body i valid (weighed.vector.classes k) (none_gains DoneWeight plan v cert.ranks body weighed valid) within,
      weighed.vector.begins k inside,
      queued,
      none.worker (class_at plan k).pool (weighed.ordered.pools k inside),
    )

-- a queued job that clients submit, directly or through other jobs, has no weight
queued_weightless : (plan : Plan) (cert : Cert) (v : Vector) → IsWeighed DoneWeight plan v cert.ranks → IsWeightless plan v → {k : ℕ} → IsSubmitted plan (client_bodies plan) k → queued_weight v k ≡ 0
queued_weightless plan cert v weighed none (begins {k = k} {body = body} from at) =
    let of = body_of plan body from in
    let found = place_in (subst (In (Submit k)) (sym of.same) at) in
    let own = (client_at plan of.client).body in
    let valid = weighed.ordered.clients of.client in
    let within = slice_get_within own found.0 (Submit k) found.1 in
    omega (
      arith,
      (weighed.vector.clients of.client).submit found.0 k found.1,
      none.client of.client of.inside,
      lost_at_most DoneWeight plan v (client_weight v of.client) own found.0 valid (weighed.vector.clients of.client) (none_gains DoneWeight plan v cert.ranks own weighed valid) (omega (arith, within)),
    )
queued_weightless plan cert v weighed none (follows {j = j} {k = k} known at) =
    let found = place_in at in
    let body = (class_at plan j).body in
    let within = slice_get_within body found.0 (Submit k) found.1 in
    let inside = class_of_action plan j found.0 (Submit k) found.1 in
    omega (arith, (weighed.vector.classes j).submit found.0 k found.1, job_weightless plan cert v weighed none j found.0 inside (omega (arith, within)) (queued_weightless plan cert v weighed none known))

-- ---- the reach of a class that the last thread of a pool gets

-- a get of a class that can hold the last thread of its pool is not counted
below_rank : (plan : Plan) (cert : Cert) (k j : ℕ) → IsWellFormed plan → CertLaws plan cert → HoldsLastThread plan k j → reach cert.ranks j < rank cert.ranks (class_at plan k).pool
below_rank plan cert k j well laws holds =
    let valid = ordered plan well in
    let inside = getter_inside plan k j holds.gets in
    let p = (class_at plan k).pool in
    let v = (pool_cert_at cert p).blocked in
    let blocked = laws.blocked p (valid.pools k inside) in
    let body = (class_at plan k).body in
    let t = holds.gets.submit in
    let found = place_in holds.gets.at in
    let one : least_threads (pool_at plan p) ≡ 1 = ap (λ (b : Bool). cond b 1 (pool_at plan p).core) holds.may_lose in
    let weighed : IsWeighed DoneWeight plan v cert.ranks = record { ordered = valid; vector = blocked.laws; levels = laws.ranks } in
    let none = weightless plan v valid (omega (arith, blocked.within, one)) in
    let within = slice_get_within body found.0 (Get t) found.1 in
    let weight = job_weightless plan cert v weighed none k found.0 inside (omega (arith, within)) (queued_weightless plan cert v weighed none holds.submitted) in
    let is : is_counted plan cert.ranks k found.0 ≡ not (ltb (reach cert.ranks (submitted_class body t)) (rank cert.ranks p)) = ap (is_counted_action plan cert.ranks k) found.1 in
    ⊎_elim
    (λ (counted : is_counted plan cert.ranks k found.0 ≡ true). absurd (omega (arith, weight, blocked.blocked k found.0 t refl found.1 counted)))
    (λ (free : is_counted plan cert.ranks k found.0 ≡ false).
    let less : ltb (reach cert.ranks (submitted_class body t)) (rank cert.ranks p) ≡ true = not_false (ltb (reach cert.ranks (submitted_class body t)) (rank cert.ranks p)) (sym is ∙ free) in
    subst (λ (i : ℕ). reach cert.ranks i < rank cert.ranks p) holds.gets.of_class (ltb-true (reach cert.ranks (submitted_class body t)) (rank cert.ranks p) less))
    (cases_Bool (is_counted plan cert.ranks k found.0))
  where
    not_false : (b : Bool) → not b ≡ false → b ≡ true
    not_false true is = refl
    not_false false is = absurd (false≢true (sym is))

-- the reach of a class that is got is at most that of the class that gets it
falls : (plan : Plan) (cert : Cert) (i j : ℕ) → CertLaws plan cert → GetsClass (class_at plan i).body j → reach cert.ranks j ≤ reach cert.ranks i
falls plan cert i j laws gets =
    let found = place_in gets.at in
    subst (λ (k : ℕ). reach cert.ranks k ≤ reach cert.ranks i) gets.of_class (laws.ranks.falls i found.0 gets.submit found.1)

waited_below : (plan : Plan) (cert : Cert) (p : ℕ) → IsWellFormed plan → CertLaws plan cert → {j : ℕ} → WaitsFor plan p j → (j < length plan.classes) × (reach cert.ranks j < rank cert.ranks p)
waited_below plan cert p well laws (at_get {k = k} {j = j} of_pool holds) = (
  got_inside plan (class_at plan k).body j ((ordered plan well).classes k) holds.gets,
  subst (λ (q : ℕ). reach cert.ranks j < rank cert.ranks q) of_pool (below_rank plan cert k j well laws holds),
)
waited_below plan cert p well laws (by_job {i = i} {j = j} waits gets) = (
  got_inside plan (class_at plan i).body j ((ordered plan well).classes i) gets,
  omega (arith, falls plan cert i j laws gets, (waited_below plan cert p well laws waits).1),
)
waited_below plan cert p well laws (by_thread {i = i} {k = k} {j = j} waits same holds) =
    let before = waited_below plan cert p well laws waits in
    let below = subst (λ (q : ℕ). reach cert.ranks j < rank cert.ranks q) same (below_rank plan cert k j well laws holds) in (
      got_inside plan (class_at plan k).body j ((ordered plan well).classes k) holds.gets,
      omega (arith, below, laws.ranks.reaches i before.0, before.1),
    )

none_waits : (plan : Plan) (cert : Cert) (p : ℕ) → IsWellFormed plan → IsTrue (accepted plan cert) → WaitsForItself plan p → ⊥
none_waits plan cert p well is_accepted waits =
    let laws = cert_laws plan cert is_accepted in
    let found = waited_below plan cert p well laws waits.waits in
    let own = subst (λ (q : ℕ). rank cert.ranks q ≤ reach cert.ranks waits.class) waits.of_pool (laws.ranks.reaches waits.class found.0) in
    omega (arith, own, found.1)

-- ---- plans that differ only in sizes

-- a plan with the same classes, clients and core timeouts has the same waits
pub record HasSameWaits (plan other : Plan) : Type 0 where
  pub classes : other.classes ≡ plan.classes
  pub clients : other.clients ≡ plan.clients
  pub timeouts : (p : ℕ) → (pool_at other p).core_timeout ≡ (pool_at plan p).core_timeout

same_class : (plan other : Plan) (k : ℕ) → HasSameWaits plan other → class_at other k ≡ class_at plan k
same_class plan other k same = ap (λ (all : List Class). get_or all k no_class) same.classes

holds_in : (plan other : Plan) (k j : ℕ) → HasSameWaits plan other → HoldsLastThread plan k j → HoldsLastThread other k j
holds_in plan other k j same holds =
    let class = same_class plan other k same in
    record {
      submitted = subst (λ (clients : List Client). IsSubmitted other (map (λ (client : Client). client.body) clients) k) (sym same.clients) (submitted_in plan other (client_bodies plan) same.classes holds.submitted);
      may_lose = ap (λ (any : Class). (pool_at other any.pool).core_timeout) class ∙ (same.timeouts (class_at plan k).pool ∙ holds.may_lose);
      gets = subst (λ (any : Class). GetsClass any.body j) (sym class) holds.gets;
    }

waits_in : (plan other : Plan) (p : ℕ) → HasSameWaits plan other → {j : ℕ} → WaitsFor plan p j → WaitsFor other p j
waits_in plan other p same (at_get {k = k} {j = j} of_pool holds) = at_get (ap (λ (any : Class). any.pool) (same_class plan other k same) ∙ of_pool) (holds_in plan other k j same holds)
waits_in plan other p same (by_job {i = i} {j = j} waits gets) = by_job (waits_in plan other p same waits) (subst (λ (any : Class). GetsClass any.body j) (sym (same_class plan other i same)) gets)
waits_in plan other p same (by_thread {i = i} {k = k} {j = j} waits same_pool holds) =
    by_thread (waits_in plan other p same waits)
    (ap (λ (any : Class). any.pool) (same_class plan other k same) ∙ (same_pool ∙ sym (ap (λ (any : Class). any.pool) (same_class plan other i same))))
    (holds_in plan other k j same holds)

same_waits : (plan other : Plan) → outline other ≡ outline plan → HasSameWaits plan other
same_waits plan other same = record {
  classes = ap (λ (any : Plan). any.classes) same;
  clients = ap (λ (any : Plan). any.clients) same;
  timeouts = λ p. same_timeout plan other p same;
}

pub itself_in : (plan other : Plan) (p : ℕ) → HasSameWaits plan other → WaitsForItself plan p → WaitsForItself other p
itself_in plan other p alike waits = record {
  class = waits.class;
  of_pool = ap (λ (any : Class). any.pool) (same_class plan other waits.class alike) ∙ waits.of_pool;
  waits = waits_in plan other p alike waits.waits;
}

pub pool_waits_for_itself : (plan : Plan) (p : ℕ) → WaitsForItself plan p → IsBeyondSizes plan
pool_waits_for_itself plan p waits other cert well same is_accepted = none_waits other cert p well is_accepted (itself_in plan other p (same_waits plan other same) waits)
