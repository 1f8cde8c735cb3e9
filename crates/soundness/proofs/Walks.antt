-- Along a body the weight of an actor grows at most by what its gets return for jobs that it submitted earlier.
use Rattle.std.proofs.Common.{◌≡◌, ◌≢◌, ℕ, zero, suc, ◌+◌, ◌<◌, ◌≤◌, false, true, cond, inl, inr, ltb, List, length, slice_get, Option, Some, None, refl, sym, ap, ◌∙◌, arith}
use Rattle.std.proofs.lemmas.Bool.{cases_lt, cases_eq, lt-ltb, le-ltb}
use Rattle.std.proofs.lemmas.Option.{slice_get-get_or}
use Rattle.job_bodies.specs.declared.action.Action.{Action}
use Rattle.job_bodies.specs.declared.action.Action.TheVariants as action
use Rattle.job_bodies.specs.Plan.{Plan, class_at, submits, class_of_submit, submitted_class}
use Rattle.job_bodies.specs.ValidBody.{IsValidBody}
use Rattle.job_bodies.proofs.Bodies.{HasValidBodies, ordered}
use Rattle.weights.specs.declared.get_return.GetReturn.{GetReturn}
use Rattle.weights.specs.declared.get_return.GetReturn.TheVariants.{DoneWeight, NoWeight}
use Rattle.weights.specs.GetReturn.{returned_weight}
use Rattle.weights.specs.Vector.{Vector, queued_weight, job_weight, done_weight}
use Rattle.weights.specs.Ranks.{Ranks, level}
use Rattle.soundness.specs.Skipping.{DoneWithinQueued}
use Rattle.soundness.specs.WeightLaws.{RejectedAreLight}
use Rattle.soundness.proofs.VectorLaws.{BodyLaws, VectorLaws, vector_laws}
use Rattle.soundness.proofs.RankLaws.{RankLaws, rank_laws}

-- ---- the weight that gets return

-- the weight that an action returns if it is a get of a submit before position i, and otherwise 0
abbrev pub returned_by : GetReturn → Plan → Vector → List Action → ℕ → Option Action → ℕ
returned_by get_return plan v body i None = 0
returned_by get_return plan v body i (Some (action.Work u)) = 0
returned_by get_return plan v body i (Some (action.Submit k)) = 0
returned_by get_return plan v body i (Some (action.Get t)) = cond (ltb t i) (returned_weight get_return plan v (submitted_class body t)) 0

-- the weight that the n actions from position h on return for submits before position i
abbrev pub returned : GetReturn → Plan → Vector → List Action → ℕ → ℕ → ℕ → ℕ
returned get_return plan v body i h zero = 0
returned get_return plan v body i h (suc n) = returned_by get_return plan v body i (slice_get body h) + returned get_return plan v body i (h + 1) n

-- the number that is w if t is below i, and 0 otherwise, is at most w
below-le : (t i w : ℕ) → cond (ltb t i) w 0 ≤ w
below-le t i w = elim (cases_lt t i) [
  | inl below ↦ omega (arith, ap (λ b. cond b w 0) (lt-ltb t i below))
  | inr past ↦ omega (arith, ap (λ b. cond b w 0) (le-ltb t i past))
]

-- the number that is w if t is below i, and 0 otherwise, does not grow from i to i + 1 if t is not i
below-le_next : (t i w : ℕ) → t ≢ i → cond (ltb t (i + 1)) w 0 ≤ cond (ltb t i) w 0
below-le_next t i w other = elim (cases_lt t i) [
  | inl below ↦ omega (arith, ap (λ b. cond b w 0) (lt-ltb t i below), ap (λ b. cond b w 0) (lt-ltb t (i + 1) (omega arith)))
  | inr past ↦ omega (arith, ap (λ b. cond b w 0) (le-ltb t (i + 1) (omega arith)))
]

-- an action that does not get the submit at i returns for submits before i + 1 at most what it returns for submits before i
returned_by-le : (get_return : GetReturn) (plan : Plan) (v : Vector) (body : List Action) (i : ℕ) (next : Option Action) → next ≢ Some (action.Get i) → returned_by get_return plan v body (i + 1) next ≤ returned_by get_return plan v body i next
returned_by-le get_return plan v body i None other = omega arith
returned_by-le get_return plan v body i (Some (action.Work u)) other = omega arith
returned_by-le get_return plan v body i (Some (action.Submit k)) other = omega arith
returned_by-le get_return plan v body i (Some (action.Get t)) other = below-le_next t i (returned_weight get_return plan v (submitted_class body t)) (λ same. other (ap (λ (u : ℕ). Some (action.Get u)) same))

-- if none of the actions from position h on gets the submit at i, these actions return for submits before i + 1 at most what
-- they return for submits before i
returned-le : (get_return : GetReturn) (plan : Plan) (v : Vector) (body : List Action) (i h n : ℕ) → ((u : ℕ) → h ≤ u → slice_get body u ≢ Some (action.Get i)) → returned get_return plan v body (i + 1) h n ≤ returned get_return plan v body i h n
returned-le get_return plan v body i h zero ungot = omega arith
returned-le get_return plan v body i h (suc n) ungot =
    omega (arith, returned_by-le get_return plan v body i (slice_get body h) (ungot h (omega arith)), returned-le get_return plan v body i (h + 1) n (λ u later. ungot u (omega arith)))

same_get : (t u : ℕ) → Some (action.Get t) ≡ Some (action.Get u) → t ≡ u
same_get t u e = cc

-- the actions from position h on return for submits before i + 1 at most what they return for submits before i, plus the weight
-- of one get of the submit at i
returned_once_at : (get_return : GetReturn) (plan : Plan) (v : Vector) (body : List Action) (i h n : ℕ) (next : Option Action) → IsValidBody plan body
    → returned get_return plan v body (i + 1) (h + 1) n ≤ returned get_return plan v body i (h + 1) n + returned_weight get_return plan v (submitted_class body i) → slice_get body h ≡ next
    → returned_by get_return plan v body (i + 1) next + returned get_return plan v body (i + 1) (h + 1) n ≤ returned_by get_return plan v body i next + returned get_return plan v body i (h + 1) n + returned_weight get_return plan v (submitted_class body i)
returned_once_at get_return plan v body i h n None valid rest is_next = omega (arith, rest)
returned_once_at get_return plan v body i h n (Some (action.Work u)) valid rest is_next = omega (arith, rest)
returned_once_at get_return plan v body i h n (Some (action.Submit k)) valid rest is_next = omega (arith, rest)
returned_once_at get_return plan v body i h n (Some (action.Get t)) valid rest is_next = elim (cases_eq t i) [
  | inl same ↦
      let is_get : slice_get body h ≡ Some (action.Get i) = is_next ∙ ap (λ (u : ℕ). Some (action.Get u)) same in
      let of_class : returned_weight get_return plan v (submitted_class body t) ≡ returned_weight get_return plan v (submitted_class body i) = ap (λ (u : ℕ). returned_weight get_return plan v (submitted_class body u)) same in
      omega (arith, of_class, below-le t (i + 1) (returned_weight get_return plan v (submitted_class body t)), returned-le get_return plan v body i (h + 1) n (λ u later again. valid.once h u i (omega arith) is_get again))
  | inr other ↦ omega (arith, returned_by-le get_return plan v body i (Some (action.Get t)) (λ e. other (same_get t i e)), rest)
]

returned_once : (get_return : GetReturn) (plan : Plan) (v : Vector) (body : List Action) (i h n : ℕ) → IsValidBody plan body → returned get_return plan v body (i + 1) h n ≤ returned get_return plan v body i h n + returned_weight get_return plan v (submitted_class body i)
returned_once get_return plan v body i h zero valid = omega arith
returned_once get_return plan v body i h (suc n) valid = returned_once_at get_return plan v body i h n (slice_get body h) valid (returned_once get_return plan v body i (h + 1) n valid) refl

-- if the action at position i is not a submit, no get refers to position i
no_submit : (plan : Plan) (body : List Action) (i : ℕ) (next : Option Action) → IsValidBody plan body → slice_get body i ≡ next → submits next ≡ false → (u : ℕ) → slice_get body u ≢ Some (action.Get i)
no_submit plan body i next valid is_next fails u gets =
    let is_submit : submits next ≡ true = ap submits (sym is_next) ∙ valid.of_submit u i gets in
    cc

-- ---- a walk along a body

-- the done weight of each class that the body submits is at most its queued weight
abbrev pub SubmitsCoverDone : Plan → Vector → List Action → Type 0
SubmitsCoverDone plan v body = (i k : ℕ) → slice_get body i ≡ Some (action.Submit k) → done_weight plan v k ≤ queued_weight v k

-- a get returns at most the weight of the done job
returned_weight-le : (get_return : GetReturn) (plan : Plan) (v : Vector) (k : ℕ) → returned_weight get_return plan v k ≤ done_weight plan v k
returned_weight-le DoneWeight plan v k = omega arith
returned_weight-le NoWeight plan v k = omega arith

-- a position without an action is at or after the end of the body
at_end : (body : List Action) (i : ℕ) → slice_get body i ≡ None → length body ≤ i
at_end body i none = elim (cases_lt i (length body)) [
  | inl within ↦ let some = slice_get-get_or body i (action.Work 0) within in absurd cc
  | inr past ↦ past
]

module _ (get_return : GetReturn) (plan : Plan) (v : Vector) (weight : ℕ → ℕ) (body : List Action) where
  -- if the number `after` is at most the weight at i + 1 plus what the n actions from i + 1 on return, it is at most the weight
  -- at i plus what the n + 1 actions from i on return
  walk_action : (n i after : ℕ) (next : Option Action) → BodyLaws get_return plan v weight body → IsValidBody plan body → SubmitsCoverDone plan v body → i < length body → after ≤ weight (i + 1) + returned get_return plan v body (i + 1) (i + 1) n → slice_get body i ≡ next
      → after ≤ weight i + (returned_by get_return plan v body i next + returned get_return plan v body i (i + 1) n)
  walk_action n i after None laws valid pay inside rest is_next = let end = at_end body i is_next in absurd (omega arith)
  walk_action n i after (Some (action.Work u)) laws valid pay inside rest is_next =
      omega (arith, rest, laws.work i u is_next, returned-le get_return plan v body i (i + 1) n (λ h later. no_submit plan body i (Some (action.Work u)) valid is_next refl h))
  walk_action n i after (Some (action.Submit k)) laws valid pay inside rest is_next =
      let of_class : returned_weight get_return plan v (submitted_class body i) ≡ returned_weight get_return plan v k = ap (λ (x : Option Action). returned_weight get_return plan v (class_of_submit x)) is_next in
      omega (arith, rest, laws.submit i k is_next, pay i k is_next, returned_weight-le get_return plan v k, of_class, returned_once get_return plan v body i (i + 1) n valid)
  walk_action n i after (Some (action.Get t)) laws valid pay inside rest is_next =
      let weight_back = returned_weight get_return plan v (submitted_class body t) in
      let back : returned_by get_return plan v body i (Some (action.Get t)) ≡ weight_back = ap (λ b. cond b weight_back 0) (lt-ltb t i (valid.behind i t is_next)) in
      omega (arith, rest, laws.get i t is_next, back, returned-le get_return plan v body i (i + 1) n (λ h later. no_submit plan body i (Some (action.Get t)) valid is_next refl h))

  -- the weight at position i + n is at most the weight at position i plus what the n actions between them return for submits
  -- before i
  pub walk : (n i : ℕ) → BodyLaws get_return plan v weight body → IsValidBody plan body → SubmitsCoverDone plan v body → i + n ≤ length body → weight (i + n) ≤ weight i + returned get_return plan v body i i n
  walk zero i laws valid pay inside = let here : weight (i + 0) ≡ weight i = ap weight (omega arith) in omega (arith, here)
  walk (suc n) i laws valid pay inside =
      let same : weight (i + 1 + n) ≡ weight (i + suc n) = ap weight (omega arith) in
      let rest = walk n (i + 1) laws valid pay (omega arith) in
      walk_action n i (weight (i + suc n)) (slice_get body i) laws valid pay (omega arith) (omega (arith, same, rest)) refl

-- ---- a done job weighs at most its queued weight

-- no action returns weight for submits before position 0, since there are none
none_before : (get_return : GetReturn) (plan : Plan) (v : Vector) (body : List Action) (next : Option Action) → returned_by get_return plan v body 0 next ≡ 0
none_before get_return plan v body None = refl
none_before get_return plan v body (Some (action.Work u)) = refl
none_before get_return plan v body (Some (action.Submit k)) = refl
none_before get_return plan v body (Some (action.Get t)) = ap (λ b. cond b (returned_weight get_return plan v (submitted_class body t)) 0) (le-ltb t 0 (omega arith))

none_returned : (get_return : GetReturn) (plan : Plan) (v : Vector) (body : List Action) (h n : ℕ) → returned get_return plan v body 0 h n ≡ 0
none_returned get_return plan v body h zero = refl
none_returned get_return plan v body h (suc n) = omega (arith, none_before get_return plan v body (slice_get body h), none_returned get_return plan v body (h + 1) n)

-- the done weight of each class below this level is at most its queued weight
done_below : (get_return : GetReturn) (plan : Plan) (v : Vector) (ranks : Ranks) (n k : ℕ) → HasValidBodies plan → RankLaws plan ranks → VectorLaws get_return plan v → level ranks k < n → k < length plan.classes → done_weight plan v k ≤ queued_weight v k
done_below get_return plan v ranks zero k ordered ranked laws low inside = absurd (omega arith)
done_below get_return plan v ranks (suc n) k ordered ranked laws low inside =
    let body = (class_at plan k).body in
    let valid = ordered.classes k in
    let pay : SubmitsCoverDone plan v body = λ i k' is_there.
    let sinks = ranked.sinks k i k' is_there in
    done_below get_return plan v ranks n k' ordered ranked laws (omega arith) (valid.submit i k' is_there) in
    let whole = walk get_return plan v (job_weight v k) body (length body) 0 (laws.classes k) valid pay (omega arith) in
    let last : job_weight v k (0 + length body) ≡ job_weight v k (length body) = ap (job_weight v k) (omega arith) in
    omega (arith, whole, last, none_returned get_return plan v body 0 (length body), laws.begins k inside, laws.ends k inside)

pub done-le-queued : (get_return : GetReturn) (plan : Plan) (v : Vector) (ranks : Ranks) (k : ℕ) → HasValidBodies plan → RankLaws plan ranks → VectorLaws get_return plan v → k < length plan.classes → done_weight plan v k ≤ queued_weight v k
done-le-queued get_return plan v ranks k ordered ranked laws inside = done_below get_return plan v ranks (level ranks k + 1) k ordered ranked laws (omega arith) inside

-- a rejected job does not increase a weight, because a done job weighs at most its queued weight
pub rejected_are_light : (get_return : GetReturn) (plan : Plan) (v : Vector) (ranks : Ranks) → HasValidBodies plan → RankLaws plan ranks → VectorLaws get_return plan v → RejectedAreLight plan v
rejected_are_light get_return plan v ranks ordered ranked laws k inside may = done-le-queued get_return plan v ranks k ordered ranked laws inside

-- the submits of each body cover the done weights of their classes
pub submits_cover_done : (get_return : GetReturn) (plan : Plan) (v : Vector) (ranks : Ranks) (k : ℕ) → HasValidBodies plan → RankLaws plan ranks → VectorLaws get_return plan v → SubmitsCoverDone plan v (class_at plan k).body
submits_cover_done get_return plan v ranks k ordered ranked laws i k' is_there = done-le-queued get_return plan v ranks k' ordered ranked laws ((ordered.classes k).submit i k' is_there)

-- the law that a done job weighs at most its queued weight
pub done_within_queued : DoneWithinQueued
done_within_queued get_return plan v ranks k well_formed ranks_hold rows_hold inside =
    done-le-queued get_return plan v ranks k (ordered plan well_formed) (rank_laws plan ranks ranks_hold) (vector_laws get_return plan v rows_hold) inside
