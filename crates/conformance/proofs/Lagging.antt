-- A walk of a path and a body, and a state of the machine in which the actor lags.
use Rattle.std.proofs.Common.{◌≡◌, ◌≢◌, ℕ, suc, ◌<◌, ◌≤◌, ◌⊎◌, inl, inr, ⊎_elim, Bool, true, false, ◌&&◌, not, eqb, List, length, get_or, map, slice_get, Option, Some, None, refl, sym, ap, ◌∙◌, arith}
use Rattle.std.specs.List.{list_any}
use Rattle.std.proofs.lemmas.Bool.{false≢true, and_parts, and_from, eqb-true, eq-eqb, not-true}
use Rattle.support.specs.In.{In}
use Rattle.support.specs.Places.{places_where, last_of}
use Rattle.support.proofs.Members.{list_any_at_In, In-from_list_any}
use Rattle.support.proofs.Sums.{count_by-map}
use Rattle.job_bodies.specs.declared.action.Action.{Action}
use Rattle.job_bodies.specs.declared.action.Action.TheVariants as action
use Rattle.job_bodies.specs.Plan.{Plan, submitted_class}
use Rattle.job_bodies.proofs.Bodies.{HasValidBodies}
use Rattle.pool_machine.specs.declared.parent.Parent.{Parent}
use Rattle.pool_machine.specs.State.{Stage, CreatedJob, no_job, is_made_by}
use Rattle.pool_machine.proofs.Positions.{valid_point}
use Rattle.pool_machine.proofs.Children.{maker_of, child_is, one_child}
use Rattle.cert_text.specs.Cert.{Cert}
use Rattle.soundness.specs.Execute.{JavaState}
use Rattle.soundness.proofs.CertLaws.{CertLaws}
use Rattle.soundness.proofs.JavaTheorem.{JavaSound}
use Rattle.soundness.proofs.Skipping.{choice_keeps}
use Rattle.conformance.specs.declared.open_job.OpenJob.{OpenJob}
use Rattle.conformance.specs.Path.{open_in_body, IsWithin}
use Rattle.conformance.specs.LaggingRun.{MachineJob, is_open, OthersAct, stays, acts}
use Rattle.conformance.proofs.MachineJobs.{as_open, counts_as, IsMap, at_most}
use Rattle.conformance.proofs.OpenSubmits.{open_below, open_apart, get_is_open, fewer_after_get}
use Rattle.conformance.proofs.Undisturbed.{KeepsJobs, HasPosition}
use Rattle.conformance.proofs.OthersAct.{IsQuiet, IsUndisturbed, choice_other}

-- The actor's submit at this position of its body has a latest job, of its class and not got. It is open in the path or done.
pub record HasSlot (list : List CreatedJob) (a : Parent) (body : List Action) (jobs : List MachineJob) (t : ℕ) : Type 0 where
  pub number : ℕ
  pub is_child : last_of (places_where (is_made_by a t) list) ≡ Some number
  pub of_class : (get_or list number no_job).class ≡ submitted_class body t
  pub unclaimed : (get_or list number no_job).stage ≢ Stage.Claimed
  pub filled : (is_open number jobs ≡ true) ⊎ ((get_or list number no_job).stage ≡ Stage.Done)

-- The open job of the path is a job of the actor in the machine, of its class and not got.
pub record IsOwn (list : List CreatedJob) (a : Parent) (one : MachineJob) : Type 0 where
  pub inside : one.number < length list
  pub of_actor : (get_or list one.number no_job).parent ≡ a
  pub of_class : (get_or list one.number no_job).class ≡ one.class
  pub unclaimed : (get_or list one.number no_job).stage ≢ Stage.Claimed

-- The walk is at index q of the body, and the machine's actor at m. Each open submit before m has its job. If the body moves alone
-- from m to q, at each index at most as many jobs of each class are open in the path as in the body.
pub record Lags (plan : Plan) (cert : Cert) (a : Parent) (body : List Action) (jobs : List MachineJob) (m q : ℕ) (s : JavaState) : Type 0 where
  pub sound : JavaSound plan cert s
  pub stands : HasPosition plan s.machine a body m
  pub behind : m ≤ q
  pub inside : q ≤ length body
  pub within : (i : ℕ) → m ≤ i → i ≤ q → IsWithin (map as_open jobs) body i
  pub own : (one : MachineJob) → In one jobs → IsOwn s.machine.jobs a one
  pub slots : (t : ℕ) → In t (open_in_body body m) → HasSlot s.machine.jobs a body jobs t

-- ---- a change that keeps the actor's jobs
pub slot_kept : (a : Parent) (body : List Action) (jobs : List MachineJob) (m t : ℕ) (list list' : List CreatedJob) → KeepsJobs a m list list' → t < m → HasSlot list a body jobs t → HasSlot list' a body jobs t
slot_kept a body jobs m t list list' keeps lt slot =
    let found = child_is list a t slot.number slot.is_child in
    let own = sym (maker_of (get_or list slot.number no_job) a t found.1).0 in
    record {
      number = slot.number;
      is_child = keeps.children t lt ∙ slot.is_child;
      of_class = keeps.classes slot.number found.0 ∙ slot.of_class;
      unclaimed = keeps.unclaimed slot.number found.0 own slot.unclaimed;
      filled = ⊎_elim (λ open_there. inl open_there) (λ is. inr (keeps.done slot.number found.0 own is)) slot.filled;
    }

pub own_kept : (a : Parent) (m : ℕ) (one : MachineJob) (list list' : List CreatedJob) → KeepsJobs a m list list' → IsOwn list a one → IsOwn list' a one
own_kept a m one list list' keeps own = record {
  inside = let lt = own.inside in let le = keeps.longer in omega (arith, lt, le);
  of_actor = keeps.parents one.number own.inside ∙ own.of_actor;
  of_class = keeps.classes one.number own.inside ∙ own.of_class;
  unclaimed = keeps.unclaimed one.number own.inside own.of_actor own.unclaimed;
}

module _ (plan : Plan) (cert : Cert) (a : Parent) (body : List Action) (ordered : HasValidBodies plan) (laws : CertLaws plan cert) where
  pub undisturbed_lags : (jobs : List MachineJob) (m q : ℕ) (s s' : JavaState) → IsUndisturbed plan a body m m s.machine s'.machine → JavaSound plan cert s' → Lags plan cert a body jobs m q s → Lags plan cert a body jobs m q s'
  undisturbed_lags jobs m q s s' same sound lags = record {
    sound = sound;
    stands = same.stands;
    behind = lags.behind;
    inside = lags.inside;
    within = lags.within;
    own = λ one i. own_kept a m one s.machine.jobs s'.machine.jobs same.jobs (lags.own one i);
    slots = λ t i. slot_kept a body jobs m t s.machine.jobs s'.machine.jobs same.jobs (open_below body m t i) (lags.slots t i);
  }

  -- Choices of others keep the relation.
  pub others_lag : (jobs : List MachineJob) (m q : ℕ) {s s' : JavaState} → OthersAct plan a s s' → Lags plan cert a body jobs m q s → IsQuiet a s → Lags plan cert a body jobs m q s' × IsQuiet a s'
  others_lag jobs m q stays lags quiet = (lags, quiet)
  others_lag jobs m q (acts {s = s} {next = next} x other step rest) lags quiet =
      let change = choice_other plan cert a body m m s x next ordered lags.sound other lags.stands step in
      others_lag jobs m q rest (undisturbed_lags jobs m q s next change.undisturbed (choice_keeps plan cert ordered laws s x next lags.sound step) lags) (change.quiet quiet)

  -- ---- a free slot
  abbrev or_zero : Option ℕ → ℕ
  or_zero None = 0
  or_zero (Some n) = n

  -- The number of the latest job of a submit.
  abbrev number_at : List CreatedJob → ℕ → ℕ
  number_at list t = or_zero (last_of (places_where (is_made_by a t) list))

  -- A submit of the same class that is open in the body, and whose job is not open in the path.
  pub record HasFreeSlot (list : List CreatedJob) (jobs : List MachineJob) (m t : ℕ) : Type 0 where
    pub submit : ℕ
    pub at : In submit (open_in_body body m)
    pub of_class : submitted_class body submit ≡ submitted_class body t
    pub slot : HasSlot list a body jobs submit
    pub free : is_open slot.number jobs ≡ false

  not_false : (b : Bool) → (b ≡ false → ⊥) → b ≡ true
  not_false true other = refl
  not_false false other = absurd (other refl)

  abbrev of_class : ℕ → ℕ → Bool
  of_class c u = eqb (submitted_class body u) c

  abbrev is_free : List CreatedJob → List MachineJob → ℕ → ℕ → Bool
  is_free list jobs c u = of_class c u && not (is_open (number_at list u) jobs)

  free_if : (b : Bool) (jobs : List MachineJob) (m q t : ℕ) (s : JavaState) → Lags plan cert a body jobs m q s → m < q → slice_get body m ≡ Some (action.Get t) → list_any (is_free s.machine.jobs jobs (submitted_class body t)) (open_in_body body m) ≡ b → HasFreeSlot s.machine.jobs jobs m t
  free_if true jobs m q t s lags lt e some =
      let list = s.machine.jobs in
      let c = submitted_class body t in
      let found = In-from_list_any (is_free list jobs c) (open_in_body body m) some in
      let parts = and_parts (of_class c found.0) (not (is_open (number_at list found.0) jobs)) found.2 in
      let slot = lags.slots found.0 found.1 in
      record {
        submit = found.0;
        at = found.1;
        of_class = eqb-true (submitted_class body found.0) c parts.0;
        slot = slot;
        free = ap (λ (n : ℕ). is_open n jobs) (sym (ap or_zero slot.is_child)) ∙ not-true (is_open (number_at list found.0) jobs) parts.1;
      }
  free_if false jobs m q t s lags lt e none =
      let list = s.machine.jobs in
      let c = submitted_class body t in
      let opens = open_in_body body m in
      let counted = λ (one : MachineJob). eqb one.class c in
      let numbered : (u : ℕ) → (i : In u opens) → number_at list u ≡ (lags.slots u i).number = λ u i. ap or_zero (lags.slots u i).is_child in
      let taken : (u : ℕ) → In u opens → of_class c u ≡ true → is_open (number_at list u) jobs ≡ true =
      λ u i passes. not_false (is_open (number_at list u) jobs)
      (λ free. false≢true (sym none ∙ list_any_at_In (is_free list jobs c) i (and_from (of_class c u) (not (is_open (number_at list u) jobs)) passes (ap not free)))) in
      let maps : IsMap (of_class c) (number_at list) counted opens jobs = record {
        into = λ u i passes.
            let found = In-from_list_any (λ (one : MachineJob). eqb one.number (number_at list u)) jobs (taken u i passes) in
            let number : found.0.number ≡ (lags.slots u i).number = eqb-true found.0.number (number_at list u) found.2 ∙ numbered u i in
            let class : found.0.class ≡ c = sym (lags.own found.0 found.1).of_class ∙ ap (λ (n : ℕ). (get_or list n no_job).class) number ∙ (lags.slots u i).of_class ∙ eqb-true (submitted_class body u) c passes in
            list_any_at_In (counts_as counted (number_at list u)) found.1 (and_from (eqb found.0.number (number_at list u)) (counted found.0) found.2 (eq-eqb found.0.class c class));
        once = λ u v i j passes passes' same.
            let number : (lags.slots u i).number ≡ (lags.slots v j).number = sym (numbered u i) ∙ same ∙ numbered v j in
            (one_child list a a u v (lags.slots v j).number ((lags.slots u i).is_child ∙ ap (λ (n : ℕ). Some n) number) (lags.slots v j).is_child).1;
      } in
      let most = at_most (of_class c) (number_at list) counted opens jobs (open_apart body m) maps in
      let in_path = count_by-map (λ (one : OpenJob). eqb one.class c) as_open jobs in
      let behind = lags.behind in
      let within = lags.within (suc m) (omega arith) (omega (arith, lt)) c in
      let fewer = fewer_after_get body m t e (get_is_open plan body m t (valid_point plan s.machine a body m ordered lags.stands) e) in
      absurd (omega (arith, most, in_path, within, fewer))

  -- At a get that waits for a job that is open in the path, another job of its class can be got.
  pub free_slot : (jobs : List MachineJob) (m q t : ℕ) (s : JavaState) → Lags plan cert a body jobs m q s → m < q → slice_get body m ≡ Some (action.Get t) → HasFreeSlot s.machine.jobs jobs m t
  free_slot jobs m q t s lags lt e = free_if (list_any (is_free s.machine.jobs jobs (submitted_class body t)) (open_in_body body m)) jobs m q t s lags lt e refl
