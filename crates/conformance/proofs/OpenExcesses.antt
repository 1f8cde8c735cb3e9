-- Why the body cannot make a submit: too many jobs are open on the way to it.
use Rattle.std.proofs.Common.{◌≡◌, ℕ, zero, suc, ◌<◌, ◌≤◌, inl, inr, true, eqb, List, length, get_or, Option, Some, None, refl, sym, ap, subst, ◌∙◌, arith}
use Rattle.std.proofs.lemmas.Bool.{cases_lt, cases_Bool, eqb-true, eqb-false}
use Rattle.std.proofs.lemmas.Option.{same_Some, none-some}
use Rattle.job_bodies.specs.declared.action.Action.{Action}
use Rattle.conformance.specs.declared.body_gets.BodyGet.{BodyGet}
use Rattle.conformance.specs.declared.open_job.OpenJob.{OpenJob}
use Rattle.conformance.specs.declared.open_excess.OpenExcess.{OpenExcess}
use Rattle.conformance.specs.declared.step.ActorKind.{ActorKind}
use Rattle.conformance.specs.declared.step.PathStep.{PathStep}
use Rattle.conformance.specs.declared.walk_state.WalkState.{WalkState}
use Rattle.conformance.specs.Path.{Walks, IsWithin, count_in, count_in_body}
use Rattle.conformance.specs.BodyGets.{AreGets, get_at}
use Rattle.conformance.specs.BlockingGet.{IsBlocked}
use Rattle.conformance.specs.OpenExcess.{IsSubmitAhead, IsOpenExcess}
use Rattle.conformance.specs.WalkState.{is_at, HasTables}
use Rattle.conformance.proofs.OpenCounts.{get_limit, count_stays}
use Rattle.conformance.proofs.PassedGets as passed

-- A state in which the way to the next submit is blocked. No walk goes further before this submit.
module _ (kind : ActorKind) (body : List Action) (path : List PathStep) (place : ℕ) (state : WalkState) (tables : HasTables body state) (sound : (index : ℕ) → is_at state index ≡ true → Walks kind body path index place state.jobs.items)
    (gets : List (Option BodyGet)) (are_gets : AreGets body gets) (submit : ℕ) (in_body : submit < length body) (get : BodyGet) (way : IsBlocked state.row.items state.passes.items gets (suc submit) submit get)
    (ahead : IsSubmitAhead kind body path place submit) (next : (other : ℕ) → IsSubmitAhead kind body path place other → submit ≤ other)
    (last : (index : ℕ) (others : List OpenJob) → Walks kind body path index place others → index ≤ submit → index ≤ way.reached) where
  get_here : (q : ℕ) → q < length body → get_or gets q None ≡ get_at body q
  get_here = passed.get_here kind body path place state tables sound gets are_gets

  fits_before : (index : ℕ) → way.reached ≤ index → index ≤ way.stop → IsWithin state.jobs.items body index
  fits_before = passed.fits_before kind body path place state tables sound gets are_gets submit (omega (arith, in_body)) get way

  -- Too many jobs are open for the first get.
  first_exceeds : way.first.limit < count_in get.class state.jobs.items
  first_exceeds = passed.first_exceeds kind body path place state tables sound gets are_gets submit (omega (arith, in_body)) get way

  least_first : get.limit ≤ way.first.limit
  least_first = way.least way.stop way.first (omega arith) way.within way.first_is way.same_class

  first_count : count_in_body get.class body (suc way.stop) ≡ way.first.limit
  first_count = passed.first_count kind body path place state tables sound gets are_gets submit (omega (arith, in_body)) get way

  limit_at_get : (q : ℕ) (other : BodyGet) → way.stop ≤ q → q < submit → get_at body q ≡ Some other → other.class ≡ get.class → get.limit ≤ count_in_body get.class body (suc q)
  limit_at_get q other above lt at same =
      let long = in_body in
      let less = way.least q other above lt (get_here q (omega (arith, lt, long)) ∙ at) same in
      let count = subst (λ k. count_in_body k body (suc q) ≡ other.limit) same (get_limit body q other at) in
      omega (arith, less, count)

  -- Over one more action.
  least_next : (q : ℕ) → way.stop < q → suc q ≤ submit → (o : Option BodyGet) → get_at body q ≡ o → get.limit ≤ count_in_body get.class body q → get.limit ≤ count_in_body get.class body (suc q)
  least_next q later within None e before =
      let stays = count_stays get.class body q (λ other at same. none-some other (sym e ∙ at)) in
      omega (arith, stays, before)
  least_next q later within (Some other) e before = elim (cases_Bool (eqb other.class get.class)) [
    | inl same ↦ limit_at_get q other (omega (arith, later)) (omega (arith, within)) e (eqb-true other.class get.class same)
    | inr differs ↦
        let stays = count_stays get.class body q (λ one at same. eqb-false other.class get.class differs (ap (λ (g : BodyGet). g.class) (same_Some other one (sym e ∙ at)) ∙ same)) in
        omega (arith, stays, before)
  ]

  -- Past the first get, each index has at least the limit.
  least_after_stop : (index : ℕ) → way.stop < index → index ≤ submit → get.limit ≤ count_in_body get.class body index
  least_after_stop zero above within = absurd (omega (arith, above))
  least_after_stop (suc q) above within = elim (cases_lt way.stop q) [
    | inl later ↦ least_next q later within (get_at body q) refl (least_after_stop q later (omega (arith, within)))
    | inr at_stop ↦
        let same : way.stop ≡ q = omega (arith, above, at_stop) in
        let count = subst (λ n. count_in_body get.class body (suc n) ≡ way.first.limit) same first_count in
        let less = least_first in
        omega (arith, count, less)
  ]

  pub open_excess : (excess : OpenExcess) → excess.class ≡ get.class → excess.open_jobs ≡ count_in get.class state.jobs.items → excess.limit ≡ get.limit → IsOpenExcess kind body path place excess
  open_excess excess class_is open_is limit_is = record {
    submit = submit;
    ahead = ahead;
    next = next;
    reached = way.reached;
    jobs = state.jobs.items;
    walk = sound way.reached way.from.at;
    before = let lt = way.from.before in omega (arith, lt);
    last = last;
    open_is = open_is ∙ ap (λ k. count_in k state.jobs.items) (sym class_is);
    stop = suc way.stop;
    after = let lt = way.after in omega (arith, lt);
    within = let lt = way.within in omega (arith, lt);
    fits = λ index above lt. fits_before index above (omega (arith, lt));
    exceeds =
        let count = subst (λ k. count_in_body k body (suc way.stop) ≡ way.first.limit) (sym class_is) first_count in
        let less = first_exceeds in
        omega (arith, count, less, open_is);
    least = λ index above within. subst (λ k. excess.limit ≤ count_in_body k body index) (sym class_is) (elim (cases_lt way.stop index) [
      | inl later ↦ let h = least_after_stop index later within in omega (arith, h, limit_is)
      | inr early ↦
          let h = fits_before index above early get.class in
          let less = first_exceeds in
          let least = least_first in
          omega (arith, h, less, least, limit_is)
    ]);
    least_at = suc way.place;
    least_after = let lt = way.after in let after = way.place_after in omega (arith, lt, after);
    least_within = let lt = way.place_within in omega (arith, lt);
    least_is =
        let place_lt = way.place_within in
        let long = in_body in
        let at : get_at body way.place ≡ Some get = sym (get_here way.place (omega (arith, place_lt, long))) ∙ way.place_is in
        subst (λ k. count_in_body k body (suc way.place) ≡ excess.limit) (sym class_is) (get_limit body way.place get at ∙ sym limit_is);
  }
