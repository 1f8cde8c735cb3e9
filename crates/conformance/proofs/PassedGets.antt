-- Moves of the body alone, over actions that it may pass.
use Rattle.std.proofs.Common.{◌≡◌, ℕ, zero, suc, ◌<◌, ◌≤◌, inl, inr, true, false, List, length, get_or, Option, Some, None, refl, sym, ap, subst, ◌∙◌, arith}
use Rattle.std.proofs.lemmas.Bool.{cases_lt, false≢true, leb-false}
use Rattle.std.proofs.lemmas.Option.{get_or_from_slice_get}
use Rattle.job_bodies.specs.declared.action.Action.{Action}
use Rattle.conformance.specs.declared.body_gets.BodyGet.{BodyGet}
use Rattle.conformance.specs.declared.open_job.OpenJob.{OpenJob}
use Rattle.conformance.specs.declared.step.ActorKind.{ActorKind}
use Rattle.conformance.specs.declared.step.PathStep.{PathStep}
use Rattle.conformance.specs.declared.walk_state.WalkState.{WalkState}
use Rattle.conformance.specs.Path.{Walks, IsWithin, count_in, count_in_body}
use Rattle.conformance.specs.BodyGets.{AreGets, get_at, can_pass}
use Rattle.conformance.specs.BlockingGet.{may_pass, IsFreeFrom, IsBlocked}
use Rattle.conformance.specs.WalkState.{is_at, HasTables}
use Rattle.conformance.proofs.OpenCounts.{get_limit}
use Rattle.conformance.proofs.Walks.{walk_within}
use Rattle.conformance.proofs.WalkStates.{walk_moves}

module _ (kind : ActorKind) (body : List Action) (path : List PathStep) (place : ℕ) (state : WalkState) (tables : HasTables body state) (sound : (index : ℕ) → is_at state index ≡ true → Walks kind body path index place state.jobs.items)
    (gets : List (Option BodyGet)) (are_gets : AreGets body gets) where
  pub get_here : (q : ℕ) → q < length body → get_or gets q None ≡ get_at body q
  get_here q lt = get_or_from_slice_get gets q (get_at body q) None (are_gets.each q lt)

  pass_here : (q : ℕ) (get : Option BodyGet) → get_at body q ≡ get → q < length body → may_pass get (get_or state.passes.items q false) ≡ true → can_pass (get_at body q) state.jobs.items ≡ true
  pass_here q None e lt may = ap (λ g. can_pass g state.jobs.items) e
  pass_here q (Some get) e lt may = sym (tables.passes q lt) ∙ may

  -- The walk continues to each index up to which the body may pass.
  pub walk_over : (reached : ℕ) → is_at state reached ≡ true → (m : ℕ) → IsFreeFrom state.passes.items gets reached m → (index : ℕ) → reached ≤ index → index ≤ m → index ≤ length body → Walks kind body path index place state.jobs.items
  walk_over reached at m free zero above within in_body =
      subst (λ n. Walks kind body path n place state.jobs.items) (omega (arith, above)) (sound reached at)
  walk_over reached at m free (suc q) above within in_body = elim (cases_lt q reached) [
    | inl less ↦ subst (λ n. Walks kind body path n place state.jobs.items) (omega (arith, above, less)) (sound reached at)
    | inr more ↦
        let lt : q < length body = omega (arith, in_body) in
        let may = subst (λ g. may_pass g (get_or state.passes.items q false) ≡ true) (get_here q lt) (free q more (omega (arith, within))) in
        walk_moves kind body path q place state.jobs.items (walk_over reached at m free q more (omega (arith, within)) (omega (arith, in_body))) lt (pass_here q (get_at body q) refl lt may)
  ]

  -- ---- the first get that the body may not pass
  module _ (end : ℕ) (in_body : end ≤ length body) (get : BodyGet) (way : IsBlocked state.row.items state.passes.items gets (suc end) end get) where
    pub fits_before : (index : ℕ) → way.reached ≤ index → index ≤ way.stop → IsWithin state.jobs.items body index
    fits_before index above within =
        let stop_lt = way.within in
        walk_within kind body path (walk_over way.reached way.from.at way.stop way.free index above within (omega (arith, within, stop_lt, in_body)))

    pub first_at : get_at body way.stop ≡ Some way.first
    first_at = let stop_lt = way.within in sym (get_here way.stop (omega (arith, stop_lt, in_body))) ∙ way.first_is

    -- Too many jobs are open for the first get.
    pub first_exceeds : way.first.limit < count_in get.class state.jobs.items
    first_exceeds =
        let stop_lt = way.within in
        let stops : can_pass (Some way.first) state.jobs.items ≡ false = ap (λ g. can_pass g state.jobs.items) (sym first_at) ∙ (sym (tables.passes way.stop (omega (arith, stop_lt, in_body))) ∙ way.stops) in
        let less : way.first.limit < count_in way.first.class state.jobs.items = leb-false (count_in way.first.class state.jobs.items) way.first.limit stops in
        subst (λ k. way.first.limit < count_in k state.jobs.items) way.same_class less

    pub first_count : count_in_body get.class body (suc way.stop) ≡ way.first.limit
    first_count = subst (λ k. count_in_body k body (suc way.stop) ≡ way.first.limit) way.same_class (get_limit body way.stop way.first first_at)

    -- No walk is past the index where the way begins.
    pub last_reached : ((index : ℕ) (others : List OpenJob) → Walks kind body path index place others → is_at state index ≡ true)
        → (index : ℕ) (others : List OpenJob) → Walks kind body path index place others → index ≤ end → index ≤ way.reached
    last_reached complete index others w within = elim (cases_lt way.reached index) [
      | inl later ↦ absurd (false≢true (sym (way.from.last index later (omega (arith, within))) ∙ complete index others w))
      | inr less ↦ less
    ]
