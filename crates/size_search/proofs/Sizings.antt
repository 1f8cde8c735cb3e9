-- A widened and fitted plan is the plan with the least sizes for a certificate.
use Rattle.std.proofs.Common.{◌≡◌, ◌≤◌, ◌<◌, ℕ, Bool, true, false, cond, inl, inr, List, length, refl, ap, sym, ◌∙◌, arith}
use Rattle.std.specs.Prelude.{IsTrue}
use Rattle.std.proofs.lemmas.Bool.{cases_lt}
use Rattle.std.proofs.lemmas.List.{get_or_past}
use Rattle.job_bodies.specs.Plan.{Pool, Plan, no_pool, pool_at, needs_no_bound}
use Rattle.job_bodies.specs.WellFormed.{IsWellFormed}
use Rattle.cert_text.specs.Cert.{Cert, pool_cert_at}
use Rattle.soundness.specs.Accepted.{accepted}
use Rattle.size_search.specs.Fitted.{core_needed, IsNoSmaller, IsLeastFit}
use Rattle.size_search.specs.Widened.{outline, HasLeastCores, without_maxes, IsWider, IsLeastWide}
use Rattle.size_search.proofs.Numbered.{map-twice}
use Rattle.size_search.proofs.Shapes.{get_or-changed}
use Rattle.size_search.proofs.TotalRows.{totals_where_accepted}
use Rattle.size_search.proofs.Changes.{nameplate, outline_of_shape, sizes_at}
use Rattle.size_search.proofs.RaisedPlans.{has_shape}
use Rattle.size_search.proofs.LeastMaxes.{total-grows, maxless}
use Rattle.size_search.specs.Sized.{IsSized}

-- ---- wider plans

outline-without_maxes : (plan : Plan) → outline (without_maxes plan) ≡ outline plan
outline-without_maxes plan = ap (λ (pools : List Pool). record plan { pools = pools }) (map-twice nameplate maxless plan.pools)

wider_outline : (plan wide : Plan) → IsWider plan wide → outline wide ≡ outline plan
wider_outline plan wide wider = sym (outline-without_maxes wide) ∙ (ap outline wider.same_but_maxes ∙ outline-without_maxes plan)

pool_at-without_maxes : (plan : Plan) (p : ℕ) → pool_at (without_maxes plan) p ≡ maxless (pool_at plan p)
pool_at-without_maxes plan p = get_or-changed maxless plan.pools p no_pool

wider_pool : (plan wide : Plan) (p : ℕ) → IsWider plan wide → maxless (pool_at wide p) ≡ maxless (pool_at plan p)
wider_pool plan wide p wider = sym (pool_at-without_maxes wide p) ∙ (ap (λ (any : Plan). pool_at any p) wider.same_but_maxes ∙ pool_at-without_maxes plan p)

-- cores and queues that are no smaller than a plan's are no smaller than those of a wider plan, which has the same ones
no_smaller_than_wider : (plan wide other : Plan) → IsWider plan wide → IsNoSmaller other plan → IsNoSmaller other wide
no_smaller_than_wider plan wide other wider larger = record {
  core = λ p. omega (arith, larger.core p, ap (λ (pool : Pool). pool.core) (wider_pool plan wide p wider));
  queue = λ p. omega (arith, larger.queue p, ap (λ (pool : Pool). pool.queue) (wider_pool plan wide p wider));
}

-- a plan that was widened twice has the least maximums too
pub widened_again : (plan wide wider : Plan) (cert : Cert) → IsLeastWide plan cert wide → IsLeastWide wide cert wider → IsLeastWide plan cert wider
widened_again plan wide wider cert first second = record {
  wider = record {
    same_but_maxes = second.wider.same_but_maxes ∙ first.wider.same_but_maxes;
    no_smaller_max = λ p. omega (arith, first.wider.no_smaller_max p, second.wider.no_smaller_max p);
  };
  least = λ other fits. second.least other (first.least other fits);
  needed = needed;
}
  where
    needed : (p : ℕ) → (pool_at plan p).max < (pool_at wider p).max → (pool_at wider p).max ≤ core_needed wider (pool_cert_at cert p).blocked
    needed p grew = elim (cases_lt (pool_at wide p).max (pool_at wider p).max) [
      | inl later ↦ second.needed p later
      | inr same ↦
          let grown = total-grows wide wider (pool_cert_at cert p).blocked (wider_outline wide wider second.wider) second.wider.no_smaller_max in
          omega (arith, first.needed p (omega (arith, second.wider.no_smaller_max p)), grown, second.wider.no_smaller_max p)
    ]

-- ---- sizes

-- a pool is sure to have at most core threads
few_threads : (timeout : Bool) (core : ℕ) → 1 ≤ core → cond timeout 1 core ≤ core
few_threads true core some = some
few_threads false core some = omega arith

-- the plan fitted to a widened plan has the least sizes
pub sized_where_fitted : (plan wide fit : Plan) (cert : Cert) → IsLeastWide plan cert wide → IsLeastFit wide cert fit → HasLeastCores wide cert fit → IsSized plan cert fit
sized_where_fitted plan wide fit cert widest found cores = record {
  fits = record {
    well_formed = found.fits.resized.well_formed;
    same_outline = outline_of_shape wide fit found.fits.resized.same_shape ∙ wider_outline plan wide widest.wider;
    no_smaller_max = λ p. omega (arith, widest.wider.no_smaller_max p, maxes p);
    accepts = found.fits.accepts;
  };
  no_smaller = record {
    core = λ p. omega (arith, found.fits.no_smaller.core p, ap (λ (pool : Pool). pool.core) (wider_pool plan wide p widest.wider));
    queue = λ p. omega (arith, found.fits.no_smaller.queue p, ap (λ (pool : Pool). pool.queue) (wider_pool plan wide p widest.wider));
  };
  keeps_queues = record { same_queue = λ p none. found.fits.resized.keeps_queues.same_queue p (wide_boundless p ∙ none) ∙ wide_queue p };
  least = λ other resized larger accepts. found.least other (record {
    resized = record {
      well_formed = resized.well_formed;
      same_shape = resized.same_shape ∙ found.fits.resized.same_shape;
      keeps_queues = record {
        same_queue = λ p none.
            resized.keeps_queues.same_queue p ((has_shape wide fit found.fits.resized.same_shape).boundless p ∙ none) ∙ found.fits.resized.keeps_queues.same_queue p none;
      };
      keeps_cores = record {
        same_core = λ p may_lose.
            resized.keeps_cores.same_core p ((has_shape wide fit found.fits.resized.same_shape).timeout p ∙ may_lose) ∙ found.fits.resized.keeps_cores.same_core p may_lose;
      };
    };
    no_smaller = no_smaller_than_wider plan wide other widest.wider larger;
    accepts = accepts;
  });
  least_maxes = λ other fits p. omega (arith, (widest.least other fits).no_smaller_max p, maxes p);
  least_cores = λ other fits larger p. cores other (widest.least other fits) (no_smaller_than_wider plan wide other widest.wider larger) p;
  max_is_core = max_is_core;
}
  where
    wide_queue : (p : ℕ) → (pool_at wide p).queue ≡ (pool_at plan p).queue
    wide_queue p = ap (λ (pool : Pool). pool.queue) (wider_pool plan wide p widest.wider)

    wide_boundless : (p : ℕ) → needs_no_bound (pool_at wide p) ≡ needs_no_bound (pool_at plan p)
    wide_boundless p = ap needs_no_bound (wider_pool plan wide p widest.wider)

    maxes : (p : ℕ) → (pool_at fit p).max ≡ (pool_at wide p).max
    maxes p = (has_shape wide fit found.fits.resized.same_shape).max p

    max_is_core : (p : ℕ) → (pool_at plan p).max < (pool_at fit p).max → (pool_at fit p).max ≡ (pool_at fit p).core
    max_is_core p grew = elim (cases_lt p (length fit.pools)) [
      | inl inside ↦
          let blocked = (pool_cert_at cert p).blocked in
          let needed = widest.needed p (omega (arith, maxes p)) in
          let total = (has_shape wide fit found.fits.resized.same_shape).total blocked in
          let sizes = sizes_at fit p found.fits.resized.well_formed inside in
          let threads = few_threads (pool_at fit p).core_timeout (pool_at fit p).core sizes.core in
          omega (arith, needed, maxes p, total, threads, (totals_where_accepted fit cert found.fits.accepts).blocked p inside, sizes.core, sizes.max)
      | inr past ↦ let none = ap (λ (pool : Pool). pool.max) (get_or_past fit.pools p no_pool past) in absurd (omega arith)
    ]

-- a plan that is accepted as it is has the least sizes
pub sized_where_accepted : (plan : Plan) (cert : Cert) → IsWellFormed plan → IsTrue (accepted plan cert) → IsSized plan cert plan
sized_where_accepted plan cert well accepts = record {
  fits = record { well_formed = well; same_outline = refl; no_smaller_max = λ p. omega arith; accepts = accepts };
  no_smaller = record { core = λ p. omega arith; queue = λ p. omega arith };
  keeps_queues = record { same_queue = λ p none. refl };
  least = λ other resized larger accepted. larger;
  least_maxes = λ other fits p. fits.no_smaller_max p;
  least_cores = λ other fits larger p. larger.core p;
  max_is_core = λ p grew. absurd (omega arith);
}
