use Rattle.std.proofs.Common.{◌≡◌, ◌∷◌, ◌++◌, ◌<◌, length, None, refl, ap, ◌∙◌, arith}
use Rattle.interleaving.specs.JobRing.{gaps}
use Rattle.interleaving.proofs.JobRings.{one_more_gap, first_and_rest}
use Rattle.interleaving.proofs.job_ring.skip_gaps.Goals as goal

pub loop-recent-preserved : goal.loop-recent-preserved
loop-recent-preserved c =
    let l = c.loop-recent in
    let rest = c.pop_front.new.self.items in
    let long : 0 < length l.recent.items = omega (arith, c.in-Some-None.ensures.variant.0 refl) in
    let first : l.recent.items ≡ None ∷ rest =
    first_and_rest l.recent.items rest c.in-Some-None.field-0.now c.in-Some-None.ensures.lookup long c.pop_front.ensures.rest ∙ ap (λ x. x ∷ rest) c.in-Some-None.field-0-is in
    record {
      items = l.invariant.items ∙ ap (λ xs. gaps l.skipped ++ xs) first ∙ one_more_gap l.skipped rest;
      len = omega (arith, ap length first, c.pop_front.new.self.ok.0, l.recent.ok.0, l.invariant.len);
      capacity = c.pop_front.ensures.capacity ∙ l.invariant.capacity;
    }
