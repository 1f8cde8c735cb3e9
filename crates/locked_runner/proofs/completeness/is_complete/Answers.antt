use Rattle.std.proofs.Common.{◌≡◌, ℕ, Some, slice_get, List, subst, sym, ◌∙◌}
use Rattle.locked_runner.specs.Complete.{AreMadeIn}
use Rattle.locked_runner.proofs.completeness.is_complete.Goals as goal

pub returns : goal.returns
returns c = λ s seen.
    let made : AreMadeIn c.args.history.now c.deref.result.now = rw (c.deref.ensures.value) c.in_ok-made.ensures.made in
    let through = c.clients_are_complete.ensures c.args.history.now s made seen in (
      λ so. record {
        clients = λ number kind at. through.0 so number kind (subst (λ (kinds : List ℕ). slice_get kinds number ≡ Some kind) (sym c.requires) at);
        finished = sym (c.unfinished.ensures.value c.args.plan.now s seen) ∙ c.if-unfinished-ne0.false;
      },
      λ complete. through.1 (λ number kind at. complete.clients number kind (subst (λ (kinds : List ℕ). slice_get kinds number ≡ Some kind) c.requires at)),
    )
