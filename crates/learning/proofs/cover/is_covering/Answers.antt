use Rattle.std.proofs.Common.{sym, ◌∙◌, arith}
use Rattle.std.proofs.lemmas.Result.{IfOk-weaker}
use Rattle.learning.proofs.CoveredPaths.{no_work}
use Rattle.learning.proofs.cover.is_covering.Goals as goal

pub returns : goal.returns
returns c =
    IfOk-weaker c.covers.result _ _ (λ yes covers is. record {
      covers = covers is;
      short = c.is_valid.ensures.short (grind (arith, c.if-not-is_valid.false));
      valid_gets = c.is_valid.ensures.valid_gets (grind (arith, c.if-not-is_valid.false));
      no_work = no_work c.args.body.now (sym c.has_work.ensures ∙ c.if-has_work.false);
    }) c.covers.ensures.yes
