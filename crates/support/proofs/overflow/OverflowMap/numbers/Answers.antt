use Rattle.std.proofs.Common.{ap, sym, subst, ◌∙◌, nat_eq, length, is_some}
use Rattle.std.specs.List.{IsDistinct}
use Rattle.std.specs.Map.{lookup}
use Rattle.std.specs.Set.{is_member}
use Rattle.std.proofs.lemmas.Iterator.{items_from_collect}
use Rattle.std.proofs.lemmas.Iterator.Consumers.{YieldsList-from_rest, YieldsList-from_copied}
use Rattle.std.proofs.lemmas.Result.{IfOk-weaker}
use Rattle.support.proofs.overflow.OverflowMap.numbers.Goals as goal

pub returns-clause-all : goal.returns-clause-all
returns-clause-all g c =
    IfOk-weaker c.collect.result _ _ (λ numbers same number. ap (λ (ks : _). is_member nat_eq ks number) same ∙ sym (c.keys.ensures.has number) ∙ ap (λ (es : _). is_some (lookup (nat_eq number) es)) c.self.view_is)
    (items_from_collect _ c.collect.ensures.ran (YieldsList-from_copied (YieldsList-from_rest c.keys.result (cc))))

pub returns-clause-once : goal.returns-clause-once
returns-clause-once g c =
    IfOk-weaker c.collect.result _ _ (λ numbers same. subst (IsDistinct nat_eq) (sym (same ∙ c.keys.ensures.rest)) c.keys.ensures.unique)
    (items_from_collect _ c.collect.ensures.ran (YieldsList-from_copied (YieldsList-from_rest c.keys.result (cc))))

pub returns-clause-len : goal.returns-clause-len
returns-clause-len g c =
    IfOk-weaker c.collect.result _ _ (λ numbers same. ap length same ∙ c.keys.ensures.len ∙ ap length c.self.view_is)
    (items_from_collect _ c.collect.ensures.ran (YieldsList-from_copied (YieldsList-from_rest c.keys.result (cc))))
