use Rattle.std.proofs.Common.{ℕ, List, rules, subst, sym}
use Rattle.std.specs.Prelude.{Contains}
use Rattle.std.proofs.lemmas.List.Filters.{dedup_is}
use Rattle.std.proofs.lemmas.List.Kept.{Contains-dedup_nat, Contains-from_dedup}
use Rattle.std.proofs.lemmas.List.Sorted.{Contains-permutation, IsPermutation-sym}
use Rattle.std.proofs.lemmas.Map.Keys.{IsStrictlyIncreasing-dedup}
use Rattle.report.proofs.active_clients.active_client_count.Goals as goal

pub returns : goal.returns
returns c =
    let is = dedup_is _ _ _ c.dedup.ensures.filtered in
    let moved = c.sort_unstable.ensures.permutation in
    let all = c.in_ok-clients.ensures in
    record {
      clients = c.dedup.new.self.items;
      each_once = rw is (IsStrictlyIncreasing-dedup _ c.sort_unstable.ensures.sorted);
      are_active_clients = λ x. (
        λ h. subst (λ (l : List ℕ). Contains l x) all (Contains-permutation _ _ x (IsPermutation-sym _ _ moved) (Contains-from_dedup _ _ x (rw is at h))),
        λ h. rw is (Contains-dedup_nat _ x (Contains-permutation _ _ x moved (subst (λ (l : List ℕ). Contains l x) (sym all) h))),
      );
      count_is = search rules;
    }
