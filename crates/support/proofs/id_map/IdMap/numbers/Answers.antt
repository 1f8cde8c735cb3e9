use Rattle.std.proofs.Common.{◌≡◌, ◌||◌, nat_eq, is_some, length, sym, ap, ◌∙◌, arith}
use Rattle.std.proofs.lemmas.List.Sorted.{list_any-IsPermutation, IsNonDecreasingBy-from_sort, length_permutation}
use Rattle.std.proofs.lemmas.Map.Keys.{IsDistinct-IsPermutation, IsStrictlyIncreasing-from_distinct}
use Rattle.support.specs.Entry.{has_number, entry_at}
use Rattle.support.specs.Numbered.{Numbered, place_of, value_at, count_of}
use Rattle.support.proofs.NumbersPushed.{nat_eq_flips, is_some_at, count_is}
use Rattle.support.proofs.id_map.IdMap.numbers.Goals as goal

pub returns-clause-all : goal.returns-clause-all
returns-clause-all g c n =
    let r = c.self.inside in
    sym (list_any-IsPermutation (nat_eq n) _ _ c.sort_unstable.ensures.permutation) ∙ c.in_ok-push_numbers.ensures.all n ∙ ap (λ b. b || has_number n (entry_at r.slots.items (place_of n))) (c.in_ok-numbers.ensures.all n) ∙ sym (is_some_at r.slots.items r.overflow n) ∙ ap (λ (x : Numbered g.row.V.Denot). is_some (value_at x n)) c.self.view_is

pub returns-clause-ascending : goal.returns-clause-ascending
returns-clause-ascending g c =
    IsStrictlyIncreasing-from_distinct c.sort_unstable.new.self.items (IsNonDecreasingBy-from_sort (λ x. x) _ c.sort_unstable.ensures.sorted)
    (IsDistinct-IsPermutation nat_eq nat_eq_flips _ _ c.sort_unstable.ensures.permutation c.in_ok-push_numbers.ensures.once)

pub returns-clause-sorted : goal.returns-clause-sorted
returns-clause-sorted g c = IsNonDecreasingBy-from_sort (λ x. x) _ c.sort_unstable.ensures.sorted

pub returns-clause-count : goal.returns-clause-count
returns-clause-count g c =
    let r = c.self.inside in
    let moved = length_permutation _ _ c.sort_unstable.ensures.permutation in
    let pushed = c.in_ok-push_numbers.ensures.len in
    let before = c.in_ok-numbers.ensures.len in
    let both = count_is r.slots.items r.overflow in
    let all : length c.sort_unstable.new.self.items ≡ count_of (record { slots = r.slots.items; overflow = r.overflow }) = omega (arith, moved, pushed, before, both) in
    all ∙ ap (λ (x : Numbered g.row.V.Denot). count_of x) c.self.view_is
