use Rattle.std.proofs.Common.{rules, ◌≡◌, ◌<◌, None, IsSome, nat_eq, true, false, length, set, refl, sym, ap, subst, ◌∙◌}
use Rattle.std.proofs.lemmas.List.{get_or_default, set-get_or}
use Rattle.std.specs.Map.{set_value}
use Rattle.support.specs.Entry.{has_number, entry_at, value_in, with_value_in}
use Rattle.support.specs.Numbered.{Numbered, place_of, value_at, IsWritten}
use Rattle.support.proofs.TablesOnceChanged.{table_written, table_kept, written_there, table_written_aside, written_aside, found_in_place, found_away}
use Rattle.support.proofs.id_map.IdMap.get_mut.Goals as goal

pub invariant_of-self-lent : goal.invariant_of-self-lent
invariant_of-self-lent g c =
    let r = c.self.inside in
    let p = c.place_of.result in
    let inside : p < length r.slots.items = search rules in
    let is : c.index_mut.result.now ≡ entry_at r.slots.items p = c.index_mut.ensures.value ∙ get_or_default r.slots.items p c.index_mut.result.now None inside in
    λ _. (table_written r.slots.items r.overflow p c.index_mut.result.now c.self.invariant is, table_kept r.slots.items r.overflow p c.index_mut.result.now c.self.invariant is)

pub returns-then-is_in_slot : goal.returns-then-is_in_slot
returns-then-is_in_slot g c =
    let r = c.self.inside in
    let n = c.args.number in
    let p = c.place_of.result in
    let o = c.index_mut.result.now in
    let old : Numbered g.row.V.Denot = record { slots = r.slots.items; overflow = r.overflow } in
    let inside : p < length r.slots.items = search rules in
    let is : o ≡ entry_at r.slots.items p = c.index_mut.ensures.value ∙ get_or_default r.slots.items p o None inside in
    let here : p ≡ place_of n = c.place_of.ensures in
    let has : has_number n (entry_at r.slots.items (place_of n)) ≡ true = sym c.is_in_slot.ensures.in_slot ∙ c.if-is_in_slot.true in
    let same : set r.slots.items p o ≡ r.slots.items = ap (set r.slots.items p) is ∙ set-get_or r.slots.items p None in
    ((refl, (λ w there. subst (λ (x : Numbered g.row.V.Denot). IsWritten x n w (record { slots = set r.slots.items p (with_value_in o w); overflow = r.overflow })) c.self.view_is (written_there r.slots.items r.overflow n p o w has here is)), ap (λ xs. record { slots = xs; overflow = r.overflow }) same ∙ c.self.view_is), record { writes_back = tt; value = c.value_in.ensures.value ∙ ap value_in (is ∙ ap (entry_at r.slots.items) here) ∙ sym (found_in_place r.slots.items r.overflow n has) ∙ ap (λ (x : Numbered g.row.V.Denot). value_at x n) c.self.view_is })

pub invariant_of-self-lent-2 : goal.invariant_of-self-lent-2
invariant_of-self-lent-2 g c =
    let r = c.self.inside in
    λ _. ((λ w. table_written_aside r.slots.items r.overflow c.args.number w c.self.invariant), c.self.invariant)

pub returns : goal.returns
returns g c =
    let r = c.self.inside in
    let n = c.args.number in
    let V = g.row.V.Denot in
    let old : Numbered g.row.V.Denot = record { slots = r.slots.items; overflow = r.overflow } in
    let away : has_number n (entry_at r.slots.items (place_of n)) ≡ false = sym c.is_in_slot.ensures.in_slot ∙ c.if-is_in_slot.false in
    let written = λ (w : g.row.V.Denot) (there : IsSome (value_at old n)). written_aside r.slots.items r.overflow n w away there in
    ((refl, (λ w there. subst (λ (x : Numbered g.row.V.Denot). IsSome (value_at x n) → IsWritten x n w (record { slots = r.slots.items; overflow = set_value (nat_eq n) r.overflow w })) c.self.view_is (written w) there), c.self.view_is), record { writes_back = tt; value = c.get_mut.ensures.value ∙ sym (found_away r.slots.items r.overflow n away) ∙ ap (λ (x : Numbered g.row.V.Denot). value_at x n) c.self.view_is })
