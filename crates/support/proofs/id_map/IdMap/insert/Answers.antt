use Rattle.std.proofs.Common.{◌≡◌, ◌&&◌, Option, nat_lt, true, List, length, sym, subst, ◌∙◌}
use Rattle.std.proofs.lemmas.Bool.{and_parts, ltb-true}
use Rattle.support.specs.declared.entry.Entry.{Entry}
use Rattle.support.specs.Entry.{is_free_for, entry_at}
use Rattle.support.specs.Numbered.{Numbered, place_of, IsTable}
use Rattle.support.proofs.TablesOnceChanged.{IsPut, table_laid, table_inserted, inserted_in_place, table_aside, inserted_aside, not_there}
use Rattle.support.proofs.id_map.IdMap.insert.Goals as goal

pub invariant_of-self-then-can_store : goal.invariant_of-self-then-can_store
invariant_of-self-then-can_store g c =
    let r = c.self.inside in
    let laid = table_laid r.slots.items c.allocate.new.slots.items r.overflow c.self.invariant c.allocate.ensures in
    subst (λ (xs : List (Option (Entry g.row.V.Denot))). IsTable xs c.forget.new.self) (sym c.store.ensures) (table_inserted c.allocate.new.slots.items r.overflow c.forget.new.self c.args.number c.args.value laid c.forget.ensures.values)

pub invariant_of-self-in-Continue-branch-2 : goal.invariant_of-self-in-Continue-branch-2
invariant_of-self-in-Continue-branch-2 g c =
    let r = c.self.inside in
    let laid = table_laid r.slots.items c.allocate.new.slots.items r.overflow c.self.invariant c.allocate.ensures in
    let off = not_there c.allocate.new.slots.items c.args.number (sym c.can_store.ensures ∙ c.if-can_store.false) in
    table_aside c.allocate.new.slots.items r.overflow c.insert.new.self c.args.number c.args.value laid off c.in_ok-insert.ensures.values

pub invariant_of-self-in_err-insert : goal.invariant_of-self-in_err-insert
invariant_of-self-in_err-insert g c =
    let r = c.self.inside in
    let laid = table_laid r.slots.items c.allocate.new.slots.items r.overflow c.self.invariant c.allocate.ensures in
    subst (λ o. IsTable c.allocate.new.slots.items o) (sym c.in_err-insert.ensures.same) laid

pub returns-then-can_store-clause-values : goal.returns-then-can_store-clause-values
returns-then-can_store-clause-values g c =
    let r = c.self.inside in
    let n = c.args.number in
    let laid = c.allocate.new.slots.items in
    let may : (nat_lt (place_of n) (length laid) && is_free_for n (entry_at laid (place_of n))) ≡ true = sym c.can_store.ensures ∙ c.if-can_store.true in
    let parts = and_parts (nat_lt (place_of n) (length laid)) (is_free_for n (entry_at laid (place_of n))) may in
    let store = inserted_in_place r.slots.items laid r.overflow c.forget.new.self n c.args.value c.self.invariant c.allocate.ensures (ltb-true (place_of n) (length laid) parts.0) parts.1 c.forget.ensures.values c.forget.ensures.len in
    let new : Numbered g.row.V.Denot = record { slots = c.store.new.slots.items; overflow = c.forget.new.self } in
    let stored_new : IsPut (record { slots = r.slots.items; overflow = r.overflow }) n c.args.value new = subst (λ (xs : List (Option (Entry g.row.V.Denot))). IsPut (record { slots = r.slots.items; overflow = r.overflow }) n c.args.value (record { slots = xs; overflow = c.forget.new.self })) (sym c.store.ensures) store in
    let all : IsPut c.args.self.now n c.args.value new = subst (λ (x : Numbered g.row.V.Denot). IsPut x n c.args.value new) c.self.view_is stored_new in
    all.values

pub returns-then-can_store-clause-count : goal.returns-then-can_store-clause-count
returns-then-can_store-clause-count g c =
    let r = c.self.inside in
    let n = c.args.number in
    let laid = c.allocate.new.slots.items in
    let may : (nat_lt (place_of n) (length laid) && is_free_for n (entry_at laid (place_of n))) ≡ true = sym c.can_store.ensures ∙ c.if-can_store.true in
    let parts = and_parts (nat_lt (place_of n) (length laid)) (is_free_for n (entry_at laid (place_of n))) may in
    let store = inserted_in_place r.slots.items laid r.overflow c.forget.new.self n c.args.value c.self.invariant c.allocate.ensures (ltb-true (place_of n) (length laid) parts.0) parts.1 c.forget.ensures.values c.forget.ensures.len in
    let new : Numbered g.row.V.Denot = record { slots = c.store.new.slots.items; overflow = c.forget.new.self } in
    let stored_new : IsPut (record { slots = r.slots.items; overflow = r.overflow }) n c.args.value new = subst (λ (xs : List (Option (Entry g.row.V.Denot))). IsPut (record { slots = r.slots.items; overflow = r.overflow }) n c.args.value (record { slots = xs; overflow = c.forget.new.self })) (sym c.store.ensures) store in
    let all : IsPut c.args.self.now n c.args.value new = subst (λ (x : Numbered g.row.V.Denot). IsPut x n c.args.value new) c.self.view_is stored_new in
    all.count

pub returns-in_ok-insert-clause-count : goal.returns-in_ok-insert-clause-count
returns-in_ok-insert-clause-count g c =
    let r = c.self.inside in
    let off = not_there c.allocate.new.slots.items c.args.number (sym c.can_store.ensures ∙ c.if-can_store.false) in
    let store = inserted_aside r.slots.items c.allocate.new.slots.items r.overflow c.insert.new.self c.args.number c.args.value c.allocate.ensures off c.in_ok-insert.ensures.values c.in_ok-insert.ensures.len in
    let all : IsPut c.args.self.now c.args.number c.args.value (record { slots = c.allocate.new.slots.items; overflow = c.insert.new.self }) = subst (λ (x : Numbered g.row.V.Denot). IsPut x c.args.number c.args.value (record { slots = c.allocate.new.slots.items; overflow = c.insert.new.self })) c.self.view_is store in
    all.count
