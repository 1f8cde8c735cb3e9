use Rattle.std.proofs.Common.{◌+◌, List, ℕ, sym, ap, subst, ◌∙◌}
use Rattle.support.proofs.NumbersPushed.{ArePushed, read_at, pushed_none, pushed_some}
use Rattle.support.proofs.places.push_numbers.Goals as goal
use Rattle.support.proofs.places.push_numbers.Goals.{in-Some+in_ok-push, in_default}

pub loop-slot-preserved : goal.loop-slot-preserved
loop-slot-preserved g c =
    let slots = c.args.slots.now.items in
    let overflow = c.args.numbers.now.items in
    let i = c.loop-slot.slot-index in
    let read = read_at c.deref-slot-items.result.now slots i c.slot-item.result c.deref-slot-items.ensures.value c.slot-item.is c.loop-slot-test.true in
    elim c.match-slot.branch [
      | in-Some+in_ok-push w ↦
          let pushed = pushed_some slots overflow c.loop-slot.numbers.items i w.in-Some.entry c.requires.in_place c.requires.overflow read.0 (read.1 ∙ w.in-Some.is) c.loop-slot.invariant in
          subst (λ (numbers : List ℕ). ArePushed slots overflow numbers (i + 1)) (sym (ap (λ (v : _). v.items) w.numbers-is ∙ w.in_ok-push.ensures.items)) pushed
      | in_default w ↦
          let pushed = pushed_none slots overflow c.loop-slot.numbers.items i read.0 (read.1 ∙ w.in_default.is) c.loop-slot.invariant in
          subst (λ (numbers : List ℕ). ArePushed slots overflow numbers (i + 1)) (sym (ap (λ (v : _). v.items) w.numbers-is)) pushed
    ]
