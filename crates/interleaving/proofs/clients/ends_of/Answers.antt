use Rattle.std.proofs.Common.{◌≡◌, ◌<◌, ◌≤◌, ◌+◌, ◌*◌, ℕ, suc, List, [], ◌∷◌, ◌++◌, length, drop, get_or, sym, ap, ap₂, ◌∙◌, arith, le_refl}
use Rattle.std.proofs.lemmas.List.{append_assoc, append-nil, drop_all}
use Rattle.std.proofs.lemmas.List.Elements.{All-get_or}
use Rattle.std.proofs.Math.Seq.{drop-cons}
use Rattle.job_bodies.specs.Plan.{Client}
use Rattle.interleaving.specs.Clients.{ends_from}
use Rattle.interleaving.proofs.clients.ends_of.Goals as goal

pub loop-kind-init : goal.loop-kind-init
loop-kind-init c = (le_refl 0, ap (λ xs. xs ++ ends_from 0 c.args.kinds.now) c.in_ok-ends.ensures.items)

pub loop-kind-preserved : goal.loop-kind-preserved
loop-kind-preserved c =
    let kinds : List Client = c.args.kinds.now in
    let i : ℕ = c.loop-kind.kind-index in
    let end : ℕ = c.loop-kind.end in
    let kind : Client = c.kind-item.result in
    let items : List ℕ = c.loop-kind.ends.items in
    let inside : i < length kinds = c.loop-kind-test.true in
    let few : end ≤ i * 1000000 = c.loop-kind.invariant.0 in
    let count : c.kind.inside.count ≡ kind.count = ap (λ (x : Client). x.count) c.kind.view_is in
    let small : (get_or kinds i kind).count ≤ 1000000 = All-get_or (λ (x : Client). x.count ≤ 1000000) kinds i kind inside c.requires.small in
    let same : kind.count ≡ (get_or kinds i kind).count = ap (λ (x : Client). x.count) c.kind-item.is in
    let one : suc i ≡ i + 1 = omega arith in
    let next : drop i kinds ≡ kind ∷ drop (i + 1) kinds = drop-cons kinds i kind inside ∙ ap₂ (λ (x : Client) (n : ℕ). x ∷ drop n kinds) (sym c.kind-item.is) one in
    let n = end + c.kind.inside.count in (
      omega (arith, few, small, same, count),
      ap (λ xs. xs ++ ends_from n (drop (i + 1) kinds)) c.in_ok-push.ensures.items
          ∙ append_assoc items (n ∷ []) (ends_from n (drop (i + 1) kinds))
          ∙ ap (λ m. items ++ (end + m) ∷ ends_from (end + m) (drop (i + 1) kinds)) count
          ∙ ap (λ ks. items ++ ends_from end ks) (sym next)
          ∙ c.loop-kind.invariant.1,
    )

pub returns : goal.returns
returns c =
    let items : List ℕ = c.loop-kind.ends.items in
    let none = drop_all c.loop-kind.kind-index c.args.kinds.now c.loop-kind-test.false in
    sym (append-nil items) ∙ ap (λ ks. items ++ ends_from c.loop-kind.end ks) (sym none) ∙ c.loop-kind.invariant.1
