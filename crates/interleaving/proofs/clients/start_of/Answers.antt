use Rattle.std.proofs.Common.{◌≡◌, ℕ, true, false, nat_le, rules, sym}
use Rattle.std.specs.List.Sorted.{IsPartitionPoint}
use Rattle.std.proofs.lemmas.List.Sorted.{IsPartitionPoint-from_clause}
use Rattle.interleaving.proofs.ClientsStanding.{parted, start_found, start_none}
use Rattle.interleaving.proofs.clients.start_of.Goals as goal

pub returns-then-kind-ends : goal.returns-then-kind-ends
returns-then-kind-ends c =
    let ends = c.args.ends.now in
    let n = c.args.number in
    let k = c.partition_point-kind.result in
    let point : IsPartitionPoint (λ (end : ℕ). nat_le end n ≡ true) (λ end. nat_le end n ≡ false) ends k =
    IsPartitionPoint-from_clause (λ end. nat_le end n) ends k c.partition_point-kind.ensures.partitioned (parted 0 ends n c.requires) (λ a r f' called. search rules) in
    sym (start_found ends n k c.requires point c.if-kind-ends.true)

pub returns-else-kind-ends : goal.returns-else-kind-ends
returns-else-kind-ends c =
    let ends = c.args.ends.now in
    let n = c.args.number in
    let k = c.partition_point-kind.result in
    let point : IsPartitionPoint (λ (end : ℕ). nat_le end n ≡ true) (λ end. nat_le end n ≡ false) ends k =
    IsPartitionPoint-from_clause (λ end. nat_le end n) ends k c.partition_point-kind.ensures.partitioned (parted 0 ends n c.requires) (λ a r f' called. search rules) in
    sym (start_none ends n k c.requires point c.partition_point-kind.ensures.bound c.if-kind-ends.false)
