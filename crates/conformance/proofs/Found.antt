-- Extensions of the list of differences.
use Rattle.std.proofs.Common.{List, [], ◌∷◌, ◌++◌, map, refl, ap, sym, ◌∙◌, append-nil, append_assoc}
use Rattle.std.proofs.lemmas.List.{map-append}
use Rattle.conformance.specs.declared.pool_comparison.PoolDeviation.{PoolDeviation}
use Rattle.conformance.specs.PoolDeviations.{Deviation, deviation_seen}
use Rattle.conformance.specs.PoolComparison.{Adds}

pub adds_none : (old : List PoolDeviation) → Adds old [] old
adds_none old = record { more = []; after = sym (append-nil old); seen = refl }

pub adds_one : (old : List PoolDeviation) (one : PoolDeviation) → Adds old (deviation_seen one ∷ []) (old ++ one ∷ [])
adds_one old one = record { more = one ∷ []; after = refl; seen = refl }

pub adds_both : (old mid new : List PoolDeviation) (first second : List Deviation) → Adds old first mid → Adds mid second new → Adds old (first ++ second) new
adds_both old mid new first second a b = record {
  more = a.more ++ b.more;
  after = b.after ∙ (ap (λ (ds : List PoolDeviation). ds ++ b.more) a.after ∙ append_assoc old a.more b.more);
  seen = map-append deviation_seen a.more b.more ∙ (ap (λ (ds : List Deviation). ds ++ map deviation_seen b.more) a.seen ∙ ap (λ (ds : List Deviation). first ++ ds) b.seen);
}

pub adds_push : (old mid : List PoolDeviation) (reported : List Deviation) (one : PoolDeviation) → Adds old reported mid → Adds old (reported ++ deviation_seen one ∷ []) (mid ++ one ∷ [])
adds_push old mid reported one a = adds_both old mid (mid ++ one ∷ []) reported (deviation_seen one ∷ []) a (adds_one mid one)
