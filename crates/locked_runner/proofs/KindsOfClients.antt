-- The kinds of a plan's clients are kinds of the plan.
use Rattle.std.proofs.Common.{◌≡◌, ◌<◌, ◌+◌, ℕ, List, [], ◌∷◌, length, replicate, All, slice_get, Some, sym, subst, arith}
use Rattle.std.specs.List.{flat_map, enumerate_from}
use Rattle.std.proofs.lemmas.List.Concat.{flat_map-cons}
use Rattle.std.proofs.lemmas.List.Elements.{All-append, All-replicate}
use Rattle.std.proofs.lemmas.Option.{slice_get_within, get_or_from_slice_get}
use Rattle.job_bodies.specs.Plan.{Plan, Client}
use Rattle.locked_runner.specs.Owner.{kinds_of, kinds_of_entry}

kinds_below : (n : ℕ) (clients : List Client) → All (λ (k : ℕ). k < n + length clients) (flat_map kinds_of_entry (enumerate_from n clients))
kinds_below n [] = λ i d inside. absurd (omega arith)
kinds_below n (client ∷ clients) =
    let rest : All (λ (k : ℕ). k < n + length (client ∷ clients)) (flat_map kinds_of_entry (enumerate_from (n + 1) clients)) = λ i d inside. let below = kinds_below (n + 1) clients i d inside in omega arith in
    subst (λ (ks : List ℕ). All (λ (k : ℕ). k < n + length (client ∷ clients)) ks) (sym (flat_map-cons kinds_of_entry (n, client) (enumerate_from (n + 1) clients)))
    (All-append (λ (k : ℕ). k < n + length (client ∷ clients)) (replicate client.count n) (flat_map kinds_of_entry (enumerate_from (n + 1) clients))
    (All-replicate (λ (k : ℕ). k < n + length (client ∷ clients)) client.count n (omega arith)) rest)

pub kind_exists : (plan : Plan) (c kind : ℕ) → slice_get (kinds_of plan) c ≡ Some kind → kind < length plan.clients
kind_exists plan c kind at =
    let below = kinds_below 0 plan.clients c kind (slice_get_within (kinds_of plan) c kind at) in
    let same = get_or_from_slice_get (kinds_of plan) c kind kind at in
    omega arith
