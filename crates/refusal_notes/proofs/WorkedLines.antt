-- The lines of short examples, computed from the definitions alone.
use Rattle.std.proofs.Common.{◌≡◌, ℕ, List, [], ◌∷◌, false, refl}
use Rattle.std.specs.Prelude.{codes}
use Rattle.std.specs.Fmt.{digits}
use Rattle.job_bodies.specs.declared.action.Action.TheVariants.{Work, Submit, Get}
use Rattle.job_bodies.specs.Plan.{Plan, Pool}
use Rattle.weights.specs.declared.row.Rule.TheVariants.{K3, V4, V5, L1, B2}
use Rattle.weights.specs.declared.row.Place.TheVariants as place
use Rattle.weights.specs.Row.{row}
use Rattle.soundness.specs.declared.note.Section.TheVariants as section
use Rattle.soundness.specs.Conditions.{note}
use Rattle.refusal_notes.specs.Line.{line}

abbrev named_pool : List ℕ → Pool
named_pool name = record { name = name; core = 1; max = 1; queue = 5; prestart = false; may_reject = false; unbounded = false; core_timeout = false }

-- a plan with the pools p and q, a class a that submits a class b, and a client kind c
abbrev two_pools : Plan
two_pools = record {
  pools = named_pool (codes "p") ∷ named_pool (codes "q") ∷ [];
  classes =
      record { name = codes "a"; pool = 0; body = Submit 1 ∷ Get 0 ∷ [] }
      ∷ record { name = codes "b"; pool = 1; body = Work 1 ∷ [] }
      ∷ [];
  clients = record { name = codes "c"; count = 10; repeat = false; body = Submit 0 ∷ Get 0 ∷ [] } ∷ [];
}

pub of_ranks : line two_pools (note section.Ranks (row K3 (place.ClassAction 0 0) 1 0)) ≡ codes "ranks, class a action 0: K3 1 above 0"
unfolding digits
of_ranks = refl

pub of_a_standing_vector : line two_pools (note (section.Standing 1) (row V5 (place.ClientAction 0 1) 1000000 32)) ≡ codes "pool q standing, client c action 1: V5 1000000 above 32"
unfolding digits
of_a_standing_vector = refl

pub of_a_lifetime_vector : line two_pools (note (section.Lifetime 0) (row L1 (place.Worker 1) 2 0)) ≡ codes "pool p lifetime, workers q: L1 2 above 0"
unfolding digits
of_a_lifetime_vector = refl

pub of_a_blocked_vector : line two_pools (note (section.Blocked 0) (row B2 place.Total 1 0)) ≡ codes "pool p blocked, total: B2 1 above 0"
unfolding digits
of_a_blocked_vector = refl

-- a pool and a class that the plan does not have are printed as empty names
pub of_no_names : line two_pools (note (section.Blocked 2) (row V4 (place.Class 2) 3 2)) ≡ codes "pool  blocked, class : V4 3 above 2"
unfolding digits
of_no_names = refl
