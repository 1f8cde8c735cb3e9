-- Proofs that the initial state satisfies the invariant.
use Rattle.std.proofs.Common.{◌≡◌, ℕ, zero, suc, Bool, true, false, cond, ◌<◌, ◌≤◌, ⊎_elim, List, [], length, replicate, slice_get, Some, refl, sym, ap, subst, ◌∙◌, arith}
use Rattle.std.specs.List.{enumerate_from}
use Rattle.std.proofs.lemmas.List.{length-map, get_or-map}
use Rattle.support.specs.In.{In}
use Rattle.support.proofs.Members.{not_In_nil, In-cons_cases, In-slice_get, In-flat_map_from}
use Rattle.job_bodies.specs.declared.action.Action.{Action}
use Rattle.job_bodies.specs.Plan.{Plan, Pool, no_pool, pool_at}
use Rattle.job_bodies.proofs.Bodies.{HasValidBodies}
use Rattle.pool_machine.specs.PoolState.{new_pool}
use Rattle.pool_machine.specs.declared.client_state.ClientState.{ClientState}
use Rattle.pool_machine.specs.declared.parent.Parent.{Parent}
use Rattle.pool_machine.specs.declared.parent.Parent.TheVariants as parent
use Rattle.pool_machine.specs.State.{PoolPart, no_pool_part, pool_part, part_of}
use Rattle.pool_machine.specs.Reach.{new_clients, start}
use Rattle.pool_machine.proofs.Positions.{standing_made, client_standing}
use Rattle.pool_machine.proofs.StateInvariant.{ActorInvariant, PoolInvariant, StateInvariant}
use Rattle.pool_machine.proofs.Actors.{IsAtPosition}
use Rattle.pool_machine.proofs.ActorInvariants.{actor_begins}

In-replicate : {X : Type 0} (n : ℕ) (x y : X) → In y (replicate n x) → y ≡ x
In-replicate zero x y i = absurd (not_In_nil i)
In-replicate (suc n) x y i = ⊎_elim (λ first. first) (λ later. In-replicate n x y later) (In-cons_cases i)

start_position : (plan : Plan) (c : ℕ) (client : ClientState) → slice_get (start plan).clients c ≡ Some client → client.position ≡ 0
start_position plan c client e =
    let found = In-flat_map_from new_clients (enumerate_from 0 plan.clients) (In-slice_get (start plan).clients c client e) in
    ap (λ (x : ClientState). x.position) (In-replicate found.0.1.count (record { kind = found.0.0; position = 0 }) client found.2)

start_actor : (plan : Plan) (a : Parent) (body : List Action) (i : ℕ) → IsAtPosition plan (start plan) a body i → ActorInvariant [] a body i
start_actor plan (parent.Client c) body i stands =
    let client = client_standing plan (slice_get (start plan).clients c) body i stands in
    subst (ActorInvariant [] (parent.Client c) body) (sym (start_position plan c client.0 client.1) ∙ client.3) (actor_begins [] (parent.Client c) body)
start_actor plan (parent.Job j) body i stands =
    let made : j < 0 = standing_made plan (start plan) j body i stands in
    absurd (omega arith)

-- the queue and the idle workers of each pool in the initial state are those of a new pool
pub pool_part_at_start : (plan : Plan) (p : ℕ) → p < length plan.pools → pool_part (start plan) p ≡ part_of (new_pool (pool_at plan p))
pool_part_at_start plan p inside = get_or-map (λ (pool : Pool). part_of (new_pool pool)) plan.pools p no_pool no_pool_part inside

-- a pool has at most core threads at first
few_first_workers : (core : ℕ) (prestart : Bool) → cond prestart core 0 ≤ core
few_first_workers core true = omega arith
few_first_workers core false = omega arith

start_pool : (pool : Pool) → pool.core ≤ pool.max → PoolInvariant pool (part_of (new_pool pool)) [] 0
start_pool pool sizes = record { queue = refl; within_max = omega (arith, few_first_workers pool.core pool.prestart); within_queue = omega arith }

pub kept_start : (plan : Plan) → HasValidBodies plan → StateInvariant plan (start plan)
kept_start plan ordered = record {
  classes = λ k d inside. absurd (omega arith);
  parents = λ j inside. absurd (omega arith);
  as_many = length-map plan.pools (λ pool. part_of (new_pool pool));
  pools = λ p inside. subst (λ (part : PoolPart). PoolInvariant (pool_at plan p) part [] 0) (sym (pool_part_at_start plan p inside)) (start_pool (pool_at plan p) (ordered.max p inside));
  actors = start_actor plan;
}
