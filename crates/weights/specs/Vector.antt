-- Vectors of weights. A vector has a number for a worker of each pool. For a job of each class, it has a number when the job is
-- queued, at each position of its body, and when it is done. For a client of each kind, it has a number at each position of its
-- body.
use Rattle.std.specs.Prelude.{ℕ, ◌+◌, ◌*◌, ◌==◌, ◌&&◌, nat_le, Bool, List, [], length, sum_by, slice_index, slice_index_or}
use Rattle.std.specs.List.{list_all, enumerate_from}
use Rattle.job_bodies.specs.Plan.{Plan, class_at}
use Rattle.job_bodies.specs.declared.limits.TheConstants.{MAX_WEIGHT}

pub record Vector : Type 0 where
  pub workers : List ℕ
  pub classes : List (List ℕ)
  pub clients : List (List ℕ)

-- the weight of one worker of pool p
abbrev pub workers_weight : Vector → ℕ → ℕ
workers_weight v p = slice_index v.workers p

-- the weights of a job of class k: when it is queued, at each position of its body, and when it is done
abbrev pub class_weights : Vector → ℕ → List ℕ
class_weights v k = slice_index_or v.classes k []

abbrev pub queued_weight : Vector → ℕ → ℕ
queued_weight v k = slice_index (class_weights v k) 0

-- the weight of a job of class k at position i of its body
abbrev pub job_weight : Vector → ℕ → ℕ → ℕ
job_weight v k i = slice_index (class_weights v k) (i + 1)

abbrev pub done_weight : Plan → Vector → ℕ → ℕ
done_weight plan v k = slice_index (class_weights v k) (length (class_at plan k).body + 2)

-- the weights of a client of kind c at each position of its body
abbrev pub client_weights : Vector → ℕ → List ℕ
client_weights v c = slice_index_or v.clients c []

-- the weight of a client of kind c at position i of its body
abbrev pub client_weight : Vector → ℕ → ℕ → ℕ
client_weight v c i = slice_index (client_weights v c) i

-- whether the vector has the shape of the plan, which is condition V1. It then has a number for a worker of each pool, and for
-- a client of each kind at each position. For a job of each class, it has a number when the job is queued, at each position,
-- and when it is done.
abbrev pub has_shape : Plan → Vector → Bool
has_shape plan v =
    length v.workers == length plan.pools && length v.classes == length plan.classes && length v.clients == length plan.clients
    && list_all (λ entry. length (class_weights v entry.0) == length entry.1.body + 3) (enumerate_from 0 plan.classes)
    && list_all (λ entry. length (client_weights v entry.0) == length entry.1.body + 1) (enumerate_from 0 plan.clients)

abbrev pub is_small : ℕ → Bool
is_small n = nat_le n MAX_WEIGHT

abbrev pub has_small_numbers : Vector → Bool
has_small_numbers v = list_all is_small v.workers && list_all (list_all is_small) v.classes && list_all (list_all is_small) v.clients

abbrev pub vector_fits : Plan → Vector → Bool
vector_fits plan v = has_shape plan v && has_small_numbers v

-- the total of a vector: the weight of all clients at position 0, plus the weight of all workers if each pool has its maximum
-- of workers
abbrev pub total : Plan → Vector → ℕ
total plan v =
    sum_by (λ entry. entry.1.count * client_weight v entry.0 0) (enumerate_from 0 plan.clients)
    + sum_by (λ entry. workers_weight v entry.0 * entry.1.max) (enumerate_from 0 plan.pools)
