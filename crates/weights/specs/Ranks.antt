-- The ranks of pools, the reaches and levels of classes, their conditions, and the gets that are counted.
use Rattle.std.specs.Prelude.{ℕ, ◌+◌, ◌==◌, ◌&&◌, not, nat_lt, Bool, false, List, [], ◌∷◌, Option, Some, length, slice_index, slice_get}
use Rattle.std.specs.List.{flat_map, list_all, enumerate_from}
use Rattle.job_bodies.specs.declared.action.Action.{Action}
use Rattle.job_bodies.specs.declared.action.Action.TheVariants.{Work, Submit, Get}
use Rattle.job_bodies.specs.Plan.{Class, Plan, class_at, submitted_class}
use Rattle.weights.specs.declared.row.Rule.TheVariants.{K1, K2, K3}
use Rattle.weights.specs.declared.row.Place.TheVariants as place
use Rattle.weights.specs.declared.row.Row.{Row}
use Rattle.weights.specs.Row.{row}
use Rattle.weights.specs.Vector.{is_small}

pub record Ranks : Type 0 where
  pub pools : List ℕ
  pub reach : List ℕ
  pub levels : List ℕ

abbrev pub rank : Ranks → ℕ → ℕ
rank ranks p = slice_index ranks.pools p

abbrev pub reach : Ranks → ℕ → ℕ
reach ranks k = slice_index ranks.reach k

abbrev pub level : Ranks → ℕ → ℕ
level ranks k = slice_index ranks.levels k

-- whether there are a rank for each pool and a reach and a level for each class, and each number is at most MAX_WEIGHT
abbrev pub ranks_fit : Plan → Ranks → Bool
ranks_fit plan ranks =
    length ranks.pools == length plan.pools && length ranks.reach == length plan.classes && length ranks.levels == length plan.classes
    && list_all is_small ranks.pools && list_all is_small ranks.reach && list_all is_small ranks.levels

-- whether the action of class k is a counted get. A get is counted unless the reach of the class whose job it gets is below the
-- rank of the pool of k.
abbrev pub is_counted_action : Plan → Ranks → ℕ → Option Action → Bool
is_counted_action plan ranks k (Some (Get t)) = not (nat_lt (reach ranks (submitted_class (class_at plan k).body t)) (rank ranks (class_at plan k).pool))
is_counted_action plan ranks k _ = false

-- whether the action at position i of class k is a counted get
abbrev pub is_counted : Plan → Ranks → ℕ → ℕ → Bool
is_counted plan ranks k i = is_counted_action plan ranks k (slice_get (class_at plan k).body i)

abbrev pub rank_rows_of_action : Ranks → ℕ → List Action → ℕ → Action → List Row
rank_rows_of_action ranks k body i (Work u) = []
rank_rows_of_action ranks k body i (Submit k') = row K3 (place.ClassAction k i) (level ranks k' + 1) (level ranks k) ∷ []
rank_rows_of_action ranks k body i (Get t) = row K2 (place.ClassAction k i) (reach ranks (submitted_class body t)) (reach ranks k) ∷ []

-- the rows of class k: K1, and then, in the order of the body, K2 for each get and K3 for each submit
abbrev pub rank_rows_of_class : Ranks → ℕ → Class → List Row
rank_rows_of_class ranks k class =
    row K1 (place.Class k) (rank ranks class.pool) (reach ranks k)
    ∷ flat_map (λ entry. rank_rows_of_action ranks k class.body entry.0 entry.1) (enumerate_from 0 class.body)

-- the conditions of the ranks
abbrev pub rank_rows : Plan → Ranks → List Row
rank_rows plan ranks = flat_map (λ entry. rank_rows_of_class ranks entry.0 entry.1) (enumerate_from 0 plan.classes)
