-- The results of a complete round: one for each pool without a rank, and no other.
use Rattle.std.specs.Prelude.{ℕ, Bool, true, false, ◌==◌, ◌&&◌, List, length, count_by, nat_lt}
use Rattle.std.specs.List.{enumerate_from, list_all}
use Rattle.cert_search.specs.declared.round.PoolVectors.{PoolVectors}

-- the number of results that a pool must have: none if it has a rank, otherwise one
abbrev pub expected_count : Bool → ℕ
expected_count true = 0
expected_count false = 1

-- the number of results for pool p
abbrev pub count_of : List PoolVectors → ℕ → ℕ
count_of found p = count_by (λ f. f.pool == p) found

-- each pool has the right number of results
abbrev pub have_right_counts : List Bool → List PoolVectors → Bool
have_right_counts has_rank found = list_all (λ entry. count_of found entry.0 == expected_count entry.1) (enumerate_from 0 has_rank)

-- every result is for a pool of the plan
abbrev pub all_exist : ℕ → List PoolVectors → Bool
all_exist pools found = list_all (λ f. nat_lt f.pool pools) found

abbrev pub are_complete : List Bool → List PoolVectors → Bool
are_complete has_rank found = have_right_counts has_rank found && all_exist (length has_rank) found
