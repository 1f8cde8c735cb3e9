-- The stored names of the pools that have a `pool` line.
use Rattle.std.specs.Prelude.{ℕ, ◌||◌, Bool, List}
use Rattle.std.specs.HashSet.{contains_text}
use Rattle.support.specs.Numbered.{value_at}
use Rattle.recordings.specs.declared.pools.Pools.{Pools}
use Rattle.recordings.specs.PoolNames.{number_of, is_name}

abbrev pub has_name : Pools → List ℕ → Bool
has_name pools name = is_name name (value_at pools.firsts (number_of name)) || contains_text pools.others name
