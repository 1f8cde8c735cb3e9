-- The pools of a recording are valid pools of a plan, unless there are too many.
use Rattle.std.proofs.Common.{◌≡◌, ◌≤◌, ℕ, ◌==◌, Bool, true, false, cond, not, nat_lt, ◌&&◌, ◌||◌, List, [], ◌∷◌, length, map, Option, Some, None, refl, sym, subst, inl, inr, arith}
use Rattle.std.specs.List.{All, cons_option, filter, filter_map, list_all, list_any}
use Rattle.std.specs.Str.{bytes_eq}
use Rattle.std.proofs.lemmas.Bool.{and_parts, or_left, or_right}
use Rattle.job_bodies.specs.declared.limits.TheConstants.{MAX_POOLS, MAX_SIZE, MAX_THREADS}
use Rattle.job_bodies.specs.Build.{plan_of_lists}
use Rattle.job_bodies.specs.Plan.{Pool, Class, Client}
use Rattle.job_bodies.specs.WellFormed.{is_within, is_valid_name, has_no_max, has_valid_sizes, is_valid_pool, are_distinct, IsWellFormed}
use Rattle.recordings.specs.declared.pool_sizes.PoolSizes.{PoolSizes}
use Rattle.recordings.specs.PoolSizes.{has_unbounded_queue}
use Rattle.recordings.specs.LineText.{is_valid_line, has_valid_numbers}
use Rattle.recordings.specs.RecordingLine.{RecordedLine, line_of, lines_read}
use Rattle.recordings.specs.RecordingLine as line
use Rattle.recordings.specs.WholeLines.{whole_lines}
use Rattle.recordings.proofs.WrittenLines.{canonical}
use Rattle.learning.specs.InferenceResult.{lines_of}
use Rattle.learning.specs.Names.{IsNamedClass, IsNamedClient}
use Rattle.conformance.specs.Sizes.{is_synchronous}
use Rattle.learning.specs.Pools.{into_range, least_capacity, planned_max, planned_queue, recorded_pool, pool_of_line, has_other_name, firsts, recorded_pools}
use Rattle.learning.specs.InferenceLimit.{HasActors}

both : (a b : Bool) → a ≡ true → b ≡ true → (a && b) ≡ true
both a b one other = grind (arith, one, other)

-- ---- names
abbrev names : List Pool → List (List ℕ)
names pools = map (λ (pool : Pool). pool.name) pools

none_left : (first : Pool) (pools : List Pool) → list_any (bytes_eq first.name) (names (filter (has_other_name first) pools)) ≡ false
none_left first [] = refl
none_left first (pool ∷ pools) = grind (arith, none_left first pools)

still_none : (name : List ℕ) (first : Pool) (pools : List Pool) → list_any (bytes_eq name) (names pools) ≡ false → list_any (bytes_eq name) (names (filter (has_other_name first) pools)) ≡ false
still_none name first [] none = refl
still_none name first (pool ∷ pools) none = grind (arith, none, still_none name first pools)

still_distinct : (first : Pool) (pools : List Pool) → are_distinct (names pools) ≡ true → are_distinct (names (filter (has_other_name first) pools)) ≡ true
still_distinct first [] all = refl
still_distinct first (pool ∷ pools) all = grind (arith, all, still_distinct first pools, still_none pool.name first pools)

firsts_are_distinct : (pools : List Pool) → are_distinct (names (firsts pools)) ≡ true
firsts_are_distinct [] = refl
firsts_are_distinct (pool ∷ pools) = grind (arith, none_left pool (firsts pools), still_distinct pool (firsts pools) (firsts_are_distinct pools))

-- ---- sizes
in_range : (low number : ℕ) → low ≤ MAX_SIZE → is_within low MAX_SIZE (into_range low number) ≡ true
in_range low number below =
    let above : low ≤ into_range low number = omega arith in
    let under : into_range low number ≤ MAX_SIZE = omega (arith, below) in
    grind (arith, above, under)

low_is_small : (hands : Bool) → cond hands 0 1 ≤ MAX_SIZE
low_is_small true = omega arith
low_is_small false = omega arith

-- If two sizes are in the range, the one that the flag selects is in the range.
either_within : (unbounded : Bool) (low one other : ℕ) → is_within low MAX_SIZE one ≡ true → is_within low MAX_SIZE other ≡ true → is_within low MAX_SIZE (cond unbounded one other) ≡ true
either_within true low one other valid valid' = valid
either_within false low one other valid valid' = valid'

least_within : (low : ℕ) → low ≤ MAX_SIZE → is_within low MAX_SIZE low ≡ true
least_within low below = grind (arith, below)

most_within : (low : ℕ) → low ≤ MAX_SIZE → is_within low MAX_SIZE MAX_SIZE ≡ true
most_within low below = grind (arith, below)

-- The maximum is in the range, or the pool has none.
has_max : (core max : ℕ) (timeout unbounded above : Bool) → is_within core MAX_SIZE core ≡ true → is_within core MAX_SIZE max ≡ true
    → let found = cond unbounded (cond (not timeout) core (cond above MAX_THREADS max)) max in (is_within core MAX_SIZE found || (timeout && unbounded && found == MAX_THREADS)) ≡ true
has_max core max timeout false above at_core valid = or_left (is_within core MAX_SIZE max) _ valid
has_max core max false true above at_core valid = or_left (is_within core MAX_SIZE core) _ at_core
has_max core max true true false at_core valid = or_left (is_within core MAX_SIZE max) _ valid
has_max core max true true true at_core valid = or_right (is_within core MAX_SIZE MAX_THREADS) true refl

pool_is_lawful : (name : List ℕ) (sizes : PoolSizes) → is_valid_name name ≡ true → is_valid_pool (recorded_pool name sizes) ≡ true
pool_is_lawful name sizes valid_gets =
    let unbounded = has_unbounded_queue sizes in
    let core = into_range 1 sizes.core in
    let max = planned_max core sizes in
    let least = least_capacity sizes in
    let queue = planned_queue sizes in
    let below : core ≤ MAX_SIZE = omega arith in
    let small = low_is_small (is_synchronous sizes.queue) in
    both (is_valid_name name) (has_valid_sizes (recorded_pool name sizes)) valid_gets
    (both (is_within 1 MAX_SIZE core && (is_within core MAX_SIZE max || has_no_max (recorded_pool name sizes))) (is_within least MAX_SIZE queue)
    (both (is_within 1 MAX_SIZE core) (is_within core MAX_SIZE max || has_no_max (recorded_pool name sizes)) (in_range 1 sizes.core (omega arith))
    (has_max core (into_range core sizes.max) sizes.timeout unbounded (nat_lt MAX_SIZE sizes.max) (least_within core below) (in_range core sizes.max below)))
    (either_within unbounded least MAX_SIZE (into_range least sizes.capacity) (most_within least small) (in_range least sizes.capacity small)))

-- ---- the pools of lines that were read
still_all : {X : Type 0} (test kept : X → Bool) (items : List X) → list_all test items ≡ true → list_all test (filter kept items) ≡ true
still_all test kept [] all = refl
still_all test kept (item ∷ items) all = grind (arith, all, still_all test kept items)

firsts_are_lawful : (pools : List Pool) → list_all is_valid_pool pools ≡ true → list_all is_valid_pool (firsts pools) ≡ true
firsts_are_lawful [] all = refl
firsts_are_lawful (pool ∷ pools) all =
    let parts = and_parts (is_valid_pool pool) (list_all is_valid_pool pools) all in
    both (is_valid_pool pool) (list_all is_valid_pool (filter (has_other_name pool) (firsts pools))) parts.0
    (still_all is_valid_pool (has_other_name pool) (firsts pools) (firsts_are_lawful pools parts.1))

of_line : (one : RecordedLine) (pools : List Pool) → is_valid_line one ≡ true → list_all is_valid_pool pools ≡ true → list_all is_valid_pool (cons_option (pool_of_line one) pools) ≡ true
of_line (line.Pool name sizes) pools valid_gets all =
    both (is_valid_pool (recorded_pool name sizes)) (list_all is_valid_pool pools) (pool_is_lawful name sizes (and_parts (is_valid_name name) (has_valid_numbers sizes) valid_gets).0) all
of_line other pools valid_gets all = all

of_text : (one : Option RecordedLine) (text : List ℕ) (lines : List RecordedLine) → line_of text ≡ one → list_all is_valid_pool (filter_map pool_of_line lines) ≡ true
    → list_all is_valid_pool (filter_map pool_of_line (cons_option one lines)) ≡ true
of_text None text lines is all = all
of_text (Some one) text lines is all = of_line one (filter_map pool_of_line lines) ((canonical text one).0 is).0 all

of_texts : (texts : List (List ℕ)) → list_all is_valid_pool (filter_map pool_of_line (filter_map (λ (one : Option RecordedLine). one) (map line_of texts))) ≡ true
of_texts [] = refl
of_texts (text ∷ texts) = of_text (line_of text) text (filter_map (λ (one : Option RecordedLine). one) (map line_of texts)) refl (of_texts texts)

pools_make_a_plan : (text : List ℕ) (pools : List Pool) → pools ≡ recorded_pools (lines_of text) → length pools ≤ MAX_POOLS → IsWellFormed (plan_of_lists pools [] [])
unfolding recorded_pools
pools_make_a_plan text pools same few =
    let read = filter_map pool_of_line (lines_of text) in
    record {
      few_pools = few;
      few_classes = omega arith;
      few_clients = omega arith;
      pool_names = subst (λ (ps : List Pool). are_distinct (names ps) ≡ true) (sym same) (firsts_are_distinct read);
      class_names = refl;
      client_names = refl;
      pools = subst (λ (ps : List Pool). list_all is_valid_pool ps ≡ true) (sym same) (firsts_are_lawful read (of_texts (whole_lines text)));
      classes = refl;
      clients = refl;
    }

-- If the pools, classes and client kinds do not form a valid plan, there is a class or a client kind, so the lines have a job or a round.
pub unplanned_actors : (text : List ℕ) (pools : List Pool) (classes : List Class) (clients : List Client) → pools ≡ recorded_pools (lines_of text) → length pools ≤ MAX_POOLS → All (IsNamedClass (lines_of text)) classes
    → All (IsNamedClient (lines_of text)) clients → (IsWellFormed (plan_of_lists pools classes clients) → ⊥) → HasActors (lines_of text)
unplanned_actors text pools [] [] same few class_names client_names none = absurd (none (pools_make_a_plan text pools same few))
unplanned_actors text pools [] (client ∷ clients) same few class_names client_names none = let one = client_names 0 client (omega arith) in (one.label, inl one.begun)
unplanned_actors text pools (class ∷ classes) clients same few class_names client_names none = let one = class_names 0 class (omega arith) in (one.label, inr (one.pool.name, one.submitted))
