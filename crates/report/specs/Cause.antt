-- The reason why no sizes were found, which is called the cause: its words, and the lines with these words.
use Rattle.std.specs.Prelude.{List, ℕ, [], ◌∷◌, ◌++◌, codes, decimal}
use Rattle.job_bodies.specs.declared.limits.TheConstants.{MAX_SIZE}
use Rattle.job_bodies.specs.Plan.{Plan, pool_at, class_at, client_at}
use Rattle.size_search.specs.declared.found.NoSizes.{NoSizes}
use Rattle.size_search.specs.declared.cause.Cause.TheVariants.{Circle, ClientNeverGets, ClassNeverGets, PoolWaitsForItself}
use Rattle.size_search.specs.declared.found.NoSizes.TheVariants.{Cause, TooLarge}

-- the words for a class whose jobs submit jobs of the same class, directly or through other jobs
abbrev pub circle_words : List ℕ → List ℕ
circle_words name = codes "class " ++ name ++ codes " submits itself"

-- the words for a submit that is repeated without limit and whose jobs are never got
abbrev pub never_got_words : List ℕ → List ℕ → ℕ → List ℕ
never_got_words kind name action = kind ++ (codes " " ++ (name ++ (codes " action " ++ (decimal action ++ codes ": submits without end, and no get waits for these jobs"))))

-- the words for a pool whose sizes are above the limit
abbrev pub above_words : List ℕ → List ℕ
above_words name = codes "pool " ++ name ++ codes ": sizes above " ++ decimal MAX_SIZE

-- the words for a pool whose last thread can wait for a job of the same pool, because its core threads may time out
abbrev pub last_thread_words : List ℕ → List ℕ
last_thread_words name = codes "pool " ++ name ++ codes ": its last thread may wait for a job of this pool, since core threads may time out"

-- the words for the cause
abbrev pub cause_words : Plan → NoSizes → List ℕ
cause_words plan (Cause (Circle k)) = circle_words (class_at plan k).name
cause_words plan (Cause (ClientNeverGets c i)) = never_got_words (codes "client") (client_at plan c).name i
cause_words plan (Cause (ClassNeverGets k i)) = never_got_words (codes "class") (class_at plan k).name i
cause_words plan (Cause (PoolWaitsForItself p)) = last_thread_words (pool_at plan p).name
cause_words plan (TooLarge p) = above_words (pool_at plan p).name

-- the words for the cause, and a newline
abbrev pub cause_text : Plan → NoSizes → List ℕ
cause_text plan cause = cause_words plan cause ++ 10 ∷ []

-- the line `no fitting sizes found`, and then the line with the words for the cause
abbrev pub no_sizes_text : Plan → NoSizes → List ℕ
no_sizes_text plan cause = codes "no fitting sizes found" ++ 10 ∷ cause_text plan cause
