-- The vectors in certificates: a number for each pool, and a row of numbers for each class and each client kind.
use Rattle.std.specs.Prelude.{ℕ, ◌+◌, List, length, codes, Result, Ok}
use Rattle.serde_json.specs.Data.{Data}
use Rattle.support.specs.Reading.{◌>>=◌, read_each}
use Rattle.job_bodies.specs.Plan.{Plan, class_at, client_at}
use Rattle.weights.specs.Vector.{Vector}
use Rattle.cert_text.specs.declared.fault.CertFault.{CertFault}
use Rattle.cert_text.specs.Values.{number_of, elements_of, check_keys, value_at}

-- the value as a list of `count` numbers
unfoldable pub numbers_of : ℕ → Data → Result (List ℕ) CertFault
numbers_of count value = elements_of count value >>= λ values. read_each (λ _. number_of) 0 values

-- the number of weights in the row of class k: for a queued job, for each position of its body from 0 to its length, and for a done job
abbrev pub class_points : Plan → ℕ → ℕ
class_points plan k = length (class_at plan k).body + 3

-- the number of weights in the row of client kind c: for each position of its body from 0 to its length
abbrev pub client_points : Plan → ℕ → ℕ
client_points plan c = length (client_at plan c).body + 1

-- the value as a list that has a row of numbers for each class
unfoldable pub class_rows : Plan → Data → Result (List (List ℕ)) CertFault
class_rows plan value = elements_of (length plan.classes) value >>= λ rows. read_each (λ k. numbers_of (class_points plan k)) 0 rows

-- the value as a list that has a row of numbers for each client kind
unfoldable pub client_rows : Plan → Data → Result (List (List ℕ)) CertFault
client_rows plan value = elements_of (length plan.clients) value >>= λ rows. read_each (λ c. numbers_of (client_points plan c)) 0 rows

unfoldable pub vector_of : Plan → Data → Result Vector CertFault
vector_of plan value =
    check_keys 3 value >>= λ _.
    value_at (codes "workers") value >>= λ workers. numbers_of (length plan.pools) workers >>= λ workers.
    value_at (codes "classes") value >>= λ classes. class_rows plan classes >>= λ classes.
    value_at (codes "clients") value >>= λ clients. client_rows plan clients >>= λ clients.
    Ok (record { workers = workers; classes = classes; clients = clients })
