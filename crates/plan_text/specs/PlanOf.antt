-- The plan of a text. It is read in four steps: the document, the shapes of the entries, the names and numbers, and the bodies.
use Rattle.std.specs.Prelude.{ℕ, List, Result, Ok}
use Rattle.support.specs.Reading.{◌>>=◌, read_each}
use Rattle.job_bodies.specs.declared.fault.PlanFault.{PlanFault}
use Rattle.job_bodies.specs.Plan.{Plan}
use Rattle.plan_text.specs.Document.{document_of}
use Rattle.plan_text.specs.Entries.{Entries, entries_of}
use Rattle.plan_text.specs.Checks.{check_pools, check_classes, check_clients}
use Rattle.plan_text.specs.Bodies.{class_of, client_of}

-- the plan with these entries, given the names of its pools and classes, or the first fault in a body
abbrev pub plan_of_named : List (List ℕ) → List (List ℕ) → Entries → Result Plan PlanFault
plan_of_named pool_names class_names entries =
    read_each (class_of pool_names class_names) 0 entries.classes >>= λ classes.
    read_each (client_of class_names) 0 entries.clients >>= λ clients.
    Ok (record { pools = entries.pools; classes = classes; clients = clients })

-- the names of the pools and of the classes of these entries, or the first fault in the names and numbers
unfoldable pub names_of : Entries → Result (List (List ℕ) × List (List ℕ)) PlanFault
names_of entries =
    check_pools entries.pools >>= λ pool_names.
    check_classes pool_names entries.classes >>= λ class_names.
    check_clients entries.clients >>= λ _. Ok (pool_names, class_names)

-- the plan with these entries, or the first fault in the names and numbers, or in the bodies
unfoldable pub plan_of_entries : Entries → Result Plan PlanFault
plan_of_entries entries =
    check_pools entries.pools >>= λ pool_names.
    check_classes pool_names entries.classes >>= λ class_names.
    check_clients entries.clients >>= λ _. plan_of_named pool_names class_names entries

-- the plan with this text, or the first fault of the text
unfoldable pub plan_of : List ℕ → Result Plan PlanFault
plan_of bytes = document_of bytes >>= λ document. entries_of document >>= λ entries. plan_of_entries entries
