-- A plan whose names are checked before its bodies are read.
use Rattle.std.proofs.Common.{◌≡◌, List, ℕ, Result, Ok}
use Rattle.support.specs.declared.read_error.ReadError.{ReadError}
use Rattle.support.specs.Results.{Fails}
use Rattle.job_bodies.specs.declared.fault.PlanFault.{PlanFault}
use Rattle.plan_text.specs.Checks.{check_pools, check_classes, check_clients}
use Rattle.plan_text.specs.Entries.{Entries}
use Rattle.plan_text.specs.PlanOf.{names_of, plan_of_named, plan_of_entries}
use Rattle.plan_text.proofs.JoinedSteps.{joined_ok, joined_fails}

abbrev pair : List (List ℕ) → List (List ℕ) → Unit {0} → List (List ℕ) × List (List ℕ)
pair pools classes _ = (pools, classes)

-- if the names are valid, the plan is that of its bodies under these names
pub names_first : (entries : Entries) (names : List (List ℕ) × List (List ℕ)) → names_of entries ≡ Ok names → plan_of_entries entries ≡ plan_of_named names.0 names.1 entries
unfolding names_of plan_of_entries
names_first entries names given =
    joined_ok (check_pools entries.pools) (λ pools. check_classes pools entries.classes) (λ _ _. check_clients entries.clients) pair names (λ n. plan_of_named n.0 n.1 entries) given

pub names_fail : (error : ReadError PlanFault) (entries : Entries) → Fails error (names_of entries) → Fails error (plan_of_entries entries)
unfolding names_of plan_of_entries
names_fail error entries failed =
    joined_fails error (check_pools entries.pools) (λ pools. check_classes pools entries.classes) (λ _ _. check_clients entries.clients) pair (λ pools classes _. plan_of_named pools classes entries) failed
