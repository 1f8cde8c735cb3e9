-- Numbers past the end of a plan's lists, for which the defaults are used.
use Rattle.std.proofs.Common.{◌≡◌, ℕ, ◌<◌, ◌≤◌, Bool, false, List, [], length, get_or, sym, ap, subst, ◌∙◌}
use Rattle.std.proofs.lemmas.Bool.{false≢true}
use Rattle.std.proofs.lemmas.List.{get_or_past, get_or_default}
use Rattle.job_bodies.specs.declared.action.Action.{Action}
use Rattle.job_bodies.specs.Plan.{Class, Client, Plan, no_class, no_client, class_at, client_at}
use Rattle.size_search.specs.Submitted.{IsNeverGot, LostByClients, LostByJobs}

never_got_in_nothing : (i : ℕ) → IsNeverGot [] i → ⊥
never_got_in_nothing i cause = false≢true cause.is_submit

pub no_job_past : (plan : Plan) (without_bound : Bool) (k i : ℕ) → length plan.classes ≤ k → LostByJobs plan without_bound k i → ⊥
no_job_past plan without_bound k i past lost =
    let cause = lost.never_got in
    let none : (class_at plan k).body ≡ [] = ap (λ (class : Class). class.body) (get_or_past plan.classes k no_class past) in
    never_got_in_nothing i (subst (λ (body : List Action). IsNeverGot body i) none cause.never_got)

pub no_client_past : (plan : Plan) (without_bound : Bool) (c i : ℕ) → length plan.clients ≤ c → LostByClients plan without_bound c i → ⊥
no_client_past plan without_bound c i past lost =
    let cause = lost.never_got in
    let none : (client_at plan c).repeat ≡ false = ap (λ (client : Client). client.repeat) (get_or_past plan.clients c no_client past) in
    false≢true (sym none ∙ cause.repeats)

-- ---- the elements that a loop over the plan's lists reads

element_read : {X : Type 0} (items all : List X) (i : ℕ) (item d : X) → items ≡ all → i < length all → item ≡ get_or items i item → item ≡ get_or all i d
element_read {X} items all i item d same inside read = read ∙ (ap (λ (xs : List X). get_or xs i item) same ∙ get_or_default all i item d inside)

pub class_read : (plan : Plan) (items : List Class) (k : ℕ) (class : Class) → items ≡ plan.classes → k < length plan.classes → class ≡ get_or items k class → class ≡ class_at plan k
class_read plan items k class same inside read = element_read items plan.classes k class no_class same inside read

pub client_read : (plan : Plan) (items : List Client) (c : ℕ) (client : Client) → items ≡ plan.clients → c < length plan.clients → client ≡ get_or items c client → client ≡ client_at plan c
client_read plan items c client same inside read = element_read items plan.clients c client no_client same inside read
