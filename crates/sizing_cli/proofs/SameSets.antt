-- Two lists of the same numbers, in any order, are the same set of jobs.
use Rattle.std.proofs.Common.{◌≡◌, ℕ, suc, Bool, true, false, ◌==◌, ◌||◌, List, [], ◌∷◌, get_or, IsTrue, IsPermutation, Contains, refl, sym, arith, eq-eqb}
use Rattle.std.proofs.lemmas.Bool.{eqb-true}
use Rattle.std.proofs.lemmas.List.Folds.{list_any_at}
use Rattle.std.proofs.lemmas.List.Sorted.{Contains-permutation, IsPermutation-sym}
use Rattle.job_bodies.specs.Plan.{Plan}
use Rattle.pool_machine.specs.State.{Stage, State, job_at}
use Rattle.pool_machine.specs.State.Stage.{Queued, At}
use Rattle.pool_machine.specs.Waiting.{is_member, IsMember, WaitsAtStage, IsWaitingSet, is_waiting_set}
use Rattle.pool_machine.proofs.ReachedLaws.{sets_tested}

stands : (members : List ℕ) (j : ℕ) → IsMember members j → Contains members j
stands [] j is = absurd cc
stands (member ∷ members) j is = by_first (member == j) refl is (λ later. stands members j later)
  where
    by_first : (same : Bool) → (member == j) ≡ same → (same || is_member members j) ≡ true → (IsMember members j → Contains members j) → Contains (member ∷ members) j
    by_first true same is rest = (0, omega arith, eqb-true member j same)
    by_first false other is rest = let found = rest is in (suc found.0, omega (arith, found.1), found.2)

is_one : (members : List ℕ) (j : ℕ) → Contains members j → IsMember members j
is_one members j found = list_any_at (λ member. member == j) members found.0 j found.1 (eq-eqb (get_or members found.0 j) j found.2)

same_members : (before after : List ℕ) (j : ℕ) → IsPermutation before after → IsMember before j → IsMember after j
same_members before after j moved is = is_one after j (Contains-permutation before after j moved (stands before j is))

still_waits : (plan : Plan) (s : State) (before after : List ℕ) (j : ℕ) (stage : Stage) → IsPermutation before after → WaitsAtStage plan s before j stage → WaitsAtStage plan s after j stage
still_waits plan s before after j Queued moved waits = record { none_idle = waits.none_idle; all_at_work = λ n busy. same_members before after n moved (waits.all_at_work n busy) }
still_waits plan s before after j (At i) moved waits =
    record {
      submit = waits.submit;
      stands = waits.stands;
      child_number = waits.child_number;
      is_child = waits.is_child;
      member = same_members before after waits.child_number moved waits.member;
    }
still_waits plan s before after j _ moved waits = absurd waits

still_waiting : (plan : Plan) (s : State) (before after : List ℕ) → IsPermutation before after → IsWaitingSet plan s before → IsWaitingSet plan s after
still_waiting plan s before after moved set =
    record {
      first = set.first;
      not_empty = same_members before after set.first moved set.not_empty;
      each = λ j is. still_waits plan s before after j (job_at s j).stage moved (set.each j (same_members after before j (IsPermutation-sym before after moved) is));
    }

same_answers : (a b : Bool) → (IsTrue a → IsTrue b) → (IsTrue b → IsTrue a) → a ≡ b
same_answers true b there back = sym (there refl)
same_answers false true there back = back refl
same_answers false false there back = refl

pub same_sets : (plan : Plan) (s : State) (before after : List ℕ) → IsPermutation before after → is_waiting_set plan s after ≡ is_waiting_set plan s before
same_sets plan s before after moved =
    same_answers (is_waiting_set plan s after) (is_waiting_set plan s before)
    (λ is. (sets_tested plan s before).1 (still_waiting plan s after before (IsPermutation-sym before after moved) ((sets_tested plan s after).0 is)))
    (λ is. (sets_tested plan s after).1 (still_waiting plan s before after moved ((sets_tested plan s before).0 is)))
