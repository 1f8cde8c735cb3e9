-- No class of an accepted plan submits itself, because the classes that a class submits have lower levels.
use Rattle.std.proofs.Common.{◌≡◌, ℕ, ◌<◌, List, [], ◌∷◌, get_or, ⊎_elim, sym, subst, arith}
use Rattle.support.specs.In.{In}
use Rattle.support.proofs.Members.{not_In_nil, In-cons_cases}
use Rattle.job_bodies.specs.declared.action.Action.{Action}
use Rattle.job_bodies.specs.declared.action.Action.TheVariants.{Submit}
use Rattle.job_bodies.specs.Plan.{Class, Plan, no_class, class_at}
use Rattle.weights.specs.Ranks.{Ranks, level}
use Rattle.soundness.proofs.RankLaws.{RankLaws}
use Rattle.size_search.specs.Submitted.{IsSubmitted, begins, follows}
use Rattle.size_search.proofs.Opened.{place_in}

-- plans with the same classes submit the same classes
pub submitted_in : (plan other : Plan) (bodies : List (List Action)) → other.classes ≡ plan.classes → {k : ℕ} → IsSubmitted plan bodies k → IsSubmitted other bodies k
submitted_in plan other bodies same (begins from at) = begins from at
submitted_in plan other bodies same (follows {j = j} {k = k} known at) =
    follows (submitted_in plan other bodies same known) (subst (λ (classes : List Class). In (Submit k) (get_or classes j no_class).body) (sym same) at)

-- the classes that a class submits, directly or through other classes, have lower levels
pub sinks_below : (plan : Plan) (ranks : Ranks) (k : ℕ) → RankLaws plan ranks → {j : ℕ} → IsSubmitted plan ((class_at plan k).body ∷ []) j → level ranks j < level ranks k
sinks_below plan ranks k laws (begins {k = j} {body = body} from at) =
    ⊎_elim
    (λ (same : body ≡ (class_at plan k).body).
    let found = place_in (subst (In (Submit j)) same at) in
    omega (arith, laws.sinks k found.0 j found.1))
    (λ none. absurd (not_In_nil none))
    (In-cons_cases from)
sinks_below plan ranks k laws (follows {j = i} {k = j} known at) =
    let found = place_in at in
    omega (arith, laws.sinks i found.0 j found.1, sinks_below plan ranks k laws known)
