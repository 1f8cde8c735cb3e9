use Rattle.std.proofs.Common.{ℕ, List, [], ◌∷◌, ◌++◌, length, None, sym, subst}
use Rattle.job_bodies.specs.declared.action.Action.{Action}
use Rattle.conformance.specs.declared.explained_prefix.ExplainedPrefix.{ExplainedPrefix}
use Rattle.conformance.specs.declared.path_match.PathMatch.{PathMatch}
use Rattle.conformance.specs.Path.{IsPathOf}
use Rattle.conformance.specs.PathMatch.{OnFits, OnDeviates, IfDeviates, IsDecided, IsExplained, IsUnambiguous, HasManyOpenLists, OnUndecided}
use Rattle.conformance.specs.FamilyResult.{IsCorrectResult}
use Rattle.conformance.proofs.MatchedBodies.{reported_fits, reported_deviates, reported_undecided}
use Rattle.conformance.proofs.family_match.FamilyMatch.match_body.Goals as goal

pub returns-in_ok-push-in-Fits : goal.returns-in_ok-push-in-Fits
returns-in_ok-push-in-Fits c body_of matched same reported =
    let a = c.args in
    let fits : IsPathOf a.kind a.path_state a.body.now a.path.now = subst (λ (m : PathMatch). OnFits m (IsPathOf a.kind a.path_state a.body.now a.path.now)) c.in-Fits.is c.in_ok-path_match.ensures.fits in
    let of : IsPathOf a.kind a.path_state (body_of a.number) a.path.now = subst (λ (body : List Action). IsPathOf a.kind a.path_state body a.path.now) (sym same) fits in
    subst (λ (members : List ℕ). IsCorrectResult a.kind body_of a.path_state a.path.now (matched ++ a.number ∷ []) members (record { length = length a.path.now; excess = None; missing = None }) a.self.now.is_decided)
    (sym c.in_ok-push-in-Fits.ensures.items)
    (reported_fits a.kind body_of a.path_state a.path.now matched a.self.now.members.items a.self.now.explained a.self.now.is_decided a.number reported of)

pub returns-in-Deviates : goal.returns-in-Deviates
returns-in-Deviates c body_of matched same reported =
    let a = c.args in
    let deviates : ¬ IsPathOf a.kind a.path_state a.body.now a.path.now = subst (λ (m : PathMatch). OnDeviates m (¬ IsPathOf a.kind a.path_state a.body.now a.path.now)) c.in-Deviates.is c.in_ok-path_match.ensures.deviates in
    let explains : IsExplained a.kind a.body.now a.path.now c.in-Deviates.explained = subst (λ (m : PathMatch). IfDeviates m (IsExplained a.kind a.body.now a.path.now)) c.in-Deviates.is c.in_ok-path_match.ensures.explained in
    let not_of : ¬ IsPathOf a.kind a.path_state (body_of a.number) a.path.now = subst (λ (body : List Action). ¬ IsPathOf a.kind a.path_state body a.path.now) (sym same) deviates in
    let by : IsExplained a.kind (body_of a.number) a.path.now c.in-Deviates.explained = subst (λ (body : List Action). IsExplained a.kind body a.path.now c.in-Deviates.explained) (sym same) explains in
    subst (λ (longest : ExplainedPrefix). IsCorrectResult a.kind body_of a.path_state a.path.now (matched ++ a.number ∷ []) a.self.now.members.items longest a.self.now.is_decided)
    (sym c.longer-self.ensures)
    (reported_deviates a.kind body_of a.path_state a.path.now matched a.self.now.members.items a.self.now.explained a.self.now.is_decided a.number c.in-Deviates.explained reported not_of by)

pub returns-in-Undecided : goal.returns-in-Undecided
returns-in-Undecided c body_of matched same reported =
    let a = c.args in
    let never : IsUnambiguous a.body.now a.path.now → ⊥ = λ only. subst IsDecided c.in-Undecided.is (c.in_ok-path_match.ensures.decided only) in
    reported_undecided a.kind body_of a.path_state a.path.now matched a.self.now.members.items a.self.now.explained a.self.now.is_decided a.number reported
    (λ only. never (subst (λ (body : List Action). IsUnambiguous body a.path.now) same only))
    (subst (λ (body : List Action). HasManyOpenLists a.kind body a.path.now) (sym same) (subst (λ (m : PathMatch). OnUndecided m (HasManyOpenLists a.kind a.body.now a.path.now)) c.in-Undecided.is c.in_ok-path_match.ensures.many))
