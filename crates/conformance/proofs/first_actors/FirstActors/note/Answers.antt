use Rattle.std.proofs.Common.{◌≡◌, ◌++◌, ◌∷◌, [], sym, subst, ◌∙◌, ap, true, arith}
use Rattle.conformance.specs.declared.classified_actor.ClassifiedActor.{ClassifiedActor}
use Rattle.std.proofs.lemmas.List.Quantifiers.{position-Some}
use Rattle.conformance.specs.FirstActors.{AreFirstActorsOf, is_same_label}
use Rattle.conformance.proofs.FirstActorsAfter.{after_new, after_known, after_earlier, read_at}
use Rattle.conformance.proofs.Times.{none_passes}
use Rattle.conformance.proofs.first_actors.FirstActors.note.Goals as goal

pub returns-in_ok-push-in-None : goal.returns-in_ok-push-in-None
returns-in_ok-push-in-None c = λ reported are. subst (AreFirstActorsOf (reported ++ c.args.settled ∷ [])) (sym c.in_ok-push-in-None.ensures.items) (after_new reported c.args.self.now.actors.items c.args.settled (none_passes (λ (one : ClassifiedActor). is_same_label one c.args.settled) c.args.self.now.actors.items (sym c.in-None.ensures)) are)

pub returns-then-number_of : goal.returns-then-number_of
returns-then-number_of c = λ reported are.
    let first_actors = c.args.self.now.actors.items in
    let first = c.index.result.now in
    let place = position-Some (λ (one : ClassifiedActor). is_same_label one c.args.settled) first_actors c.in-Some.place first (sym c.in-Some.ensures) in
    let is = c.index.ensures in
    let same : is_same_label first c.args.settled ≡ true = ap (λ (one : ClassifiedActor). is_same_label one c.args.settled) is ∙ place.1 in
    after_earlier reported first_actors c.args.settled first c.in-Some.place are (read_at first_actors c.in-Some.place first place.0 is) same (omega (arith, c.if-number_of.true, c.number_of.ensures, c.number_of-in-Some.ensures))

pub returns-else-number_of : goal.returns-else-number_of
returns-else-number_of c = λ reported are.
    let first_actors = c.args.self.now.actors.items in
    let first = c.index.result.now in
    let place = position-Some (λ (one : ClassifiedActor). is_same_label one c.args.settled) first_actors c.in-Some.place first (sym c.in-Some.ensures) in
    let is = c.index.ensures in
    let same : is_same_label first c.args.settled ≡ true = ap (λ (one : ClassifiedActor). is_same_label one c.args.settled) is ∙ place.1 in
    after_known reported first_actors c.args.settled first c.in-Some.place are (read_at first_actors c.in-Some.place first place.0 is) same (omega (arith, c.if-number_of.false, c.number_of.ensures, c.number_of-in-Some.ensures))
