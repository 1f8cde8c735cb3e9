use Rattle.std.proofs.Common.{◌<◌, length, string_bytes, sym, subst, arith}
use Rattle.std.specs.List.{All}
use Rattle.std.proofs.lemmas.List.Elements.{All-push}
use Rattle.job_bodies.specs.declared.limits.TheConstants.{MAX_CLASSES}
use Rattle.conformance.specs.Family.{IsOfFamily}
use Rattle.learning.specs.LearningState.{IsEntryOf, IsGiven}
use Rattle.learning.proofs.LabelEntries.{no_name, still_stops}
use Rattle.learning.proofs.entries.Entries.add.Goals as goal

pub returns-in_err-name-clause-err : goal.returns-in_err-name-clause-err
returns-in_err-name-clause-err c = λ lines beyond given entries.
    let few : length c.deref.result.now < MAX_CLASSES = grind (arith, c.if-len-self.false, c.len.ensures, c.deref.ensures.value, entries.few) in
    still_stops lines _ _ c.from_residual.ensures.1 (no_name lines beyond c.args.label.now c.args.pool _ given (c.in_err-name.ensures.err few))

pub returns-clause-ok : goal.returns-clause-ok
returns-clause-ok c = λ lines beyond given entries.
    let few : length c.deref.result.now < MAX_CLASSES = grind (arith, c.if-len-self.false, c.len.ensures, c.deref.ensures.value, entries.few) in
    record {
      each = subst (All (IsEntryOf lines beyond)) (sym c.in_ok-push.ensures.entries) (All-push (IsEntryOf lines beyond) c.args.self.now.entries.items _ entries.each (record {
        given = subst (λ label. IsGiven lines beyond label c.args.pool) (sym c.in_ok-label.ensures.ok) given;
        named = subst (λ label. IsOfFamily label (string_bytes c.in_ok-name.name)) (sym c.in_ok-label.ensures.ok) (c.in_ok-name.ensures.ok few);
      }));
      few = grind (arith, c.in_ok-push.ensures.limit, entries.few);
      reported = grind (arith, c.in_ok-push.ensures.beyond, entries.reported);
    }
