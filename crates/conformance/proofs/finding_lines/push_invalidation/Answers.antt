use Rattle.std.proofs.Common.{◌++◌, ℕ, List, string_bytes, ap, subst, ◌∙◌, append_assoc}
use Rattle.std.specs.Prelude.{codes}
use Rattle.std.proofs.lemmas.Result.{on_ok_weaker}
use Rattle.support.specs.Pushed.{Pushes}
use Rattle.conformance.specs.FindingText.{event_text}
use Rattle.conformance.proofs.finding_lines.push_invalidation.Goals as goal

pub returns : goal.returns
returns c =
    let a = c.args in
    let event = a.invalidation.event in
    let name = string_bytes a.label.now.name in
    let pool = string_bytes a.label.now.pool in
    let done = subst (λ (p : List ℕ). Pushes c.push_event.result c.push_str.new.self c.push_event.new.text (event_text event name p)) c.deref-2.ensures
    (subst (λ (n : List ℕ). Pushes c.push_event.result c.push_str.new.self c.push_event.new.text (event_text event n c.deref-2.result.now)) c.deref.ensures c.push_event.ensures) in
    on_ok_weaker c.push_event.result
    (λ h. h ∙ (ap (λ (xs : List ℕ). xs ++ event_text event name pool) c.in_ok-push_str.ensures.bytes ∙ append_assoc (string_bytes a.text.now) (codes "the answer SAFE does not hold after this: ") (event_text event name pool)))
    done
