use Rattle.std.proofs.Common.{◌≡◌, ◌+◌, ◌∙◌, ℕ, List, ◌∷◌, [], ap, sym, subst, arith, length, length-append, slice_get, string_bytes, Some}
use Rattle.std.proofs.lemmas.List.{length-map, take_all}
use Rattle.job_bodies.specs.Plan.{Client}
use Rattle.learning.specs.declared.entries.Entry.{Entry}
use Rattle.learning.specs.Counts.{AreOfKinds, IsCounted, client_names}
use Rattle.learning.specs.LearningState.{names_of}
use Rattle.learning.proofs.LabelEntries.{still_stops}
use Rattle.learning.proofs.PushedElements.{pushed, names_pushed}
use Rattle.learning.proofs.inference.clients_from_counts.Goals as goal

pub returns-in_err-client-clause-err : goal.returns-in_err-client-clause-err
returns-in_err-client-clause-err c = λ kinds lines of_kinds counts actors.
    let kind = c.loop-kind.kind in
    let at : slice_get c.args.counts.now kind ≡ Some c.in-Some-Some.count = sym c.count_at.ensures ∙ c.in-Some-Some.is-1 in
    still_stops lines _ _ c.from_residual.ensures.1 (c.in_err-client.ensures.err kinds (names_of c.args.entries.now) lines kind of_kinds (counts kind c.in-Some-Some.count at))

pub loop-kind-preserved : goal.loop-kind-preserved
loop-kind-preserved c =
    let kind = c.loop-kind.kind in
    let current = c.loop-kind.invariant in
    let at : slice_get c.args.counts.now kind ≡ Some c.in-Some-Some.count = sym c.count_at.ensures ∙ c.in-Some-Some.is-1 in
    record {
      many = ap (λ (items : List Client). length items) c.in_ok-push_client.ensures ∙ length-append c.loop-kind.clients.items (c.in_ok-client.client ∷ []) ∙ ap (λ (n : ℕ). n + 1) current.many;
      names = ap client_names c.in_ok-push_client.ensures
          ∙ names_pushed c.args.entries.now c.loop-kind.clients.items c.in-Some-Some.entry.now c.in_ok-client.client kind c.in-Some-Some.ensures.lookup.3.0 c.in-Some-Some.ensures.lookup.1 c.in_ok-client.ensures.name current.names;
      counted = λ kinds lines counts one client there.
          let counted = c.in_ok-client.ensures.counted kinds lines kind (counts kind c.in-Some-Some.count at) in
          pushed (IsCounted kinds lines) c.loop-kind.clients.items c.in_ok-client.client (current.counted kinds lines counts) (subst (λ n. IsCounted kinds lines n c.in_ok-client.client) (sym current.many) counted) one client
          (ap (λ items. slice_get items one) (sym c.in_ok-push_client.ensures) ∙ there);
    }

pub returns-clause-counts : goal.returns-clause-counts
returns-clause-counts c = λ kinds lines of_kinds counts.
    let entries = c.args.entries.now in
    let all = take_all c.loop-kind.kind (names_of entries) (omega (arith, length-map entries (λ (entry : Entry). string_bytes entry.name), c.loop-kind-test.false)) in
    let names : client_names c.loop-kind.clients.items ≡ names_of entries = c.loop-kind.invariant.names ∙ all in
    record {
      kinds = kinds;
      of_kinds = subst (λ ns. AreOfKinds kinds ns lines) (sym names) of_kinds;
      each = c.loop-kind.invariant.counted kinds lines counts;
    }
