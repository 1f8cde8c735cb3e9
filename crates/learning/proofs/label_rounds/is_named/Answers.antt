use Rattle.std.proofs.Common.{◌≡◌, string_bytes, arith}
use Rattle.std.proofs.lemmas.Slice.Eq.{bytes_eq-Decides}
use Rattle.learning.specs.declared.entries.Entry.{Entry}
use Rattle.learning.proofs.LabelRounds.{named_at}
use Rattle.learning.proofs.label_rounds.is_named.Goals as goal

pub returns-in-Some : goal.returns-in-Some
returns-in-Some c = λ yes.
    let entry = c.in-Some.entry.now in
    let same : string_bytes entry.name ≡ c.args.name.now = (bytes_eq-Decides (string_bytes entry.name) c.args.name.now).0 (grind (arith, yes, c.eq.ensures, c.as_str.ensures.value)) in
    named_at (λ (one : Entry). string_bytes one.name) c.args.entries.now c.args.number entry c.args.name.now c.in-Some.ensures.lookup.3.0 c.in-Some.ensures.lookup.1 same
