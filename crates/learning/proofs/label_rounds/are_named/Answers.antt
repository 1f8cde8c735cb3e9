use Rattle.std.proofs.Common.{map, string_bytes, arith}
use Rattle.std.proofs.lemmas.List.{length-map}
use Rattle.learning.specs.declared.entries.Entry.{Entry}
use Rattle.learning.specs.LearningState.{names_of}
use Rattle.learning.proofs.LabelRounds.{same_lists}
use Rattle.learning.proofs.label_rounds.are_named.Goals as goal

pub returns : goal.returns
returns c = λ yes.
    let entries = c.args.entries.now in
    let names = c.args.names.now in
    let named = length-map entries (λ (one : Entry). string_bytes one.name) in
    let given = length-map names string_bytes in
    same_lists (names_of entries) (map string_bytes names) (omega (arith, named, given, c.if-entries-names.false)) (λ n below. c.loop-number.invariant n (omega (arith, below, given, c.loop-number-test.false)))
