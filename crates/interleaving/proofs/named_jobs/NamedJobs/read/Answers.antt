use Rattle.std.proofs.Common.{sym}
use Rattle.support.proofs.FirstSpace.{rest_shorter}
use Rattle.interleaving.proofs.WordByWord.{read_more, read_bad, read_last_bad, all_numbers, whole_members}
use Rattle.interleaving.proofs.named_jobs.NamedJobs.read.Goals as goal

pub returns-in_err-number_of : goal.returns-in_err-number_of
returns-in_err-number_of c = rw c.from_residual.ensures (read_bad c.args.words.now _ c.in-Some.word.now _ c.in-Some.ensures c.in_err-number_of.ensures c.loop-word.invariant)

pub loop-word-smaller : goal.loop-word-smaller
loop-word-smaller c = rest_shorter c.loop-word.rest.now c.in-Some.word.now c.in-Some.behind.now c.in-Some.ensures

pub loop-word-preserved : goal.loop-word-preserved
loop-word-preserved c = read_more c.args.words.now c.loop-word.rest.now c.in-Some.word.now c.in-Some.behind.now c.in_ok-number_of.field-0 c.in-Some.ensures (sym c.in_ok-number_of.ensures) c.loop-word.invariant

pub returns-in_err-number_of-2 : goal.returns-in_err-number_of-2
returns-in_err-number_of-2 c = rw c.from_residual-in_err-number_of-2.ensures (read_last_bad c.args.words.now c.loop-word.rest.now c.in_default.ensures c.in_err-number_of-2.ensures c.loop-word.invariant)

pub invariant_of-result : goal.invariant_of-result
invariant_of-result c = all_numbers c.args.words.now c.loop-word.rest.now c.in_ok-number_of-2.field-0 c.in_default.ensures (sym c.in_ok-number_of-2.ensures) c.loop-word.invariant

pub returns : goal.returns
returns c = whole_members c.args.words.now (all_numbers c.args.words.now c.loop-word.rest.now c.in_ok-number_of-2.field-0 c.in_default.ensures (sym c.in_ok-number_of-2.ensures) c.loop-word.invariant)
