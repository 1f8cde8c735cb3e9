use Rattle.std.proofs.Common.{sym}
use Rattle.support.proofs.FirstSpace.{rest_shorter}
use Rattle.interleaving.proofs.WordByWord.{front_begin, front_more, front_bad, front_last, front_last_bad}
use Rattle.interleaving.proofs.named_jobs.NamedJobs.to_vec.Goals as goal
use Rattle.interleaving.proofs.named_jobs.NamedJobs.to_vec.Goals.{in-Some-number_of-2+in_ok-push-2, in_default-number_of-2}

pub loop-word-init : goal.loop-word-init
loop-word-init c = rw c.new-numbers.ensures.items (front_begin c.self.inside.words.now c.args.self.now c.self.invariant c.self.view_is)

pub loop-word-smaller-in_ok-push : goal.loop-word-smaller-in_ok-push
loop-word-smaller-in_ok-push c = rest_shorter c.loop-word.rest.now c.in-Some.word.now c.in-Some.behind.now c.in-Some.ensures

pub loop-word-preserved-in_ok-push : goal.loop-word-preserved-in_ok-push
loop-word-preserved-in_ok-push c =
    rw c.in_ok-push.ensures.items
    (front_more c.args.self.now c.loop-word.numbers.items c.loop-word.rest.now c.in-Some.word.now c.in-Some.behind.now c.in-Some-number_of.number c.in-Some.ensures (sym c.in-Some-number_of.ensures) c.loop-word.invariant)

pub loop-word-smaller : goal.loop-word-smaller
loop-word-smaller c = rest_shorter c.loop-word.rest.now c.in-Some.word.now c.in-Some.behind.now c.in-Some.ensures

pub loop-word-preserved : goal.loop-word-preserved
loop-word-preserved c = absurd (front_bad c.args.self.now c.loop-word.numbers.items c.loop-word.rest.now c.in-Some.word.now c.in-Some.behind.now c.in-Some.ensures c.in_default-number_of.ensures c.loop-word.invariant)

pub returns : goal.returns
returns c = elim c.match-number_of-2.branch [
  | in-Some-number_of-2+in_ok-push-2 w ↦
      rw (w.numbers-is, w.in_ok-push-2.ensures.items) (front_last c.args.self.now c.loop-word.numbers.items c.loop-word.rest.now w.in-Some-number_of-2.number c.in_default.ensures (sym w.in-Some-number_of-2.ensures) c.loop-word.invariant)
  | in_default-number_of-2 w ↦
      absurd (front_last_bad c.args.self.now c.loop-word.numbers.items c.loop-word.rest.now c.in_default.ensures w.in_default-number_of-2.ensures c.loop-word.invariant)
]
