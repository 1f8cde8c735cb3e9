use Rattle.learning.proofs.inference.client_from_count.Goals as goal

pub returns-then-count-gt-MAX_SIZE-clause-err : goal.returns-then-count-gt-MAX_SIZE-clause-err
returns-then-count-gt-MAX_SIZE-clause-err c = λ kinds names lines kind of_kinds counted.
    record { kinds = kinds; names = names; of_kinds = of_kinds; kind = kind; most = c.args.count.most; concurrent = counted.most; beyond = c.if-count-gt-MAX_SIZE.true }
