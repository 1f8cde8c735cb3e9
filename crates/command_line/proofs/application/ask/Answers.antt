use Rattle.std.proofs.lemmas.Result.{IfOk-weaker}
use Rattle.command_line.proofs.Subcommands.{adds_argument, still_local}
use Rattle.command_line.proofs.application.ask.Goals as goal

pub returns-clause-shape : goal.returns-clause-shape
returns-clause-shape c =
    let one = adds_argument _ c.strict.result c.in_ok-arg.field-0 _ _ c.in_ok-arg.ensures c.strict.ensures.local c.strict.ensures.rule c.in_ok-of_both.ensures.shape in
    let two = adds_argument _ c.format.result c.in_ok-arg-2.field-0 _ _ c.in_ok-arg-2.ensures c.format.ensures.local c.format.ensures.rule one in
    let three = adds_argument _ c.json.result c.in_ok-arg-3.field-0 _ _ c.in_ok-arg-3.ensures c.json.ensures.local c.json.ensures.rule two in
    let four = adds_argument _ c.dot.result c.in_ok-arg-4.field-0 _ _ c.in_ok-arg-4.ensures c.dot.ensures.local c.dot.ensures.rule three in
    IfOk-weaker c.arg-5.result _ _ (λ made adds. adds_argument _ c.certificate.result made _ _ adds c.certificate.ensures.local c.certificate.ensures.rule four) c.arg-5.ensures

pub returns-clause-local : goal.returns-clause-local
returns-clause-local c =
    let one = still_local _ c.strict.result c.in_ok-arg.field-0 c.in_ok-arg.ensures c.strict.ensures.local c.in_ok-of_both.ensures.local in
    let two = still_local _ c.format.result c.in_ok-arg-2.field-0 c.in_ok-arg-2.ensures c.format.ensures.local one in
    let three = still_local _ c.json.result c.in_ok-arg-3.field-0 c.in_ok-arg-3.ensures c.json.ensures.local two in
    let four = still_local _ c.dot.result c.in_ok-arg-4.field-0 c.in_ok-arg-4.ensures c.dot.ensures.local three in
    IfOk-weaker c.arg-5.result _ _ (λ made adds. still_local _ c.certificate.result made adds c.certificate.ensures.local four) c.arg-5.ensures
