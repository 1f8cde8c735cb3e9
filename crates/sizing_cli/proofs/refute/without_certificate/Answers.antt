use Rattle.sizing_cli.proofs.RefutedAnswers.{answered_by}
use Rattle.sizing_cli.proofs.refute.without_certificate.Goals as goal

pub returns : goal.returns
returns c =
    answered_by c.args.states c.args.refute_format c.args.text.items c.args.plan.now c.in_ok-answer_of.field-0 c.in_ok-search.search.witness c.in_ok-search.search.states c.requires c.in_ok-search.ensures.witness
    c.in_ok-search.ensures.states c.in_ok-answer_of.ensures.some c.in_ok-answer_of.ensures.none
