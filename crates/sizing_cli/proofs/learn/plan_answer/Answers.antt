use Rattle.std.proofs.Common.{rules}
use Rattle.conformance.specs.Lines.{lines_of}
use Rattle.sizing_cli.proofs.EffectiveLearned.{learned_is_effective}
use Rattle.sizing_cli.proofs.LearnedAnswers.{compared}
use Rattle.sizing_cli.proofs.learn.plan_answer.Goals as goal

pub compared_answer-requires : goal.compared_answer-requires
compared_answer-requires c = learned_is_effective c.args.seen.now c.in_ok-plan.plan (lines_of c.args.recording.now) c.requires.seen c.in_ok-plan.ensures

pub returns : goal.returns
returns c =
    compared c.args.strict c.args.recording.now c.args.seen.now c.in_ok-plan.plan c.in-Compared.rejections.items c.in-Compared.findings.items c.in_ok-answer.answer c.requires.no_fault
    (λ of_plan. record {
      no_fault = c.requires.no_fault;
      text = of_plan.text;
      learned = record {
        seen = c.args.seen.now;
        is_seen = c.requires.seen;
        plan = c.in_ok-plan.plan;
        marked = c.in_ok-plan.ensures;
        findings = c.in-Compared.findings.items;
        found = search rules;
        in_order = search rules;
        beside_actors = search rules;
        actors = search rules;
        conforms = search rules;
        is_text = search rules;
      };
      answer_is = of_plan.answer_is;
    })
    (rw (c.deref-2.ensures.value, c.deref-3.ensures.value) at c.in_ok-answer.ensures)
