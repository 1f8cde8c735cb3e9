use Rattle.sizing_cli.proofs.finding_answer.log_of.Goals as goal

pub returns : goal.returns
returns c = record { places = c.in_ok-places.places; fit = c.in_ok-places.ensures; holds = c.in_ok-answer.ensures }
