use Rattle.std.proofs.Common.{rules}
use Rattle.sizing_cli.proofs.ask_faults.faults_answer.Goals as goal

pub returns : goal.returns
returns c = record {
  faults = c.in_ok-faults.faults;
  is_first = c.in_ok-faults.ensures.first;
  single_lines = c.in_ok-faults.ensures.single_lines;
  within = c.in_ok-faults.ensures.within;
  full = c.in_ok-faults.ensures.full;
  tells = search rules;
  status = search rules;
}
