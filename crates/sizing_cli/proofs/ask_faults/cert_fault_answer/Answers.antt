use Rattle.std.proofs.Common.{rules, string_bytes}
use Rattle.sizing_cli.proofs.ask_faults.cert_fault_answer.Goals as goal

pub returns : goal.returns
returns c = record {
  words = string_bytes c.in_ok-words.words;
  single_line = c.in_ok-words.ensures.single;
  tells = search rules;
  status = search rules;
}
