use Rattle.std.proofs.Common.{◌≡◌, true, sym, ◌∙◌, arith}
use Rattle.job_bodies.specs.WellFormed.{is_valid_name}
use Rattle.recordings.proofs.FrequentLines.{name_there, lawful_name}
use Rattle.recordings.proofs.frequent_lines.split_name.Goals as goal

pub returns : goal.returns
returns c =
    let name = c.split_at.result.0.now in
    let good : is_valid_name name ≡ true =
    lawful_name name (omega arith) c.if-name-gt-MAX_NAME_BYTES.false (omega arith) (omega arith) (rw c.split_at.ensures.front c.count_name_bytes.ensures.names)
    in (
      rw c.name_text.ensures good,
      name_there c.args.text.now c.name_text.result.now c.in_ok-strip_byte.field-0.now c.count_name_bytes.result c.args.end (c.name_text.ensures ∙ c.split_at.ensures.front)
          (sym c.split_at.ensures.back ∙ c.in_ok-strip_byte.ensures),
    )
