use Rattle.recordings.proofs.Names.{bytes_are_text}
use Rattle.recordings.proofs.frequent_lines.name_text.Goals as goal

pub from_utf8_unchecked-requires : goal.from_utf8_unchecked-requires
from_utf8_unchecked-requires c = bytes_are_text c.args.name.now c.requires
