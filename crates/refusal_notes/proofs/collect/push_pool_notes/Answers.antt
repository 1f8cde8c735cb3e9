use Rattle.std.proofs.lemmas.Bool.{and_parts}
use Rattle.refusal_notes.proofs.collect.push_pool_notes.Goals as goal

pub push_blocked_notes-requires-clause-fits : goal.push_blocked_notes-requires-clause-fits
push_blocked_notes-requires-clause-fits c = (and_parts _ _ (rw (← c.pool.view_is) at c.requires.fits)).1
