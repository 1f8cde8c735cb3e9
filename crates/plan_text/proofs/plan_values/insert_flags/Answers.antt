use Rattle.plan_text.proofs.plan_values.insert_flags.Goals as goal

pub returns : goal.returns
returns c = rw (← c.pool.view_is, ← c.in_ok-insert_flag.ensures, ← c.in_ok-insert_flag-2.ensures) c.insert_flag-3.ensures
