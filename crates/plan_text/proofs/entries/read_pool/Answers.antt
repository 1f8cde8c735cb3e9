use Rattle.std.proofs.lemmas.Result.{err_from_is_err_and}
use Rattle.support.proofs.Steps.{fails_first}
use Rattle.plan_text.specs.Entries.{read_pool}
use Rattle.plan_text.specs.Entry.{entry_view}
use Rattle.plan_text.proofs.PoolParts.{numbers_fail, flags_fail, pool_read}
use Rattle.plan_text.proofs.entries.read_pool.Goals as goal

pub returns-in_err-entry : goal.returns-in_err-entry
unfolding read_pool
returns-in_err-entry c =
    let failed = err_from_is_err_and c.from_residual.result c.from_residual.ensures.1 in
    rw (failed.1, failed.2) (fails_first _ _ _ c.in_err-entry.ensures)

pub returns-in_err-name : goal.returns-in_err-name
unfolding read_pool
returns-in_err-name c =
    let failed = err_from_is_err_and c.from_residual-in_err-name.result c.from_residual-in_err-name.ensures.1 in
    rw (failed.1, failed.2, c.in_ok-entry.ensures) (fails_first _ _ _ c.in_err-name.ensures)

pub returns-in_err-numbers : goal.returns-in_err-numbers
unfolding read_pool
returns-in_err-numbers c =
    let failed = err_from_is_err_and c.from_residual-in_err-numbers.result c.from_residual-in_err-numbers.ensures.1 in
    rw (failed.1, failed.2, c.in_ok-entry.ensures, c.in_ok-name.ensures) (numbers_fail _ (entry_view c.in_ok-entry.entry) _ c.in_err-numbers.ensures)

pub returns-in_err-flags : goal.returns-in_err-flags
unfolding read_pool
returns-in_err-flags c =
    let failed = err_from_is_err_and c.from_residual-in_err-flags.result c.from_residual-in_err-flags.ensures.1 in
    rw (failed.1, failed.2, c.in_ok-entry.ensures, c.in_ok-name.ensures) (flags_fail _ (entry_view c.in_ok-entry.entry) _ _ c.in_ok-numbers.ensures c.in_err-flags.ensures)

pub returns : goal.returns
unfolding read_pool
returns c =
    rw (c.in_ok-entry.ensures, c.in_ok-name.ensures, c.sizes_of-sizes.ensures, c.in_ok-from_str.ensures.ok) (pool_read (entry_view c.in_ok-entry.entry) _ c.in_ok-numbers.numbers c.in_ok-flags.flags c.in_ok-numbers.ensures c.in_ok-flags.ensures)
