use Rattle.std.proofs.Common.{rules}
use Rattle.std.proofs.lemmas.List.Sorted.{answers_always}
use Rattle.recordings.proofs.SubmitIndex.{searched}
use Rattle.recordings.proofs.submit_index.SubmitIndex.search.Goals as goal

-- the closure gives an entry's job, and the slice is the index's entries
pub returns-clause-found : goal.returns-clause-found
returns-clause-found c =
    let facts = c.binary_search_by_key.ensures in
    let by_key = facts.position (λ entry. entry.job) (answers_always _ _ _ (λ f a r g called. search rules)) in
    rw (← c.deref.ensures.value) ((searched _ c.args.job (rw c.deref.ensures.value c.requires) _ facts.bound by_key).found)

pub returns-clause-absent : goal.returns-clause-absent
returns-clause-absent c =
    let facts = c.binary_search_by_key.ensures in
    let by_key = facts.position (λ entry. entry.job) (answers_always _ _ _ (λ f a r g called. search rules)) in
    rw (← c.deref.ensures.value) ((searched _ c.args.job (rw c.deref.ensures.value c.requires) _ facts.bound by_key).absent)
