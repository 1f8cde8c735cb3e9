use Rattle.std.proofs.Common.{true, cond, ap, ◌∙◌}
use Rattle.std.specs.Str.{bytes_eq}
use Rattle.std.specs.String.{string_bytes}
use Rattle.std.specs.HashSet.{contains_text}
use Rattle.std.proofs.lemmas.Map.Text.{hash_set_updates_text}
use Rattle.support.specs.Numbered.{value_at}
use Rattle.recordings.specs.PoolNames.{number_of, is_name}
use Rattle.recordings.proofs.PoolsOnceNamed.{named_other}
use Rattle.recordings.proofs.pools.Pools.insert.Goals as goal

pub returns-in_ok-insert-clause-added : goal.returns-in_ok-insert-clause-added
returns-in_ok-insert-clause-added c = λ q.
    let old = c.args.self.now in
    let kept = c.in_ok-kept.kept in
    let reported = hash_set_updates_text (string_bytes kept) old.others c.insert.new.self true c.in_ok-insert.ensures.updates q in
    named_other (is_name q (value_at old.firsts (number_of q))) (contains_text old.others q) (bytes_eq c.args.name.now q) (contains_text c.insert.new.self q) (reported ∙ ap (λ (bs : _). cond (bytes_eq bs q) true (contains_text old.others q)) c.in_ok-kept.ensures.ok)
