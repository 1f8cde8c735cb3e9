use Rattle.learning.proofs.CoveredPaths.{own_covering}
use Rattle.learning.proofs.cover.new_body.Goals as goal

pub returns-in-len1-clause-covering : goal.returns-in-len1-clause-covering
returns-in-len1-clause-covering c =
    let a = c.args in
    let own = c.body_of_path.ensures in
    own_covering a.kind a.paths.now c.path-item.result c.deref.result.now c.body_of_path.result c.deref.ensures.value c.path-item.is c.in-len1.len_at_least c.in-len1.len_below (own.fits a.kind) own.no_work own.short own.valid_gets
