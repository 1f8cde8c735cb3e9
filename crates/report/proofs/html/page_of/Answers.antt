use Rattle.report.specs.Html.{page_of}
use Rattle.report.proofs.html.page_of.Goals as goal

pub returns : goal.returns
unfolding page_of
returns c = c.page_between.ensures
