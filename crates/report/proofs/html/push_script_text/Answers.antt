use Rattle.std.proofs.Common.{List, ◌++◌, sym, ap, ◌∙◌}
use Rattle.std.specs.Prelude.{ℕ, string_bytes}
use Rattle.std.specs.List.{flat_map}
use Rattle.std.proofs.lemmas.List.{map-id}
use Rattle.std.proofs.lemmas.Iterator.{YieldsList-from_chars}
use Rattle.std.proofs.lemmas.Iterator.Consumers.{YieldsList-end}
use Rattle.report.specs.Html.{script_char}
use Rattle.report.proofs.html.push_script_text.Goals as goal

-- all characters were taken
pub returns : goal.returns
returns c =
    let ended = YieldsList-end (YieldsList-from_chars c.args.json.now c.utf8.json cc) c.loop-c.yielded _ c.loop-c.yielded_by _ _ c.in-None.is c.next.ensures.steps in
    c.loop-c.invariant ∙ ap (λ (cs : List ℕ). string_bytes c.args.page.now ++ flat_map script_char cs) (sym (map-id c.loop-c.yielded) ∙ ended.0)
