use Rattle.std.proofs.Common.{◌≡◌, ◌<◌, List, [], ◌∷◌, ℕ, length, get_or, slice_index_or, refl, ap, arith}
use Rattle.std.specs.Str.Lines.{lines}
use Rattle.std.proofs.lemmas.Iterator.Splits.{YieldsList-from_lines}
use Rattle.std.proofs.lemmas.Iterator.Consumers.{YieldsList-turn, YieldsList-end}
use Rattle.report.proofs.annotations.first_line.Goals as goal

first_of : (xs : List (List ℕ)) (x : List ℕ) → 0 < length xs → x ≡ get_or xs 0 x → x ≡ get_or xs 0 []
first_of [] x inside is = absurd (omega arith)
first_of (y ∷ ys) x inside is = is

pub returns-in-Some : goal.returns-in-Some
returns-in-Some c =
    let t = YieldsList-turn (YieldsList-from_lines {s = c.lines.result} c.args.text.now c.lines.ensures.rest) [] _ refl c.next.result c.next.new.self c.in-Some.line c.in-Some.is c.next.ensures.steps in
    first_of (lines c.args.text.now) _ t.0 t.1

pub returns-in-None : goal.returns-in-None
returns-in-None c =
    let e = YieldsList-end (YieldsList-from_lines {s = c.lines.result} c.args.text.now c.lines.ensures.rest) [] _ refl c.next.result c.next.new.self c.in-None.is c.next.ensures.steps in
    ap (λ (found : List (List ℕ)). slice_index_or found 0 []) e.0
