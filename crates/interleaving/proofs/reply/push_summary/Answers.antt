use Rattle.std.proofs.Common.{◌≡◌, ℕ, List, [], ◌∷◌, ◌++◌, codes, decimal, Some, refl, sym, subst, append_assoc}
use Rattle.support.specs.Pushed.{Pushes}
use Rattle.interleaving.specs.Reply.{summary}
use Rattle.interleaving.proofs.reply.push_summary.Goals as goal

nested : (a b c d e f g : List ℕ) → a ++ b ++ (c ++ d) ++ e ++ f ++ g ≡ a ++ (b ++ (c ++ (d ++ (e ++ (f ++ g)))))
nested a b c d e f g = simp append_assoc refl

pub returns-in-Some : goal.returns-in-Some
returns-in-Some c =
    let refusals = decimal c.args.refusals in
    let rejected = decimal c.in-Some.rejected in
    let unfinished = decimal c.args.unfinished in
    let line : summary c.args.refusals (Some c.in-Some.rejected) c.args.unfinished ≡ codes "refusals " ++ (refusals ++ (codes ", rejected " ++ (rejected ++ (codes ", unfinished " ++ (unfinished ++ 10 ∷ []))))) =
    nested (codes "refusals ") refusals (codes ", rejected ") rejected (codes ", unfinished ") unfinished (10 ∷ []) in
    rw c.in-Some.is (subst (Pushes c.writeln.result c.args.text.now c.writeln.new.self) (sym line) c.writeln.ensures.bytes)
