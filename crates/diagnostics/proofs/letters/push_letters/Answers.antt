use Rattle.std.proofs.Common.{◌++◌, length, take, flat_map, string_bytes, sym, ap, ◌∙◌, arith}
use Rattle.std.proofs.lemmas.Iterator.{YieldsList-from_chars}
use Rattle.std.proofs.lemmas.Iterator.Consumers.{YieldsList-turn, YieldsList-end}
use Rattle.std.proofs.lemmas.List.{length_push, take_all}
use Rattle.std.specs.Str.{chars, encode_utf8_all}
use Rattle.diagnostics.specs.Letters.{kept}
use Rattle.diagnostics.proofs.Lines.{written_more}
use Rattle.diagnostics.proofs.letters.push_letters.Goals as goal

pub loop-letter-preserved : goal.loop-letter-preserved
loop-letter-preserved c =
    let cs = chars c.args.text.now in
    let start = string_bytes c.args.letters.now in
    let t = YieldsList-turn (YieldsList-from_chars c.args.text.now c.utf8.text cc) c.loop-letter.yielded _ c.loop-letter.yielded_by _ _ c.in-Some.letter c.in-Some.is c.next.ensures.steps in
    let more = written_more kept cs start (string_bytes c.loop-letter.letters) (length c.loop-letter.yielded) c.in-Some.letter t.0 t.1 c.loop-letter.invariant in
    c.in_ok-push_kept.ensures ∙ (more ∙ ap (λ n. start ++ encode_utf8_all (flat_map kept (take n cs))) (sym (length_push c.loop-letter.yielded c.in-Some.letter)))

pub returns : goal.returns
returns c =
    let cs = chars c.args.text.now in
    let start = string_bytes c.args.letters.now in
    let t = YieldsList-end (YieldsList-from_chars c.args.text.now c.utf8.text cc) c.loop-letter.yielded _ c.loop-letter.yielded_by _ _ c.in-None.is c.next.ensures.steps in
    c.loop-letter.invariant ∙ ap (λ xs. start ++ encode_utf8_all (flat_map kept xs)) (take_all (length c.loop-letter.yielded) cs (omega (arith, t.1)))
