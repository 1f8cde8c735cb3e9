-- Lemmas about the known bytes of a source or sink after several calls.
use Rattle.std.proofs.Common.{◌≡◌, ℕ, ◌+◌, ◌-◌, ◌<◌, List, ◌++◌, Option, length, take, drop, sym, ap, subst, ◌∙◌, append_assoc, take-append-drop, arith}
use Rattle.std.proofs.lemmas.List.{take_rest, length-append}
use Rattle.std.proofs.Math.Seq.{take-append_seam}
use lib.Seq.{take-add}
use Rattle.std.specs.Io.KnownBytes.{Consumes, Appends, Keeps}
use Rattle.std.proofs.KnownBytes.{Consumes-trans, Appends-trans, Appends-kept}
use Rattle.byte_streams.specs.Writing.{AppendsFront}

-- if the first `filled` bytes of the buffer came from the source, and one more read put `count` bytes after them, the first `filled` +
-- `count` bytes of the buffer came from the source
pub Consumes-filled : (a b c : Option (List ℕ)) (xs ys : List ℕ) (filled count : ℕ) → take filled ys ≡ take filled xs
    → Consumes a b (take filled xs) → Consumes b c (take count (drop filled ys)) → Consumes a c (take (filled + count) ys)
Consumes-filled a b c xs ys filled count front before read =
    let joined : take filled xs ++ take count (drop filled ys) ≡ take (filled + count) ys =
    ap (λ l. l ++ take count (drop filled ys)) (sym front) ∙ sym (take-add filled count ys) in
    subst (Consumes a c) joined (Consumes-trans a b c _ _ before read)

-- the sink got the bytes `done`, and `rest` has the bytes of `all` that remain to be written
abbrev pub Written : Option (List ℕ) → Option (List ℕ) → List ℕ → List ℕ → Type 0
Written old new all rest = (done : List ℕ) × (all ≡ done ++ rest) × Appends old new done

-- after the first `count` bytes of `rest` were written, the other bytes of `rest` remain to be written
pub Written-more : (a b c : Option (List ℕ)) (all rest : List ℕ) (count : ℕ) → Written a b all rest → Appends b c (take count rest)
    → Written a c all (take (length rest - count) (drop count rest))
Written-more a b c all rest count (done, split, before) write =
    let moved = split ∙ ap (λ l. done ++ l) (sym (take-append-drop count rest)) ∙ sym (append_assoc done (take count rest) (drop count rest)) in
    (done ++ take count rest, moved ∙ ap (λ l. (done ++ take count rest) ++ l) (sym (take_rest rest count)), Appends-trans a b c _ _ before write)

-- if a write fails before all bytes are written, the sink got a proper prefix of these bytes
pub Written-front : (a b c : Option (List ℕ)) (all rest : List ℕ) → Written a b all rest → 0 < length rest → Keeps b c → AppendsFront a c all
Written-front a b c all rest (done, split, before) some kept =
    let front : take (length done) all ≡ done = ap (take (length done)) split ∙ take-append_seam done rest in
    (length done, omega (arith, ap length split, length-append done rest), subst (Appends a c) (sym front) (Appends-kept a b c done before kept))
