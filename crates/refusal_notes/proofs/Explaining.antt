-- The lines that the loop over the pools has appended.
use Rattle.std.proofs.Common.{◌≡◌, ◌≤◌, ◌<◌, ◌+◌, ℕ, IsTrue, List, [], ◌∷◌, ◌++◌, length, filter, flat_map, get_or, refl, sym, ap, ◌∙◌, append_assoc, length-append}
use Rattle.std.specs.List.{enumerate_from}
use Rattle.std.proofs.lemmas.List.{take_all}
use Rattle.job_bodies.specs.Plan.{Plan, Pool}
use Rattle.weights.specs.Row.{fails}
use Rattle.weights.specs.Blocked.{blocked_rows}
use Rattle.weights.specs.Ranks.{is_counted, rank_rows}
use Rattle.cert_text.specs.Cert.{PoolCert, Cert, cert_fits}
use Rattle.soundness.specs.declared.note.Section.TheVariants as section
use Rattle.soundness.specs.declared.note.Note.{Note}
use Rattle.soundness.specs.Conditions.{in_section, pool_conditions, failing}
use Rattle.refusal_notes.specs.FailingRows.{failing_of_bound}
use Rattle.refusal_notes.specs.Line.{line}
use Rattle.refusal_notes.specs.Explanation.{lines}
use Rattle.refusal_notes.proofs.CollectedNotes.{note_fails, NotesTo, notes_begin, notes_continue}

-- the lines of the concatenation of two lists of notes are the lines of the first list, followed by those of the second
lines-append : (plan : Plan) (xs ys : List Note) → lines plan (xs ++ ys) ≡ lines plan xs ++ lines plan ys
lines-append plan [] ys = refl
lines-append plan (x ∷ xs) ys =
    ap (λ (t : List ℕ). (line plan x ++ 10 ∷ []) ++ t) (lines-append plan xs ys) ∙ sym (append_assoc (line plan x ++ 10 ∷ []) (lines plan xs) (lines plan ys))

-- the text is the old text, followed by the `count` lines of the ranks and of the first i pools
pub record LinesTo (plan : Plan) (cert : Cert) (first text : List ℕ) (count i : ℕ) : Type 0 where
  pub notes : List Note
  pub collected : NotesTo plan cert notes i
  pub text_is : text ≡ first ++ lines plan notes
  pub count_is : count ≡ length notes

pub lines_begin : (plan : Plan) (cert : Cert) (first text : List ℕ) (count : ℕ) (notes : List Note) → notes ≡ in_section section.Ranks (filter fails (rank_rows plan cert.ranks))
    → text ≡ first ++ lines plan notes → count ≡ length notes → LinesTo plan cert first text count 0
lines_begin plan cert first text count notes ranks is many = record { notes = notes; collected = notes_begin plan cert notes ranks; text_is = is; count_is = many }

pub lines_continue : (plan : Plan) (cert : Cert) (first text text' : List ℕ) (count count' i : ℕ) (pool : PoolCert) (more : List Note)
    → IsTrue (cert_fits plan cert) → i < length cert.pools → pool ≡ get_or cert.pools i pool
    → more
    ≡ failing_of_bound plan i pool.bound
    ++ in_section (section.Blocked i) (filter fails (blocked_rows plan i (is_counted plan cert.ranks) pool.blocked))
    → text' ≡ text ++ lines plan more → count' ≡ count + length more → LinesTo plan cert first text count i → LinesTo plan cert first text' count' (i + 1)
lines_continue plan cert first text text' count count' i pool more fits inside here is collected many prior =
    let added = ap (λ (ns : List Note). prior.notes ++ ns) is ∙ sym (append_assoc prior.notes _ _) in
    record {
      notes = prior.notes ++ more;
      collected = notes_continue plan cert prior.notes (prior.notes ++ more) i pool fits inside here added prior.collected;
      text_is = collected
          ∙ (ap (λ (t : List ℕ). t ++ lines plan more) prior.text_is
          ∙ (append_assoc first (lines plan prior.notes) (lines plan more) ∙ sym (ap (λ (t : List ℕ). first ++ t) (lines-append plan prior.notes more))));
      count_is = many ∙ (ap (λ (n : ℕ). n + length more) prior.count_is ∙ sym (length-append prior.notes more));
    }

-- the text is the old text, followed by the lines of all failing conditions, and `count` is their number
pub record AllLines (plan : Plan) (cert : Cert) (first text : List ℕ) (count : ℕ) : Type 0 where
  pub text_is : text ≡ first ++ lines plan (failing plan cert)
  pub count_is : count ≡ length (failing plan cert)

pub lines_end : (plan : Plan) (cert : Cert) (first text : List ℕ) (count i : ℕ) → length plan.pools ≤ i → LinesTo plan cert first text count i → AllLines plan cert first text count
lines_end plan cert first text count i past prior =
    let all : prior.notes ≡ failing plan cert =
    prior.collected.collected
    ∙ ap (λ (pools : List Pool). filter note_fails (in_section section.Ranks (rank_rows plan cert.ranks) ++ flat_map (λ (entry : ℕ × Pool). pool_conditions plan cert entry.0) (enumerate_from 0 pools))) (take_all i plan.pools past)
    in
    record { text_is = prior.text_is ∙ ap (λ (ns : List Note). first ++ lines plan ns) all; count_is = prior.count_is ∙ ap (λ (ns : List Note). length ns) all }
