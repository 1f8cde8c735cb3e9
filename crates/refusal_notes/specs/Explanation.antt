-- The text of all failing conditions of a certificate: a line for each, and their number.
use Rattle.std.specs.Prelude.{ℕ, List, [], ◌∷◌, ◌++◌, codes, decimal, length}
use Rattle.std.specs.List.{flat_map}
use Rattle.job_bodies.specs.Plan.{Plan}
use Rattle.soundness.specs.declared.note.Note.{Note}
use Rattle.refusal_notes.specs.Line.{line}

abbrev pub lines : Plan → List Note → List ℕ
lines plan notes = flat_map (λ note. line plan note ++ 10 ∷ []) notes

abbrev pub explanation : Plan → List Note → List ℕ
explanation plan notes = lines plan notes ++ (codes "failing " ++ decimal (length notes) ++ 10 ∷ [])
