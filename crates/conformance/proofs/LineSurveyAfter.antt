-- The part of a survey that each line updates, after one more line.
use Rattle.std.proofs.Common.{◌≡◌, ◌+◌, ℕ, List, [], ◌∷◌, ◌++◌, length, map, refl, ap, sym, ◌∙◌}
use Rattle.std.proofs.lemmas.List.{map-append}
use Rattle.job_bodies.specs.Plan.{Plan}
use Rattle.recordings.specs.RecordingLine.{RecordedLine}
use Rattle.conformance.specs.declared.pool_comparison.PoolDeviation.{PoolDeviation}
use Rattle.conformance.specs.PoolDeviations.{Deviation, deviation_seen, deviations_by_line, deviations_by_lines}
use Rattle.conformance.specs.PoolComparison.{Adds}
use Rattle.conformance.specs.RoundExcesses.{excesses_by_line, excesses_by_lines}
use Rattle.conformance.specs.ComparisonLaws.{DeviationsAddUp, ExcessesAddUp}
use Rattle.conformance.specs.declared.round_comparison.RoundExcess.{RoundExcess}
use Rattle.std.specs.Prelude.{Option}

pub seen_more : (reported more : List Deviation) (old new : List PoolDeviation) → map deviation_seen old ≡ reported → Adds old more new → map deviation_seen new ≡ reported ++ more
seen_more reported more old new so adds =
    ap (map deviation_seen) adds.after ∙ (map-append deviation_seen old adds.more ∙ (ap (λ (xs : List Deviation). xs ++ map deviation_seen adds.more) so ∙ ap (λ (xs : List Deviation). reported ++ xs) adds.seen))

pub deviations_after : (plan : Plan) (before : List RecordedLine) (line : RecordedLine) (number : ℕ) (old new : List PoolDeviation) → DeviationsAddUp → number ≡ length before + 1
    → map deviation_seen old ≡ deviations_by_lines plan before → Adds old (deviations_by_line plan before number line) new → map deviation_seen new ≡ deviations_by_lines plan (before ++ line ∷ [])
deviations_after plan before line number old new adds_up next so adds =
    seen_more (deviations_by_lines plan before) (deviations_by_line plan before number line) old new so adds
    ∙ (ap (λ (n : ℕ). deviations_by_lines plan before ++ deviations_by_line plan before n line) next ∙ sym (adds_up plan before line))

pub excesses_after : (plan : Plan) (kinds : List (Option ℕ)) (before : List RecordedLine) (line : RecordedLine) (number : ℕ) (old new : List RoundExcess) → ExcessesAddUp → number ≡ length before + 1
    → old ≡ excesses_by_lines plan kinds before → new ≡ old ++ excesses_by_line plan kinds before number line → new ≡ excesses_by_lines plan kinds (before ++ line ∷ [])
excesses_after plan kinds before line number old new adds_up next so adds =
    adds ∙ (ap (λ (xs : List RoundExcess). xs ++ excesses_by_line plan kinds before number line) so
    ∙ (ap (λ (n : ℕ). excesses_by_lines plan kinds before ++ excesses_by_line plan kinds before n line) next ∙ sym (adds_up plan kinds before line)))

pub no_excesses : (plan : Plan) (kinds : List (Option ℕ)) → [] ≡ excesses_by_lines plan kinds []
unfolding excesses_by_lines
no_excesses plan kinds = refl

pub no_deviations : (plan : Plan) → [] ≡ deviations_by_lines plan []
unfolding deviations_by_lines
no_deviations plan = refl
