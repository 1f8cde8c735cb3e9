-- Bytes after the maximum length of an input do not change the answer.
use Rattle.std.proofs.Common.{◌≡◌, ℕ, ◌+◌, ◌<◌, inl, inr, Bool, cond, List, length, take, Option, Some, None, IfSome, sym, ap, ◌∙◌, arith}
use Rattle.std.proofs.lemmas.Bool.{cases_lt, lt-ltb}
use Rattle.std.proofs.lemmas.List.{take_all, length-take-le}
use Rattle.job_bodies.specs.Plan.{Plan}
use Rattle.job_bodies.specs.declared.limits.TheConstants.{MAX_INPUT_BYTES}
use Rattle.sizing_cli.specs.Answer.{Answer, input_too_long}
use Rattle.sizing_cli.specs.Bundle.{bundle_of}
use Rattle.sizing_cli.specs.Report.{answer_by, answer_of_bundle}

too_long : (answers : Plan → List ℕ → Answer) (input : List ℕ) → MAX_INPUT_BYTES < length input → answer_by answers input ≡ input_too_long
too_long answers input long = ap (λ (b : Bool). cond b input_too_long (answer_of_bundle answers (bundle_of input))) (lt-ltb MAX_INPUT_BYTES (length input) long)

pub answer-take : (answers : Plan → List ℕ → Answer) (input : List ℕ) → answer_by answers (take (MAX_INPUT_BYTES + 1) input) ≡ answer_by answers input
answer-take answers input =
    elim (cases_lt (MAX_INPUT_BYTES + 1) (length input)) [
      | inl long ↦
          let cut : length (take (MAX_INPUT_BYTES + 1) input) ≡ MAX_INPUT_BYTES + 1 = length-take-le (MAX_INPUT_BYTES + 1) input (omega arith) in
          too_long answers (take (MAX_INPUT_BYTES + 1) input) (omega arith) ∙ sym (too_long answers input (omega arith))
      | inr short ↦ ap (λ (bytes : List ℕ). answer_by answers bytes) (take_all (MAX_INPUT_BYTES + 1) input short)
    ]

-- the answer to what was read is the answer to the whole input
pub answered_whole : (remaining : Option (List ℕ)) (items slice : List ℕ) (answers : Plan → List ℕ → Answer) (answer : Answer)
    → IfSome remaining (λ input. items ≡ take (MAX_INPUT_BYTES + 1) input) → slice ≡ items → answer ≡ answer_by answers slice
    → IfSome remaining (λ input. answer ≡ answer_by answers input)
answered_whole None items slice answers answer front same is = tt
answered_whole (Some input) items slice answers answer front same is =
    is ∙ (ap (λ (bytes : List ℕ). answer_by answers bytes) (same ∙ front) ∙ answer-take answers input)
