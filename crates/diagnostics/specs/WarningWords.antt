-- What the contracts promise about the messages of warnings.
use Rattle.std.specs.Prelude.{◌≡◌, ℕ, List, string_bytes, ⊤}
use Rattle.job_bodies.specs.Plan.{Plan}
use Rattle.diagnostics.specs.declared.lint.Lint.{Lint}
use Rattle.diagnostics.specs.declared.lint.Lint.TheVariants.{SubmitsItself}
use Rattle.diagnostics.specs.declared.warnings.Warning.{Warning}
use Rattle.diagnostics.specs.Circles.{ReportsCircle}
use Rattle.diagnostics.specs.Lines.{one_line}

-- if the words for `SubmitsItself` list a circle of submits, the plan has this circle; words for other lints can be any
abbrev pub AreWordsFor : Plan → Lint → List ℕ → Type 0
AreWordsFor plan (SubmitsItself k) words = ReportsCircle plan k words
AreWordsFor plan _ words = ⊤

-- the warning has a message of one line, with the words for its lint
pub record IsWarningOf (plan : Plan) (warning : Warning) : Type 0 where
  pub words : List ℕ
  pub are_words : AreWordsFor plan warning.lint words
  pub in_line : string_bytes warning.what ≡ one_line words
