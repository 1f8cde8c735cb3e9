-- The results that `clap` has for the application `sizing`.
use Rattle.std.proofs.Common.{◌≡◌, true, false, refl, sym, subst, inl, inr, List, [], ◌∷◌, Option, Result, Ok, Err}
use Rattle.std.specs.Prelude.{IsErrAnd}
use Rattle.std.proofs.lemmas.Bool.{and_parts}
use Rattle.clap.specs.Words.{App, FailsBy, HasKind, IsAmong, Kinds, Row, Text, fault_of, is_simple, is_simple_and_free, kind_of, subcommand_of}
use Rattle.clap.specs.Kinds.{or_else}
use Rattle.clap.specs.Faults.{is_free_app}
use Rattle.clap.specs.Simple.{built}
use Rattle.clap.specs.declared.error.kind.ErrorKind.TheVariants.{ValueValidation}
use Rattle.clap.specs.declared.error.Error.{Error}
use Rattle.clap.specs.declared.error.kind.ErrorKind.{ErrorKind}
use Rattle.clap.proofs.OnLiterals.{clap_on_literals}
use Rattle.command_line.specs.Application.{sizing}
use Rattle.command_line.specs.Command.{kinds_of_refusal, faults_of}

-- the application uses only features that the model of `clap` covers
pub sizing_is_simple : is_simple_and_free sizing ≡ true
unfolding clap_on_literals
sizing_is_simple = refl

sizing_is_plain : is_simple sizing ≡ true
sizing_is_plain = (and_parts (is_simple sizing) (is_free_app (built sizing)) sizing_is_simple).0

-- if `clap` finds no fault in the arguments for an application that equals `sizing`, they have no fault for `sizing`
pub no_fault : (made : App) (words : List Text) → made ≡ sizing
    → (is_simple_and_free made ≡ true → fault_of made words ≡ []) → fault_of sizing words ≡ []
no_fault made words e taken =
    let P : App → Type 0 = λ a. is_simple_and_free a ≡ true → fault_of a words ≡ [] in
    subst P e taken sizing_is_simple

-- a kind in the first of two lists is also in the list that `or_else` selects
among_first : (kind : ErrorKind) (first rest : Kinds) → IsAmong kind first → IsAmong kind (or_else first rest)
among_first kind [] rest among = absurd among
among_first kind (k ∷ first) rest among = among

has_kind_first : (first rest : Kinds) (error : Error) → HasKind first error → HasKind (or_else first rest) error
has_kind_first first rest error (inl memory) = inl memory
has_kind_first first rest error (inr among) = inr (among_first (kind_of error) first rest among)

-- an error that the parse returns has one of the kinds of `faults_of`
pub fails_by_clap : {T : Type 0} (made : App) (words : List Text) (error : Error) (result : Result T Error) → made ≡ sizing
    → (is_simple_and_free made ≡ true → HasKind (fault_of made words) error) → IsErrAnd result (λ e. e ≡ error) → FailsBy (faults_of words) result
fails_by_clap made words error (Ok x) is fails same = absurd same
fails_by_clap made words error (Err e) is fails same =
    let P : App → Type 0 = λ a. is_simple_and_free a ≡ true → HasKind (fault_of a words) error in
    rw same (has_kind_first (fault_of sizing words) _ error (subst P is fails sizing_is_simple))

-- the parsed arguments for an application that equals `sizing` are the parsed arguments for `sizing`
pub rows_of_parse : {A : Type 0} (made : App) (words : List Text) (rows : Option (Text × List Row)) → made ≡ sizing
    → (is_simple made ≡ true → A × (rows ≡ subcommand_of made words)) → rows ≡ subcommand_of sizing words
rows_of_parse {A} made words rows is same =
    let P : App → Type 0 = λ a. is_simple a ≡ true → A × (rows ≡ subcommand_of a words) in
    (subst P is same sizing_is_plain).1

-- if `clap` finds no fault, a result that has the kinds of a refusal has the kinds of `faults_of`
pub fails_by_refusal : {T : Type 0} (words : List Text) (rows : Option (Text × List Row)) (result : Result T Error) → fault_of sizing words ≡ [] → rows ≡ subcommand_of sizing words
    → FailsBy (kinds_of_refusal rows) result → FailsBy (faults_of words) result
fails_by_refusal {T} words rows result none same fails =
    let first : FailsBy (kinds_of_refusal (subcommand_of sizing words)) result = subst (λ (entered : Option (Text × List Row)). FailsBy (kinds_of_refusal entered) result) same fails in
    subst (λ (kinds : Kinds). FailsBy (or_else kinds (kinds_of_refusal (subcommand_of sizing words))) result) (sym none) first
