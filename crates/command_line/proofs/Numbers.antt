-- Texts that are whole numbers in a range.
use Rattle.std.proofs.Common.{◌≡◌, ℕ, Bool, true, false, cond, Some, None, refl, ap}
use Rattle.std.specs.Str.Parse.{digits_value, without_leading_plus}
use Rattle.clap.specs.Walk.{Text}
use Rattle.clap.specs.Values.{IsUnsignedIn}
use Rattle.clap.specs.ValueTests.{accepts}
use Rattle.clap.specs.declared.builder.value_parser.ValueParser.TheVariants as parser
use Rattle.clap.proofs.ValueTestLemmas.{accepts-Accepts, Accepts-accepts}
use Rattle.command_line.specs.Command.{number_in}

-- if the text is a whole number in the range, `number_in` returns it
pub number_read : (low high : ℕ) (text : Text) (number : ℕ) → IsUnsignedIn low high text → number ≡ digits_value 10 (without_leading_plus text) → Some number ≡ number_in low high text
number_read low high text number lies is = rw (Accepts-accepts false (parser.Unsigned low high) text lies) (ap Some is)

-- if the text is not a whole number in the range, `number_in` returns None
pub number_refused : (low high : ℕ) (text : Text) → (IsUnsignedIn low high text → ⊥) → None ≡ number_in low high text
number_refused low high text refused = by_test (accepts false (parser.Unsigned low high) text) refl
  where
    by_test : (test : Bool) → accepts false (parser.Unsigned low high) text ≡ test → None ≡ cond test (Some (digits_value 10 (without_leading_plus text))) None
    by_test true is = absurd (refused (accepts-Accepts false (parser.Unsigned low high) text is))
    by_test false is = refl
