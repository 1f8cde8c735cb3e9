-- Whether a certificate may replace a text is known from the part of the text that is read.
use Rattle.std.proofs.Common.{◌≡◌, ◌∙◌, ℕ, ◌+◌, ◌<◌, inl, inr, Bool, true, false, List, [], length, take, Option, Some, None, Result, Ok, Err, IfSome, IfOk, IfErr, sym, ap, refl, arith}
use Rattle.std.proofs.lemmas.Bool.{cases_lt, lt-leb, ne_eqb}
use Rattle.std.proofs.lemmas.List.{take_all, length-take-le}
use Rattle.clap.specs.Words.{Text}
use Rattle.job_bodies.specs.declared.limits.TheConstants.{MAX_CERT_BYTES}
use Rattle.sizing_cli.specs.CliError.{IsOfContent, IsOfText}
use Rattle.sizing_cli.specs.SavedCertificate.{is_replaceable}
use Rattle.sizing_cli.specs.declared.fault.CliError.{CliError}
use Rattle.sizing_cli.specs.declared.fault.CliError.TheVariants.{Words, NoCommand, InputTwice, Bundle, Unread, CertificateNeedsFile, Directory, Occupied, Unwritten, Serve}

too_long : (text : List ℕ) → MAX_CERT_BYTES < length text → is_replaceable text ≡ false
too_long text long = rw (ne_eqb (length text) 0 (λ is. omega (arith, is)), lt-leb (length text) MAX_CERT_BYTES long) refl

pub replaceable_by_front : (text : List ℕ) → is_replaceable (take (MAX_CERT_BYTES + 1) text) ≡ is_replaceable text
replaceable_by_front text =
    elim (cases_lt (MAX_CERT_BYTES + 1) (length text)) [
      | inl long ↦
          let cut : length (take (MAX_CERT_BYTES + 1) text) ≡ MAX_CERT_BYTES + 1 = length-take-le (MAX_CERT_BYTES + 1) text (omega arith) in
          too_long (take (MAX_CERT_BYTES + 1) text) (omega arith) ∙ sym (too_long text (omega arith))
      | inr short ↦ ap is_replaceable (take_all (MAX_CERT_BYTES + 1) text short)
    ]

abbrev items_in : Option (List ℕ) → List ℕ
items_in (Some items) = items
items_in None = []

-- what holds of the part of a known text that was read holds of the text
known_by_front : (known : Option (List ℕ)) (found : Option (List ℕ)) (items : List ℕ) (may : Bool) → IfSome known (λ text. found ≡ Some (take (MAX_CERT_BYTES + 1) text)) → found ≡ Some items → is_replaceable items ≡ may
    → IfSome known (λ text. is_replaceable text ≡ may)
known_by_front (Some text) found items may front same is = sym (replaceable_by_front text) ∙ (ap is_replaceable (ap items_in (sym front ∙ same)) ∙ is)
known_by_front None found items may front same is = tt

pub replaceable_known : {T : Type 0} (result : Result T CliError) (known : Option (List ℕ)) (found : Option (List ℕ)) (items : List ℕ) → IfSome known (λ text. found ≡ Some (take (MAX_CERT_BYTES + 1) text)) → found ≡ Some items
    → IfOk result (λ _. is_replaceable items ≡ true) → IfOk result (λ _. IfSome known (λ text. is_replaceable text ≡ true))
replaceable_known (Ok value) known found items front same is = known_by_front known found items true front same is
replaceable_known (Err fault) known found items front same is = tt

of_content : (known : Option (List ℕ)) (name : Text) (found : Option (List ℕ)) (items : List ℕ) (fault : CliError) → IfSome known (λ text. found ≡ Some (take (MAX_CERT_BYTES + 1) text)) → found ≡ Some items → IsOfText name items fault → IsOfContent known name fault
of_content known named found items (Words error) front same of = absurd of
of_content known named found items NoCommand front same of = absurd of
of_content known named found items InputTwice front same of = absurd of
of_content known named found items (Bundle name) front same of = absurd of
of_content known named found items (Unread name) front same of = absurd of
of_content known named found items CertificateNeedsFile front same of = absurd of
of_content known named found items (Directory name) front same of = absurd of
of_content known named found items (Occupied name) front same of = (of.0, known_by_front known found items false front same of.1)
of_content known named found items (Unwritten name) front same of = absurd of
of_content known named found items (Serve fault) front same of = of

pub fault_known : {T : Type 0} (result : Result T CliError) (known : Option (List ℕ)) (name : Text) (found : Option (List ℕ)) (items : List ℕ) → IfSome known (λ text. found ≡ Some (take (MAX_CERT_BYTES + 1) text)) → found ≡ Some items
    → IfErr result (IsOfText name items) → IfErr result (IsOfContent known name)
fault_known (Ok value) known name found items front same of = tt
fault_known (Err fault) known name found items front same of = of_content known name found items fault front same of
