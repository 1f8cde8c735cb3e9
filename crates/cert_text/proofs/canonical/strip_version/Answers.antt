use Rattle.std.proofs.Common.{◌≡◌, ℕ, Bool, true, false, cond, List, ◌++◌, codes, decimal, refl, sym, ap, ◌∙◌}
use Rattle.std.specs.Fmt.{digits}
use Rattle.std.proofs.lemmas.Result.{IfOk-weaker}
use Rattle.cert_text.specs.Cert.{Cert}
use Rattle.cert_text.specs.CertText.{version_number}
use Rattle.cert_text.specs.Canonical.{version_text}
use Rattle.cert_text.proofs.canonical.strip_version.Goals as goal

version_two : (cert : Cert) → version_number cert ≡ 2 → codes ",\"version\":2}" ≡ version_text cert
unfolding digits
version_two cert e = ap (λ (n : ℕ). codes ",\"version\":" ++ (decimal n ++ codes "}")) (sym e)

version_one : (cert : Cert) → version_number cert ≡ 1 → codes ",\"version\":1}" ≡ version_text cert
unfolding digits
version_one cert e = ap (λ (n : ℕ). codes ",\"version\":" ++ (decimal n ++ codes "}")) (sym e)

-- a version that is not 2 is 1
other_version : (all : Bool) → (◌≡◌ {A = ℕ} (cond all 1 2) 2 → ⊥) → ◌≡◌ {A = ℕ} (cond all 1 2) 1
other_version true other = refl
other_version false other = absurd (other refl)

pub returns-then-version_number-eq2 : goal.returns-then-version_number-eq2
returns-then-version_number-eq2 c =
    let two : version_number c.args.cert.now ≡ 2 = sym c.version_number.ensures ∙ c.if-version_number-eq2.true in
    IfOk-weaker c.strip_bytes.result _ _ (λ rest read. read ∙ ap (λ (t : List ℕ). t ++ rest.now) (version_two c.args.cert.now two)) c.strip_bytes.ensures

pub returns-else-version_number-eq2 : goal.returns-else-version_number-eq2
returns-else-version_number-eq2 c =
    let one : version_number c.args.cert.now ≡ 1 = other_version _ (λ e. c.if-version_number-eq2.false (c.version_number.ensures ∙ e)) in
    IfOk-weaker c.strip_bytes-else-version_number-eq2.result _ _ (λ rest read. read ∙ ap (λ (t : List ℕ). t ++ rest.now) (version_one c.args.cert.now one)) c.strip_bytes-else-version_number-eq2.ensures
