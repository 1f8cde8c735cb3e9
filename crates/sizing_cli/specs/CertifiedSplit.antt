-- A bundle whose plan has `plan_len` bytes and that `check` accepts.
use Rattle.std.specs.Prelude.{◌≡◌, ℕ, List, length, Some}
use Rattle.sizing_cli.specs.Bundle.{Bundle, bundle_of}
use Rattle.sizing_cli.specs.Certify.{IsYes}

pub record IsCertifiedSplit (plan_len : ℕ) (text : List ℕ) : Type 0 where
  pub bundle : Bundle
  pub is_bundle : bundle_of text ≡ Some bundle
  pub at : length bundle.plan ≡ plan_len
  pub is_accepted : IsYes bundle.plan bundle.second
