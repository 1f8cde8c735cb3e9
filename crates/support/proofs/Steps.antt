-- Lemmas about steps that run in order.
use Rattle.std.proofs.Common.{◌≡◌, Bool, true, false, Option, None, Some, Result, Ok, Err, refl}
use Rattle.support.specs.declared.read_error.ReadError.{ReadError}
use Rattle.support.specs.declared.read_error.ReadError.TheVariants.{Memory, Fault}
use Rattle.support.specs.Reading.{◌>>=◌, ensure, ok_or}
use Rattle.support.specs.Results.{Fails}

abbrev pub given : {A F : Type 0} → A → Result A F
given x = Ok x

-- equal successful results have equal values
pub ok_injective : {A F : Type 0} (x y : A) → given {F = F} x ≡ given y → x ≡ y
ok_injective x y e = cc

-- if two steps in order succeed, the first returns a value, and the second succeeds for this value
pub bind_ok : {A B F : Type 0} (r : Result A F) (f : A → Result B F) (y : B) → (r >>= f) ≡ Ok y → (x : A) × (r ≡ Ok x) × (f x ≡ Ok y)
bind_ok (Ok x) f y e = (x, refl, e)
bind_ok (Err fault) f y e = absurd cc

-- `bind_ok` in continuation-passing style
pub bind_ok_then : {A B F P : Type 0} (r : Result A F) (f : A → Result B F) (y : B) → (r >>= f) ≡ Ok y → ((x : A) → r ≡ Ok x → f x ≡ Ok y → P) → P
bind_ok_then (Ok x) f y e next = next x refl e
bind_ok_then (Err fault) f y e next = absurd cc

-- if `ensure` succeeds, the condition is true
pub holds_ok : {F : Type 0} (b : Bool) (fault : F) → ensure b fault ≡ Ok tt → b ≡ true
holds_ok true fault e = refl
holds_ok false fault e = absurd cc

-- if `ok_or` succeeds, the option has the value
pub some_ok : {A F : Type 0} (o : Option A) (fault : F) (x : A) → ok_or o fault ≡ Ok x → o ≡ Some x
some_ok (Some y) fault x e = cc
some_ok None fault x e = absurd cc

-- if the first step fails, all steps fail with its error
pub fails_first : {A B F : Type 0} (error : ReadError F) (r : Result A F) (next : A → Result B F) → Fails error r → Fails error (r >>= next)
fails_first Memory r next h = tt
fails_first (Fault fault) r next h = rw h refl
