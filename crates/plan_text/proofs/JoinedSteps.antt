-- Lemmas about three steps in order whose values are joined to one value.
use Rattle.std.proofs.Common.{◌≡◌, Result, Ok, Err, refl, ap}
use Rattle.support.specs.declared.read_error.ReadError.{ReadError}
use Rattle.support.specs.declared.read_error.ReadError.TheVariants.{Memory, Fault}
use Rattle.support.specs.Reading.{◌>>=◌}
use Rattle.support.specs.Results.{Fails}
use Rattle.support.proofs.Steps.{ok_injective}

-- if a step and what follows it succeed, so does the step with something else after it that succeeds then
ok_with : {A B C F : Type 0} (r : Result A F) (f : A → Result B F) (g : A → Result C F) (y : B) (read : Result C F)
    → (r >>= f) ≡ Ok y → ((x : A) → f x ≡ Ok y → g x ≡ read) → (r >>= g) ≡ read
ok_with (Ok x) f g y read given later = later x given
ok_with (Err fault) f g y read given later = absurd cc

-- the same for an error
fails_with : {A B C F : Type 0} (error : ReadError F) (r : Result A F) (f : A → Result B F) (g : A → Result C F)
    → Fails error (r >>= f) → ((x : A) → Fails error (f x) → Fails error (g x)) → Fails error (r >>= g)
fails_with Memory r f g failed later = tt
fails_with (Fault fault) (Ok x) f g failed later = later x failed
fails_with (Fault fault) (Err other) f g failed later = let same : other ≡ fault = cc in rw same refl

-- a step that succeeds has no error
never_fails : {B C F : Type 0} (error : ReadError F) (y : B) (read : Result C F) → Fails error (Ok y) → Fails error read
never_fails Memory y read failed = tt
never_fails (Fault fault) y read failed = absurd cc

-- three steps in order, and the value that joins their values
abbrev pub joined : {A B C D F : Type 0} → Result A F → (A → Result B F) → (A → B → Result C F) → (A → B → C → D) → Result D F
joined first second third join = first >>= λ x. second x >>= λ y. third x y >>= λ z. Ok (join x y z)

-- if the three steps give a joined value, what follows them gets this value
pub joined_ok : {A B C D E F : Type 0} (first : Result A F) (second : A → Result B F) (third : A → B → Result C F) (join : A → B → C → D) (value : D) (next : D → Result E F)
    → joined first second third join ≡ Ok value → (first >>= λ x. second x >>= λ y. third x y >>= λ z. next (join x y z)) ≡ next value
joined_ok first second third join value next given =
    ok_with first _ _ value _ given (λ x h. ok_with (second x) _ _ value _ h (λ y k. ok_with (third x y) _ _ value _ k (λ z e. ap next (ok_injective _ _ e))))

-- if one of the three steps fails, they fail with its error, whatever follows them
pub joined_fails : {A B C D E F : Type 0} (error : ReadError F) (first : Result A F) (second : A → Result B F) (third : A → B → Result C F) (join : A → B → C → D) (next : A → B → C → Result E F)
    → Fails error (joined first second third join) → Fails error (first >>= λ x. second x >>= λ y. third x y >>= λ z. next x y z)
joined_fails error first second third join next failed =
    fails_with error first _ _ failed (λ x h. fails_with error (second x) _ _ h (λ y k. fails_with error (third x y) _ _ k (λ z e. never_fails error (join x y z) (next x y z) e)))
