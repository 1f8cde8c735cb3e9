-- Objects that are built member by member.
use Rattle.std.proofs.Common.{◌≡◌, ℕ, List, ap, ap₂, ◌∙◌, refl, rules}
use Rattle.std.specs.Prelude.{Option, Some, None, IfSome, IsSomeAnd, Result, Ok, Err, IfOk, IsOkAnd}
use Rattle.std.specs.declared.alloc.AllocError.{AllocError}
use Rattle.serde_json.specs.Data.{Data, null, Members, no_members, object, put}
use Rattle.serde_json.specs.View.{view}
use Rattle.serde_json.specs.declared.value.Value.{Value, Null, the_lemmas}

-- unless memory ran out, these are the members
abbrev pub Has : Option Members → Members → Type 0
Has found all = IfSome found (λ ms. ms ≡ all)

-- an object without members
pub has_none : (found : Option Members) → found ≡ Some no_members → Has found no_members
has_none found is = rw is refl

-- the members after one more value
pub has_value : (before after : Option Members) (key : List ℕ) (d e : Data) (all : Members)
    → Has before all → d ≡ e → IfSome after (λ ms. IsSomeAnd before (λ old. ms ≡ put key d old)) → Has after (put key e all)
has_value before None key d e all has is value = tt
has_value None (Some ms) key d e all has is value = absurd value
has_value (Some old) (Some ms) key d e all has is value = value ∙ ap₂ (put key) is has

-- the members after one more part
pub has_part : (before after : Option Members) (key : List ℕ) (part : Result Value AllocError) (e : Data) (all : Members)
    → Has before all → IfOk part (λ v. view v ≡ e) → IfSome after (λ ms. IsOkAnd part (λ v. IsSomeAnd before (λ old. ms ≡ put key (view v) old))) → Has after (put key e all)
has_part before None key part e all has is added = tt
has_part before (Some ms) key (Err error) e all has is added = absurd added
has_part None (Some ms) key (Ok v) e all has is added = absurd added
has_part (Some old) (Some ms) key (Ok v) e all has is added = added ∙ ap₂ (put key) is has

-- the object with the members
pub is_object : (found : Option Members) (result : Result Value AllocError) (all : Members)
    → Has found all → IfOk result (λ v. IsSomeAnd found (λ ms. view v ≡ object ms)) → IfOk result (λ v. view v ≡ object all)
is_object found (Err error) all has is = tt
is_object None (Ok v) all has is = absurd is
is_object (Some ms) (Ok v) all has is = is ∙ ap object has

pub view_null : view Null ≡ null
view_null = search (rules, the_lemmas)
