-- A JSON object that is being built.
use Rattle.std.specs.Prelude.{◌≡◌, ℕ, Bool, true, if◌then◌else◌, List, Option, option_map, IfSome, IsSomeAnd, Result, IsOkAnd}
use Rattle.std.specs.Result.{result_ok}
use Rattle.std.specs.declared.alloc.AllocError.{AllocError}
use Rattle.serde_json.specs.Data.{Data, Members, boolean, put}
use Rattle.serde_json.specs.View.{view, members_view}
use Rattle.serde_json.specs.declared.value.Value.{Value}
use Rattle.report.specs.declared.json_object.Object.{Object}

-- the members of the object so far; None if memory ran out
unfoldable pub members_of : Object → Option Members
members_of o = option_map (λ map. members_view map.entries) (result_ok o.members)

-- the members and, if the flag is true, the member `key` with the value `true`
abbrev pub with_flag : List ℕ → Bool → Members → Members
with_flag key flag members = if flag then put key (boolean true) members else members

-- unless memory ran out, `after` is `before` with the value d for the key `key`
abbrev pub HasAlso : Object → List ℕ → Data → Object → Type 0
HasAlso before key d after = IfSome (members_of after) (λ ms. IsSomeAnd (members_of before) (λ old. ms ≡ put key d old))

-- unless memory ran out, `after` is `before` and, if the flag is true, has the value `true` for the key `key`
abbrev pub HasFlag : Object → List ℕ → Bool → Object → Type 0
HasFlag before key flag after = IfSome (members_of after) (λ ms. IsSomeAnd (members_of before) (λ old. ms ≡ with_flag key flag old))

-- unless memory ran out, `after` is `before` with the value in `part` for the key `key`
abbrev pub HasPart : Object → List ℕ → Result Value AllocError → Object → Type 0
HasPart before key part after = IfSome (members_of after) (λ ms. IsOkAnd part (λ value. IsSomeAnd (members_of before) (λ old. ms ≡ put key (view value) old)))
