-- Lemmas about the members of a table with one more member.
use Rattle.std.proofs.Common.{◌≡◌, Bool, true, false, codes, List, [], ◌∷◌, String, Global, Ordering, Less, Equal, Greater, string_bytes, refl, ap}
use Rattle.std.specs.BTreeMap.{insert_entry}
use Rattle.std.specs.Ordering.{match_ordering}
use Rattle.std.specs.String.{string_cmp}
use Rattle.toml.specs.Data.{Data, member, no_members}
use Rattle.toml.specs.View.{view, members_view}
use Rattle.toml.specs.declared.value.Value.{Value}
use Rattle.plan_text.specs.PlanDocument.{with_member, with_flag, flag_and}

-- the members of a table after a member was inserted before, at or after its first entry, as the order of the keys requires
chosen : (o : Ordering) (k : String Global) (v : Value) (e : String Global × Value) (es more : List (String Global × Value)) → members_view more ≡ with_member (string_bytes k) (view v) (members_view es)
    → members_view (match_ordering o ((k, v) ∷ e ∷ es) ((e.0, v) ∷ es) (e ∷ more))
    ≡ match_ordering o (member (string_bytes k) (view v) (members_view (e ∷ es))) (member (string_bytes e.0) (view v) (members_view es)) (member (string_bytes e.0) (view e.1) (with_member (string_bytes k) (view v) (members_view es)))
chosen Less k v e es more same = refl
chosen Equal k v e es more same = refl
chosen Greater k v e es more same = ap (member (string_bytes e.0) (view e.1)) same

pub members_with : (k : String Global) (v : Value) (es : List (String Global × Value)) → members_view (insert_entry string_cmp es k v) ≡ with_member (string_bytes k) (view v) (members_view es)
members_with k v [] = refl
members_with k v (e ∷ es) = chosen (string_cmp k e.0) k v e es (insert_entry string_cmp es k v) (members_with k v es)

-- inserting the keys of a pool in the order of the writer gives the members in ascending order
pub pool_members : (core max name queue : Data) (prestart core_timeout may_reject : Bool)
    → let sized = with_member (codes "queue") queue (with_member (codes "max") max (with_member (codes "core") core no_members)) in
    with_flag (codes "may_reject") may_reject (with_flag (codes "core_timeout") core_timeout (with_flag (codes "prestart") prestart (with_member (codes "name") name sized)))
    ≡ member (codes "core") core
    (flag_and (codes "core_timeout") core_timeout (member (codes "max") max
    (flag_and (codes "may_reject") may_reject (member (codes "name") name (flag_and (codes "prestart") prestart (member (codes "queue") queue no_members))))))
pool_members core max name queue true true true = refl
pool_members core max name queue true true false = refl
pool_members core max name queue true false true = refl
pool_members core max name queue true false false = refl
pool_members core max name queue false true true = refl
pool_members core max name queue false true false = refl
pool_members core max name queue false false true = refl
pool_members core max name queue false false false = refl
