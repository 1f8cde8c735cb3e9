-- The search for the get that keeps a body from an index.
use Rattle.std.proofs.Common.{◌≡◌, ℕ, suc, ◌<◌, ◌≤◌, ◌⊎◌, inl, inr, Bool, true, false, cond, ◌&&◌, eqb, ltb, List, get_or, Option, Some, None, refl, sym, ap, subst, ◌∙◌, arith}
use Rattle.std.proofs.lemmas.Bool.{cases_lt, false≢true, and_parts, and_cases, eqb-true, eqb-false, ltb-true, ltb-false}
use Rattle.std.proofs.lemmas.Option.{same_Some, none-some}
use Rattle.conformance.specs.declared.body_gets.BodyGet.{BodyGet}
use Rattle.conformance.specs.declared.blocking_get.Way.{Way}
use Rattle.conformance.specs.declared.blocking_get.Way.TheVariants as way
use Rattle.conformance.specs.BlockingGet.{may_pass, IsLastReached, IsFreeFrom, IsFree, IsBlocked, IsBlocking, way_at, get_on, least_get, free_after, way_after}

-- The last index that is not yet `n` is below `n`.
below_or_at : (index n : ℕ) → index < suc n → (index < n) ⊎ (index ≡ n)
below_or_at index n lt = elim (cases_lt index n) [
  | inl less ↦ inl less
  | inr more ↦ inr (omega (arith, lt, more))
]

module _ (row passes : List Bool) (gets : List (Option BodyGet)) where
  -- The way, up to index `m`, from the last index below `n` where the body can be.
  abbrev pub IsWay : ℕ → ℕ → Way → Type 0
  IsWay n m way.Unreached = (index : ℕ) → index < n → get_or row index false ≡ false
  IsWay n m way.Free = IsFree row passes gets n m
  IsWay n m (way.Blocked get) = IsBlocked row passes gets n m get

  -- ---- one more index
  last_stays : (n reached : ℕ) → IsLastReached row n reached → get_or row n false ≡ false → IsLastReached row (suc n) reached
  last_stays n reached from not_at = record {
    before = let lt = from.before in omega (arith, lt);
    at = from.at;
    last = λ index above lt. elim (below_or_at index n lt) [
      | inl less ↦ from.last index above less
      | inr same ↦ subst (λ i. get_or row i false ≡ false) (sym same) not_at
    ];
  }

  way_here_not : (n m : ℕ) (before : Way) → get_or row n false ≡ false → IsWay n m before → IsWay (suc n) m before
  way_here_not n m way.Unreached not_at so = λ index lt. elim (below_or_at index n lt) [
    | inl less ↦ so index less
    | inr same ↦ subst (λ i. get_or row i false ≡ false) (sym same) not_at
  ]
  way_here_not n m way.Free not_at so = record { reached = so.reached; from = last_stays n so.reached so.from not_at; free = so.free }
  way_here_not n m (way.Blocked get) not_at so = record {
    reached = so.reached;
    from = last_stays n so.reached so.from not_at;
    stop = so.stop;
    first = so.first;
    after = so.after;
    within = so.within;
    free = so.free;
    stops = so.stops;
    first_is = so.first_is;
    same_class = so.same_class;
    least = so.least;
    place = so.place;
    place_after = so.place_after;
    place_within = so.place_within;
    place_is = so.place_is;
  }

  pub way_here : (n : ℕ) (before : Way) (is_at : Bool) → get_or row n false ≡ is_at → IsWay n n before → IsWay (suc n) n (way_at before is_at)
  way_here n before true at so = record {
    reached = n;
    from = record { before = omega arith; at = at; last = λ index above lt. absurd (omega (arith, above, lt)) };
    free = λ index above lt. absurd (omega (arith, above, lt));
  }
  way_here n before false at so = way_here_not n n before at so

  -- ---- over one more action
  more_free : (reached m : ℕ) (pass : Bool) (get : Option BodyGet) → get_or passes m false ≡ pass → get_or gets m None ≡ get → may_pass get pass ≡ true → IsFreeFrom passes gets reached m → IsFreeFrom passes gets reached (suc m)
  more_free reached m pass get pass_is get_is may free = λ index above lt. elim (below_or_at index m lt) [
    | inl less ↦ free index above less
    | inr same ↦
        subst (λ i. may_pass (get_or gets i None) (get_or passes i false) ≡ true) (sym same)
        (ap (λ g. may_pass g (get_or passes m false)) get_is ∙ (ap (may_pass get) pass_is ∙ may))
  ]

  way_free : (n m : ℕ) (pass : Bool) (get : Option BodyGet) → get_or passes m false ≡ pass → get_or gets m None ≡ get → may_pass get pass ≡ true → IsFree row passes gets n m → IsFree row passes gets n (suc m)
  way_free n m pass get pass_is get_is may so = record { reached = so.reached; from = so.from; free = more_free so.reached m pass get pass_is get_is may so.free }

  -- The first get that the body may not pass.
  way_stops : (n m : ℕ) (get : BodyGet) → n ≡ suc m → get_or passes m false ≡ false → get_or gets m None ≡ Some get → IsFree row passes gets n m → IsBlocked row passes gets n (suc m) get
  way_stops n m get next pass_is get_is so = record {
    reached = so.reached;
    from = so.from;
    stop = m;
    first = get;
    after = let lt = so.from.before in omega (arith, lt, next);
    within = omega arith;
    free = so.free;
    stops = pass_is;
    first_is = get_is;
    same_class = refl;
    least = λ index other above lt other_is same.
        let at : index ≡ m = omega (arith, above, lt) in
        let is : get ≡ other = same_Some get other (sym get_is ∙ (ap (λ i. get_or gets i None) (sym at) ∙ other_is)) in
        subst (λ (g : BodyGet). get.limit ≤ g.limit) is (omega arith);
    place = m;
    place_after = omega arith;
    place_within = omega arith;
    place_is = get_is;
  }

  -- The least get stays.
  blocked_stays : (n m : ℕ) (least : BodyGet) → ((other : BodyGet) → get_or gets m None ≡ Some other → other.class ≡ least.class → least.limit ≤ other.limit) → IsBlocked row passes gets n m least → IsBlocked row passes gets n (suc m) least
  blocked_stays n m least not_less so = record {
    reached = so.reached;
    from = so.from;
    stop = so.stop;
    first = so.first;
    after = so.after;
    within = let lt = so.within in omega (arith, lt);
    free = so.free;
    stops = so.stops;
    first_is = so.first_is;
    same_class = so.same_class;
    least = λ index other above lt other_is same. elim (below_or_at index m lt) [
      | inl less ↦ so.least index other above less other_is same
      | inr at ↦ not_less other (ap (λ i. get_or gets i None) (sym at) ∙ other_is) same
    ];
    place = so.place;
    place_after = so.place_after;
    place_within = let lt = so.place_within in omega (arith, lt);
    place_is = so.place_is;
  }

  -- A get of the same class that leaves fewer jobs open takes its place.
  blocked_less : (n m : ℕ) (least get : BodyGet) → get_or gets m None ≡ Some get → get.class ≡ least.class → get.limit < least.limit → IsBlocked row passes gets n m least → IsBlocked row passes gets n (suc m) get
  blocked_less n m least get get_is same_class less_limit so = record {
    reached = so.reached;
    from = so.from;
    stop = so.stop;
    first = so.first;
    after = so.after;
    within = let lt = so.within in omega (arith, lt);
    free = so.free;
    stops = so.stops;
    first_is = so.first_is;
    same_class = so.same_class ∙ sym same_class;
    least = λ index other above lt other_is same. elim (below_or_at index m lt) [
      | inl less ↦ let h = so.least index other above less other_is (same ∙ same_class) in omega (arith, h, less_limit)
      | inr at ↦
          let is : get ≡ other = same_Some get other (sym get_is ∙ (ap (λ i. get_or gets i None) (sym at) ∙ other_is)) in
          subst (λ (g : BodyGet). get.limit ≤ g.limit) is (omega arith)
    ];
    place = m;
    place_after = let lt = so.within in omega (arith, lt);
    place_within = omega arith;
    place_is = get_is;
  }

  blocked_if : (b : Bool) (n m : ℕ) (least get : BodyGet) → (eqb get.class least.class && ltb get.limit least.limit) ≡ b → get_or gets m None ≡ Some get → IsBlocked row passes gets n m least → IsBlocked row passes gets n (suc m) (cond b get least)
  blocked_if true n m least get e get_is so =
      let parts = and_parts (eqb get.class least.class) (ltb get.limit least.limit) e in
      blocked_less n m least get get_is (eqb-true get.class least.class parts.0) (ltb-true get.limit least.limit parts.1) so
  blocked_if false n m least get e get_is so =
      blocked_stays n m least
      (λ other other_is same.
      let is : get ≡ other = same_Some get other (sym get_is ∙ other_is) in
      subst (λ (g : BodyGet). least.limit ≤ g.limit) is
      (elim (and_cases (eqb get.class least.class) (ltb get.limit least.limit) e) [
        | inl ne ↦ absurd (eqb-false get.class least.class ne (ap (λ (g : BodyGet). g.class) is ∙ same))
        | inr not_less ↦ let h = ltb-false get.limit least.limit not_less in omega (arith, h)
      ]))
      so

  blocked_next : (n m : ℕ) (least : BodyGet) (get : Option BodyGet) → get_or gets m None ≡ get → IsBlocked row passes gets n m least → IsBlocked row passes gets n (suc m) (least_get least get)
  blocked_next n m least None get_is so = blocked_stays n m least (λ other other_is same. absurd (none-some other (sym get_is ∙ other_is))) so
  blocked_next n m least (Some get) get_is so = blocked_if (eqb get.class least.class && ltb get.limit least.limit) n m least get refl get_is so

  free_next : (n m : ℕ) (pass : Bool) (get : Option BodyGet) → n ≡ suc m → get_or passes m false ≡ pass → get_or gets m None ≡ get → IsFree row passes gets n m → IsWay n (suc m) (free_after pass get)
  free_next n m pass None next pass_is get_is so = way_free n m pass None pass_is get_is refl so
  free_next n m true (Some get) next pass_is get_is so = way_free n m true (Some get) pass_is get_is refl so
  free_next n m false (Some get) next pass_is get_is so = way_stops n m get next pass_is get_is so

  pub way_next : (n : ℕ) (here : Way) (pass : Bool) (get : Option BodyGet) → get_or passes n false ≡ pass → get_or gets n None ≡ get → IsWay (suc n) n here → IsWay (suc n) (suc n) (way_after here pass get)
  way_next n way.Unreached pass get pass_is get_is so = so
  way_next n way.Free pass get pass_is get_is so = free_next (suc n) n pass get refl pass_is get_is so
  way_next n (way.Blocked least) pass get pass_is get_is so = blocked_next (suc n) n least get get_is so

  -- ---- the get
  pub blocks : (end : ℕ) (here : Way) → IsWay (suc end) end here → IsBlocking row passes gets end (get_on here)
  blocks end way.Unreached so = λ index within at. absurd (false≢true (sym (so index (omega (arith, within))) ∙ at))
  blocks end way.Free so = λ index within at. so
  blocks end (way.Blocked get) so = so
