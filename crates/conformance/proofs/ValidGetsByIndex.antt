-- Lemmas about the validity of each get of a body, by index.
use Rattle.std.proofs.Common.{◌≡◌, ◌<◌, ℕ, true, List, length, refl, sym, ap, ◌∙◌}
use Rattle.std.specs.Prelude.{Option, None, Some, slice_get}
use Rattle.std.proofs.lemmas.Option.{slice_get_within}
use Rattle.job_bodies.specs.declared.action.Action.{Action}
use Rattle.job_bodies.specs.declared.action.Action.TheVariants.{Work, Submit, Get}
use Rattle.conformance.specs.ValidGets.{HasValidGets, is_valid_at}

pub lawful_gets : (body : List Action) → ((position : ℕ) → position < length body → is_valid_at body position (slice_get body position) ≡ true) → HasValidGets body
lawful_gets body each = λ position submit e. sym (ap (is_valid_at body position) e) ∙ each position (slice_get_within body position (Get submit) e)

lawful_there : (body : List Action) (position : ℕ) (o : Option Action) → HasValidGets body → slice_get body position ≡ o → is_valid_at body position o ≡ true
lawful_there body position None valid_gets e = refl
lawful_there body position (Some (Work units)) valid_gets e = refl
lawful_there body position (Some (Submit class)) valid_gets e = refl
lawful_there body position (Some (Get submit)) valid_gets e = valid_gets position submit e

pub lawful_at : (body : List Action) (position : ℕ) → HasValidGets body → is_valid_at body position (slice_get body position) ≡ true
lawful_at body position valid_gets = lawful_there body position (slice_get body position) valid_gets refl
