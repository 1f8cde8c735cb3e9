use Rattle.std.specs.Str.{bytes_eq}
use Rattle.plan_text.proofs.NamePlaces.{place_or_len}
use Rattle.plan_text.proofs.bodies.place_or_len.Goals as goal

pub returns : goal.returns
returns c =
    rw (c.unwrap_or.ensures, c.place.ensures, c.len.ensures) (place_or_len (bytes_eq c.args.name.now) c.args.names.now)
