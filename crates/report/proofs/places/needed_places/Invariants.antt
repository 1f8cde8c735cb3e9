-- The list has the places of the pools before this one.
use Rattle.std.proofs.Common.{◌≡◌, ◌++◌}
use Rattle.report.specs.Places.{places_in}
use Rattle.report.proofs.ShareSums.{rest_given}
use Rattle.report.proofs.places.needed_places.Given as goal

abbrev pub invariant-loop-number : goal.invariant-loop-number
invariant-loop-number l = l.needed.items ++ rest_given (places_in l.plan) l.cert.pools l.number ≡ rest_given (places_in l.plan) l.cert.pools 0
