use Rattle.std.proofs.Common.{◌≡◌, take}
use Rattle.lj_session.specs.Loads.{places_in}
use Rattle.lj_session.proofs.parsed_load.places_of.Given as goal

abbrev pub invariant-loop-row : goal.invariant-loop-row
invariant-loop-row l = l.places.items ≡ places_in l.edge (take l.row-index l.rows)
