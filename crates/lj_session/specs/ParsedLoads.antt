-- The frames with which a load opens a session, and that session in the code.
use Rattle.std.specs.Prelude.{List, [], ◌∷◌, map, Option, Some, None}
use Rattle.lj_xyz.specs.declared.atom_row.AtomRow.{AtomRow}
use Rattle.lj_ring.specs.Mix.{Mix, edge_of}
use Rattle.lj_xyz.specs.Symbols.{SymbolPair}
use Rattle.lj_step.specs.Motion.{opening}
use Rattle.lj_session.specs.Loads.{places_in}
use Rattle.lj_session.specs.UserState.{LiveSession}
use Rattle.lj_session.specs.Interactions.{composition_of}

-- the frames that were read: one, or two
abbrev pub frames_of : List AtomRow → Option (List AtomRow) → List (List AtomRow)
frames_of first None = first ∷ []
frames_of first (Some second) = first ∷ second ∷ []

-- the last of the frames that were read
abbrev pub last_of : List AtomRow → Option (List AtomRow) → List AtomRow
last_of first None = first
last_of first (Some second) = second

-- the session that opens with two frames, under the symbols of the first
abbrev pub held_from : Mix → Option SymbolPair → List AtomRow → List AtomRow → LiveSession
held_from mix symbols first last = record {
  symbols = map (λ row. row.symbol) first;
  live = record {
    composition = composition_of mix symbols first;
    sim = opening (places_in (edge_of mix) first) (places_in (edge_of mix) last);
    part = None;
  };
  passed = 0;
  saved = [];
  pending = 0;
}
