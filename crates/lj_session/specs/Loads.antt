-- LOAD and LOADMIX: their refusals, and the session that they load.
use Rattle.std.specs.Prelude.{ℕ, ◌+◌, Bool, true, false, not, nat_le, nat_lt, is_some, List, [], ◌∷◌, map}
use Rattle.std.specs.Prelude.{Option, Result, Ok, Err}
use Rattle.lj_ring.specs.declared.coordinates.Place.{Place}
use Rattle.lj_ring.specs.Places.{place_of}
use Rattle.lj_ring.specs.Mix.{Mix, edge_of}
use Rattle.lj_step.specs.Motion.{opening}
use Rattle.lj_xyz.specs.declared.xyz_fault.XyzFault.{XyzFault}
use Rattle.lj_xyz.specs.declared.atom_row.AtomRow.{AtomRow}
use Rattle.lj_xyz.specs.Atoms.{◌>>=◌}
use Rattle.lj_xyz.specs.Lines.{lines_of}
use Rattle.lj_xyz.specs.Bodies as frames
use Rattle.lj_xyz.specs.Reading.{reading}
use Rattle.lj_xyz.specs.Symbols.{SymbolPair}
use Rattle.lj_session.specs.declared.body.LoadBody.{LoadBody}
use Rattle.lj_session.specs.declared.body.LoadBody.TheVariants.{Unread, Lost, Read}
use Rattle.lj_session.specs.declared.command.Load.{Load}
use Rattle.lj_session.specs.declared.command.Mode.{Mode}
use Rattle.lj_session.specs.declared.command.Mode.TheVariants.{Rest, Pair}
use Rattle.lj_session.specs.declared.refusal.Refusal.{Refusal}
use Rattle.lj_session.specs.declared.refusal.Refusal.TheVariants.{Exists, QuotaSessions, QuotaAtoms, Xyz, Memory}
use Rattle.lj_branch.specs.Named.{value_named}
use Rattle.lj_session.specs.Interactions.{composition_of, mix_of_interactions, nano_or_zero, symbols_of}
use Rattle.lj_session.specs.Users.{Session, User, atoms_of, atoms_used, sessions_used}

-- a refusal unless a test holds
abbrev pub refusal_unless : Bool → Refusal → Result (Unit {0}) Refusal
refusal_unless true refusal = Ok tt
refusal_unless false refusal = Err refusal

-- the mixture of a load, or the first refusal before the body
abbrev pub admission : User → Load → Result Mix Refusal
admission user load = do
  new ← refusal_unless (not (is_some (value_named load.name user.sessions))) Exists
  room ← refusal_unless (nat_lt (sessions_used user) user.quota.sessions) QuotaSessions
  mix_of_interactions (nano_or_zero load.edge) load.interactions

-- the body, if it was read and there was memory for the load
abbrev pub body_or_refusal : LoadBody → Bool → Result (List ℕ) Refusal
body_or_refusal (Read body) false = Ok body
body_or_refusal (Read body) true = Err Memory
body_or_refusal Lost mark = Err Memory
body_or_refusal Unread mark = Err Memory

-- the places of atoms in a box
abbrev pub place_in : ℕ → AtomRow → Place
place_in edge row = record { x = place_of edge row.x; y = place_of edge row.y; z = place_of edge row.z }

-- the frame of a list of atoms
abbrev pub places_in : ℕ → List AtomRow → List Place
places_in edge rows = map (place_in edge) rows

-- the session that opens with two frames, under the symbols of the first, which determine the species if two are given
abbrev pub session_from : Mix → Option SymbolPair → List AtomRow → List AtomRow → Session
session_from mix symbols first second = record {
  symbols = map (λ row. row.symbol) first;
  composition = composition_of mix symbols first;
  sim = opening (places_in (edge_of mix) first) (places_in (edge_of mix) second);
  saved = [];
}

-- a single frame is used twice, so that the atoms are at rest
abbrev pub session_of_frames : Mix → Option SymbolPair → List (List AtomRow) → Session
session_of_frames mix symbols [] = session_from mix symbols [] []
session_of_frames mix symbols (only ∷ []) = session_from mix symbols only only
session_of_frames mix symbols (first ∷ second ∷ others) = session_from mix symbols first second

-- frames, or the fault of a body as a refusal
abbrev pub frames_or_refusal : Result (List (List AtomRow)) XyzFault → Result (List (List AtomRow)) Refusal
frames_or_refusal (Ok frames) = Ok frames
frames_or_refusal (Err fault) = Err (Xyz fault)

-- the frames that a mode reads: the first, or the first two
abbrev pub reading_mode : Mode → frames.Mode
reading_mode Rest = frames.rest
reading_mode Pair = frames.pair

-- the session, if its atoms and those that the user has fit the quota
abbrev pub session_within_quota : User → Session → Result Session Refusal
session_within_quota user session = do
  room ← refusal_unless (nat_le (atoms_used user + atoms_of session) user.quota.atoms) QuotaAtoms
  Ok session

-- the session of a body, or the first refusal of the body
abbrev pub session_read : User → Mix → Load → List ℕ → Result Session Refusal
session_read user mix load body = do
  frames ← frames_or_refusal (reading (symbols_of load.interactions) (reading_mode load.mode) (lines_of body))
  session_within_quota user (session_of_frames mix (symbols_of load.interactions) frames)
