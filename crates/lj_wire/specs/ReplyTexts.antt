-- The text of a reply: its lines, each with its line feed.
use Rattle.std.specs.Prelude.{ℕ, ◌+◌, Bool, List, [], ◌∷◌, ◌++◌, length, map, Option, Some, None, codes}
use Rattle.std.specs.Fmt.{decimal, signed_decimal}
use Rattle.std.specs.List.{join_with_byte, concat}
use Rattle.std.specs.Str.{bytes_eq}
use Rattle.lj_ring.specs.Mix.{edge_of}
use Rattle.lj_ring.specs.declared.coordinates.Place.{Place}
use Rattle.lj_ring.specs.Places.{micro_of}
use Rattle.lj_step.specs.Motion.{Simulation}
use Rattle.lj_xyz.specs.FrameTexts.{count_text, comment_text, atom_text}
use Rattle.lj_session.specs.declared.refusal.Refusal.TheVariants.{Memory}
use Rattle.lj_session.specs.declared.reply.Reply.{Reply}
use Rattle.lj_session.specs.declared.reply.Reply.TheVariants.{Loaded, LoadedMix, Advanced, Started, Reversed, Branched}
use Rattle.lj_session.specs.declared.reply.Reply.TheVariants.{Restored, Forgotten}
use Rattle.lj_session.specs.declared.reply.Reply.TheVariants.{Tugged, Measured, Shown, Dumped, Listed, ListedBranches}
use Rattle.lj_session.specs.declared.reply.Reply.TheVariants.{Unloaded, Bye, Refused}
use Rattle.lj_session.specs.Refusals.{refusal_text}
use Rattle.lj_branch.specs.Named.{value_named}
use Rattle.lj_session.specs.Users.{Session, User, atoms_of}

-- a line with its line feed
abbrev pub ended_line : List ℕ → List ℕ
ended_line line = line ++ 10 ∷ []

-- a line of words with a blank between each two
abbrev pub line_of : List (List ℕ) → List ℕ
line_of words = ended_line (join_with_byte 32 words)

-- `OK` and these words
abbrev pub ok_line : List (List ℕ) → List ℕ
ok_line words = line_of (codes "OK" ∷ words)

-- the line of a session in a list: its name, its step, its number of atoms and its number of branches
abbrev pub session_line : List ℕ × Session → List ℕ
session_line entry =
    let session = entry.1 in
    line_of (entry.0 ∷ signed_decimal session.sim.step ∷ decimal (atoms_of session)
    ∷ decimal (length session.saved) ∷ [])

-- the line of a branch in a list: its name and its step
abbrev pub branch_line : List ℕ × Simulation → List ℕ
branch_line entry = line_of (entry.0 ∷ signed_decimal entry.1.step ∷ [])

-- the line of an atom, its place in millionths of a file unit
abbrev pub atom_line : ℕ → List ℕ → Place → List ℕ
atom_line edge symbol place =
    ended_line (atom_text symbol (micro_of edge place.x) (micro_of edge place.y) (micro_of edge place.z))

-- the lines of all atoms
abbrev pub atom_lines : ℕ → List (List ℕ) → List Place → List (List ℕ)
atom_lines edge (symbol ∷ symbols) (place ∷ places) = atom_line edge symbol place ∷ atom_lines edge symbols places
atom_lines edge (symbol ∷ symbols) [] = []
atom_lines edge [] places = []

-- the frame of a session: the number of its atoms, its step, and a line for each atom
abbrev pub frame_lines : Session → List (List ℕ)
frame_lines session =
    ended_line (count_text (atoms_of session)) ∷ ended_line (comment_text session.sim.step)
    ∷ atom_lines (edge_of session.composition.mix) session.symbols session.sim.cur

-- `OK DUMP`, and the frame
abbrev pub dump_lines : List ℕ → Option Session → List (List ℕ)
dump_lines name (Some session) =
    ok_line (codes "DUMP" ∷ name ∷ signed_decimal session.sim.step ∷ decimal (atoms_of session + 2) ∷ [])
    ∷ frame_lines session
dump_lines name None = []

-- `OK LIST`, and a line for each session
abbrev pub session_lines : User → List (List ℕ)
session_lines user = ok_line (codes "LIST" ∷ decimal (length user.sessions) ∷ []) ∷ map session_line user.sessions

-- `OK LIST`, and a line for each branch of the session
abbrev pub branch_lines : List ℕ → Option Session → List (List ℕ)
branch_lines name (Some session) =
    ok_line (codes "LIST" ∷ name ∷ decimal (length session.saved) ∷ []) ∷ map branch_line session.saved
branch_lines name None = []

-- the text of a reply, with the user after the command
unfoldable pub text : User → Reply → List ℕ
text user (Loaded name atoms) = ok_line (codes "LOAD" ∷ name ∷ codes "0" ∷ decimal atoms ∷ [])
text user (LoadedMix name atoms) = ok_line (codes "LOADMIX" ∷ name ∷ codes "0" ∷ decimal atoms ∷ [])
text user (Advanced name step) = ok_line (codes "ADVANCE" ∷ name ∷ signed_decimal step ∷ [])
text user (Started name step) = ok_line (codes "START" ∷ name ∷ signed_decimal step ∷ [])
text user (Reversed name step) = ok_line (codes "REVERSE" ∷ name ∷ signed_decimal step ∷ [])
text user (Branched name branch step) = ok_line (codes "BRANCH" ∷ name ∷ branch ∷ signed_decimal step ∷ [])
text user (Restored name branch step) = ok_line (codes "RESTORE" ∷ name ∷ branch ∷ signed_decimal step ∷ [])
text user (Forgotten name branch) = ok_line (codes "FORGET" ∷ name ∷ branch ∷ [])
text user (Tugged name atom step) = ok_line (codes "TUG" ∷ name ∷ decimal atom ∷ signed_decimal step ∷ [])
text user (Measured name step atoms momentum kinetic potential) =
    ok_line (codes "MEASURE" ∷ name ∷ signed_decimal step ∷ decimal atoms
    ∷ (map signed_decimal momentum ++ decimal kinetic ∷ signed_decimal potential ∷ []))
text user (Shown name step atom place) =
    ok_line (codes "SHOW" ∷ name ∷ signed_decimal step ∷ decimal atom ∷ decimal place.x
    ∷ decimal place.y ∷ decimal place.z ∷ [])
text user (Dumped name) = concat (dump_lines name (value_named name user.sessions))
text user Listed = concat (session_lines user)
text user (ListedBranches name) = concat (branch_lines name (value_named name user.sessions))
text user (Unloaded name) = ok_line (codes "DROP" ∷ name ∷ [])
text user Bye = ok_line (codes "BYE" ∷ [])
text user (Refused refusal) = ended_line (refusal_text refusal)

-- the lines of a reply: several for DUMP and LIST, one for any other
unfoldable pub reply_lines : User → Reply → List (List ℕ)
reply_lines user (Dumped name) = dump_lines name (value_named name user.sessions)
reply_lines user Listed = session_lines user
reply_lines user (ListedBranches name) = branch_lines name (value_named name user.sessions)
reply_lines user reply = text user reply ∷ []

-- the text of the memory refusal
abbrev pub memory_text : List ℕ
memory_text = ended_line (refusal_text Memory)

-- a text is the memory refusal
abbrev pub is_memory : List ℕ → Bool
is_memory text = bytes_eq text memory_text
