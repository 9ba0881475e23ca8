-- A transcript as it is printed: each line after the name of its user and the number of its connection.
use Rattle.std.specs.Prelude.{◌≡◌, ℕ, List, [], ◌∷◌, ◌++◌, take, slice_get, Option}
use Rattle.std.specs.Option.{option_map_or}
use Rattle.std.specs.Fmt.{decimal}
use Rattle.std.specs.List.{flat_map}
use Rattle.std.specs.Io.KnownBytes.{Appends}
use Rattle.bstr.specs.Text.{lines_of}
use Rattle.lj_access.specs.UserLists.{user_names}
use Rattle.lj_access.specs.declared.user.User.{User}
use Rattle.lj_world.specs.declared.event.Event.{Event}
use Rattle.lj_world.specs.declared.transcript.Entry.{Entry}
use Rattle.lj_world.specs.Runs.{IsTranscript}
use Rattle.lj_world.specs.RunLaws.{AgreesWithEveryRun}

-- the prefix of each line: the name of the user and the number of the connection, a blank after each
abbrev pub head : List ℕ → ℕ → List ℕ
head name connection = name ++ 32 ∷ (decimal connection ++ 32 ∷ [])

-- these lines, each after this prefix
abbrev pub headed : List ℕ → List (List ℕ) → List ℕ
headed before lines = flat_map (λ line. before ++ line) lines

-- a reply to a user of this name, each line after its prefix
abbrev pub printed_entry : List ℕ → Entry → List ℕ
printed_entry name entry = headed (head name entry.connection) (lines_of entry.text)

-- the same with the name found in the list of all names; nothing for a user who is not in it
abbrev pub printed_among : List (List ℕ) → Entry → List ℕ
printed_among names entry = option_map_or (λ name. printed_entry name entry) (slice_get names entry.user) []

-- all replies in order
abbrev pub printed : List (List ℕ) → List Entry → List ℕ
printed names entries = flat_map (printed_among names) entries

-- These bytes are the printed transcript of a run from some users over some events, and the headline holds for this run against
-- every other.
pub record IsPrintedRun (bytes : List ℕ) : Type 0 where
  pub users : List User
  pub events : List Event
  pub entries : List Entry
  pub is_run : IsTranscript users events entries
  pub headline : AgreesWithEveryRun users events entries
  pub printed_so : bytes ≡ printed (user_names users) entries

-- what was written is a printed run
abbrev pub WritesRun : Option (List ℕ) → Option (List ℕ) → Type 0
WritesRun was is = (bytes : List ℕ) × IsPrintedRun bytes × Appends was is bytes

-- what was written is a front of a printed run
abbrev pub BeginsRun : Option (List ℕ) → Option (List ℕ) → Type 0
BeginsRun was is = (bytes : List ℕ) × (n : ℕ) × IsPrintedRun bytes × Appends was is (take n bytes)
