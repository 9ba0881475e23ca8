-- Parts of the lines of replies.
use Rattle.std.specs.Prelude.{ℕ, Bool, true, false, List, ◌∷◌, Option, None}
use Rattle.std.specs.List.{position}
use Rattle.std.specs.Str.{bytes_eq}
use Rattle.lj_session.specs.UserState.{UserState, loaded_names}
use Rattle.lj_session.specs.declared.reply.Reply.{Reply}
use Rattle.lj_session.specs.declared.reply.Reply.TheVariants.{Dumped, Listed, ListedBranches}

-- a blank, and a word
abbrev pub blank_and : List ℕ → List ℕ
blank_and word = 32 ∷ word

-- the reply is one line; those to DUMP and to both forms of LIST have more
abbrev pub is_one_line : Reply → Bool
is_one_line (Dumped name) = false
is_one_line Listed = false
is_one_line (ListedBranches name) = false
is_one_line _ = true

-- the index of the session that a reply lists: its atoms for DUMP, its branches for LIST of a session
abbrev pub listed_session : UserState → Reply → Option ℕ
listed_session state (Dumped name) = position (bytes_eq name) (loaded_names state)
listed_session state (ListedBranches name) = position (bytes_eq name) (loaded_names state)
listed_session state _ = None
