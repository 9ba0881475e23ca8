-- An unfinished dialogue: the first items of a stream are answered, and the rest is still to come.
use Rattle.std.specs.Prelude.{◌≡◌, ℕ, ◌+◌, Bool, false, List, [], ◌∷◌, ◌++◌, length}
use Rattle.std.specs.List.{concat}
use Rattle.lj_session.specs.Users.{User}
use Rattle.lj_wire.specs.declared.item.Item.{Item}
use Rattle.lj_wire.specs.Items.{is_ending}
use Rattle.lj_wire.specs.Told.{texts, last_user}
use Rattle.lj_wire.specs.Streams.{IsItem, AreMarks}

-- The bytes begin with these items, numbered from n on, and none of them ends the connection; `left` follows.
abbrev pub TakesItems : ℕ → List ℕ → List Item → List ℕ → Type 0
TakesItems n bytes [] left = bytes ≡ left
TakesItems n bytes (item ∷ items) left =
    (front : List ℕ) × (behind : List ℕ) × (bytes ≡ front ++ behind) × IsItem n front item
    × (is_ending item ≡ false) × TakesItems (n + 1) behind items left

-- The first `count` items of the bytes, sent by `user`, are answered with `written`; the bytes `left` remain, and the user is
-- then `next`.
pub record Progress (user : User) (bytes : List ℕ) (count : ℕ) (written left : List ℕ) (next : User) : Type 0 where
  pub items : List Item
  pub marks : List Bool
  pub takes : TakesItems 0 bytes items left
  pub counted : length items ≡ count
  pub are_marks : AreMarks marks (texts user items marks)
  pub written_is : written ≡ concat (texts user items marks)
  pub next_is : next ≡ last_user user items marks
