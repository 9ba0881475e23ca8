-- A stream that is being served, between two items.
use Rattle.std.specs.Prelude.{◌≡◌, ◌+◌, ◌-◌, ℕ, Bool, List, [], length, Option}
use Rattle.std.specs.List.{concat}
use Rattle.std.specs.Io.KnownBytes.{Consumes, Appends}
use Rattle.lj_session.specs.declared.reply.Reply.{Reply}
use Rattle.lj_session.specs.Users.{User}
use Rattle.lj_session.specs.UserState.{UserState, user_of}
use Rattle.lj_wire.specs.declared.item.Item.{Item}
use Rattle.lj_wire.specs.declared.reader.phase.Phase.TheVariants.{Open}
use Rattle.lj_wire.specs.LineReader.{LineReader}
use Rattle.lj_wire.specs.Streams.{AreMarks}
use Rattle.lj_wire.specs.Progress.{TakesItems}
use Rattle.lj_wire.specs.Told.{item_reply, texts, last_user}
use Rattle.lj_end.specs.Seen.{Seen}
use Rattle.lj_engine.specs.Counting.{tiles, tiles_pending, CountsRise, HandedWithin}
use Rattle.lj_engine.specs.Coming.{state_tiles_coming}
use Rattle.lj_engine.specs.PendingBounds.{HasPendingAfterAll}

-- an item gets this reply, which leaves the next user, under some mark
abbrev pub AnswersItem : User → Item → Reply → User → Type 0
AnswersItem user item reply next = (mark : Bool) × (item_reply user item mark ≡ (reply, next))

-- The items handed out so far are answered, and the bytes read are theirs.
pub record Serving (start : UserState) (first now : LineReader) (was is : Option (List ℕ)) (old new : Seen)
    (state : UserState) : Type 0 where
  pub read : List ℕ
  pub written : List ℕ
  pub items : List Item
  pub marks : List Bool
  -- These bytes were read of those left, and these appended to the contents.
  pub taken : Consumes first.left now.left read
  pub appends : Appends was is written
  -- The bytes read are those of the items, as many as the reader has handed out.
  pub takes : TakesItems 0 read items []
  pub items_are : length items ≡ now.items
  -- The bytes written are the replies to the items, under these marks, and the user is that after them.
  pub are_marks : AreMarks marks (texts (user_of start) items marks)
  pub written_is : written ≡ concat (texts (user_of start) items marks)
  pub next_is : user_of state ≡ last_user (user_of start) items marks
  -- At least as many results were counted as tiles are no more to come, and at most as many that were owed were handed out.
  pub counted : CountsRise
      (tiles (user_of start) items marks + tiles_pending start - state_tiles_coming state) old new
  pub handed : HandedWithin (tiles (user_of start) items marks + tiles_pending start) (state_tiles_coming state) old new
  -- No session has more pending steps than its bound after the items.
  pub pending : HasPendingAfterAll start items marks state
  -- The reader goes on, and no read has failed.
  pub phase : now.phase ≡ Open
  pub errors : now.errors ≡ first.errors
