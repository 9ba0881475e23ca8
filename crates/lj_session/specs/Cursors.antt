-- Cursors at the next task of a user, and its session's tasks that are still to be posted.
use Rattle.std.specs.Prelude.{◌≡◌, ℕ, List, Some, slice_get}
use Rattle.lj_session.specs.declared.tile_cursor.TileCursor.{TileCursor}
use Rattle.lj_session.specs.UserState.{LiveSession, IsNextTile, NoTaskBefore, live_session, live_session_at, loaded_names}
use Rattle.lj_session.specs.UserState.{with_passed, with_session_changed}
use Rattle.lj_session.specs.Owner.{Owner, label_of, with_state}

-- The cursor stands at the next tile of the owner, in the session of that tile, whose label it has.
pub record IsAtFirst (cursor : TileCursor) (owner : Owner) : Type 0 where
  pub tile : ℕ
  pub next : IsNextTile owner.state cursor.session tile
  pub label : cursor.label ≡ label_of owner next.name
  pub passed : next.session.passed ≡ cursor.passed

-- The later owner is this one once the tasks before a position are posted: the session of the cursor has passed their tiles, and
-- none of the sessions before it has a task. The cursor has the label of its session.
pub record IsPostedTo (cursor : TileCursor) (from : ℕ) (owner later : Owner) : Type 0 where
  pub name : List ℕ
  pub named : slice_get (loaded_names owner.state) cursor.session ≡ Some name
  pub label : cursor.label ≡ label_of owner name
  pub session : LiveSession
  pub at : live_session_at owner.state cursor.session ≡ Some session
  pub there : live_session later.state name ≡ Some (record session { passed = from })
  pub before : NoTaskBefore later.state cursor.session
  pub same_names : loaded_names later.state ≡ loaded_names owner.state
  pub number : later.number ≡ owner.number

-- the owner with the tiles of the cursor's session before a position noted as posted, and with nothing else changed
abbrev pub owner_posted_to : TileCursor → ℕ → Owner → Owner
owner_posted_to cursor to owner =
    with_state (with_session_changed cursor.label.session (with_passed to) owner.state) owner
