-- What a connection answers to its user, behind what the user was answered before.
use Rattle.std.specs.Prelude.{◌≡◌, ℕ, ◌+◌, ◌≤◌, Bool, true, List, [], ◌∷◌, ◌++◌, length, take, drop}
use Rattle.std.specs.List.{concat}
use Rattle.lj_quota.specs.declared.Quota.{Quota}
use Rattle.lj_session.specs.UserState.{UserState, user_of}
use Rattle.lj_wire.specs.declared.item.Item.{Item}
use Rattle.lj_wire.specs.Items.{is_ending}
use Rattle.lj_wire.specs.Streams.{IsItem, Splits, AreMarks}
use Rattle.lj_wire.specs.Told.{alone}
use Rattle.lj_engine.specs.declared.served.Served.{Served}
use Rattle.lj_engine.specs.declared.served.Served.TheVariants.{WriteFault, PoolClosed, TooManyStrays}

-- the bytes begin with these items, numbered from n on; none but the last one ends the connection
abbrev pub BeginsWith : ℕ → List ℕ → List Item → Type 0
BeginsWith n bytes [] = Unit {0}
BeginsWith n bytes (item ∷ items) =
    (front : List ℕ) × (behind : List ℕ) × (bytes ≡ front ++ behind) × IsItem n front item
    × (is_ending item ≡ true → items ≡ []) × BeginsWith (n + 1) behind items

-- What is written ends within the last of these texts, and has all the others.
pub record IsCutShort (replies : List (List ℕ)) (written : List ℕ) : Type 0 where
  pub others : List (List ℕ)
  pub last : List ℕ
  pub bytes : ℕ
  pub texts : replies ≡ others ++ last ∷ []
  pub within : bytes ≤ length last
  pub written_is : written ≡ concat others ++ take bytes last

-- how much of the replies is written, by how serving ends: all, but after a write that failed
abbrev pub IsSent : Served → List (List ℕ) → List ℕ → Type 0
IsSent WriteFault replies written = IsCutShort replies written
IsSent served replies written = written ≡ concat replies

-- How many of the items read are answered, by how serving ends: all, but after a write that failed, or where the pool was given up.
abbrev pub AreAnswered : Served → List ℕ → List Item → Type 0
AreAnswered WriteFault read items = BeginsWith 0 read items
AreAnswered PoolClosed read items = BeginsWith 0 read items
AreAnswered TooManyStrays read items = BeginsWith 0 read items
AreAnswered served read items = (rest : List ℕ) × Splits 0 read items rest

-- the replies to these items, behind earlier ones, all folded alone from the state without sessions
abbrev pub replies_behind : Quota → List Item → List Bool → List Item → List Bool → List (List ℕ)
replies_behind quota earlier earlier_marks items marks =
    drop (length earlier) (alone quota (earlier ++ items) (earlier_marks ++ marks)).0

-- What was written is the replies to the items read, behind items that lead to the state that was lent.
pub record AnswersBehind (state : UserState) (served : Served) (read written : List ℕ) : Type 0 where
  -- what the user was answered before
  pub earlier : List Item
  pub earlier_marks : List Bool
  pub one_each : length earlier_marks ≡ length earlier
  pub leads : user_of state ≡ (alone state.quota earlier earlier_marks).1
  -- what was read and answered
  pub items : List Item
  pub marks : List Bool
  pub answered : AreAnswered served read items
  -- A mark is set only where the reply says that memory ran out.
  pub are_marks : AreMarks marks (replies_behind state.quota earlier earlier_marks items marks)
  pub sent : IsSent served (replies_behind state.quota earlier earlier_marks items marks) written
