-- States of keys.
use Rattle.std.specs.Prelude.{◌≡◌, ◌≢◌, ◌⊎◌, ℕ, ◌≤◌, ◌<◌, ◌+◌, ◌/◌, ◌%◌, List, [], length, slice_index_or}
use Rattle.std.specs.Int.{bit_at}
use Rattle.lj_book.specs.declared.key_states.KeyState.{KeyState}
use Rattle.lj_book.specs.declared.key_states.KeyState.TheVariants.{Vacant, ToTake, Taken, ToFetch}
use Rattle.lj_book.specs.declared.key_states.TheConstants.{GROUP}

-- the state of a key
abbrev pub key_state_at : List KeyState → ℕ → KeyState
key_state_at key_states key = slice_index_or key_states key Vacant

-- the key is one of the list and has this state
pub record HasKeyState (key_states : List KeyState) (key_state : KeyState) (key : ℕ) : Type 0 where
  pub within : key < length key_states
  pub is : key_state_at key_states key ≡ key_state

-- no key in from..to has this state
abbrev pub HasNone : List KeyState → KeyState → ℕ → ℕ → Type 0
HasNone key_states key_state from to = (k : ℕ) → from ≤ k → k < to → ¬ HasKeyState key_states key_state k

-- the key is the least in from..to that has this state
pub record IsLeast (key_states : List KeyState) (key_state : KeyState) (from to key : ℕ) : Type 0 where
  pub has : HasKeyState key_states key_state key
  pub first : from ≤ key
  pub last : key < to
  pub none_before : HasNone key_states key_state from key

-- a number that is different for each state
abbrev pub state_number : KeyState → ℕ
state_number Vacant = 0
state_number ToTake = 1
state_number Taken = 2
state_number (ToFetch user) = 3 + user

-- the bit of a place in the mask of a kind
abbrev pub bit_of : List ℕ → ℕ → ℕ → ℕ
bit_of masks kind at = bit_at (slice_index_or masks kind 0) at

-- the bit of a key in the mask of a kind, in the masks of its group
abbrev pub bit_of_key : List (List ℕ) → ℕ → ℕ → ℕ
bit_of_key groups kind key = bit_of (slice_index_or groups (key / GROUP) []) kind (key % GROUP)

-- the mask has no bit in from..to
abbrev pub HasNoBit : ℕ → ℕ → ℕ → Type 0
HasNoBit mask from to = (i : ℕ) → from ≤ i → i < to → bit_at mask i ≡ 0

-- the mask has a bit at this place, and none in from..at
pub record IsLowestBit (mask from at : ℕ) : Type 0 where
  pub is : bit_at mask at ≡ 1
  pub first : from ≤ at
  pub within : at < GROUP
  pub none_before : HasNoBit mask from at

-- this bit is in the mask of the kind at the place, and all other bits are as before
pub record ChangesBit (bit kind at : ℕ) (old new : List ℕ) : Type 0 where
  pub is : bit_of new kind at ≡ bit
  pub others : (k i : ℕ) → (k ≢ kind) ⊎ (i ≢ at) → i < GROUP → bit_of new k i ≡ bit_of old k i

-- There are as many groups as the keys need, and the mask of a kind, unless it is that of vacant keys, has the keys whose states are
-- of this kind.
pub record IsIndexed (key_states : List KeyState) (groups : List (List ℕ)) : Type 0 where
  pub enough : length groups ≡ length key_states / GROUP + 1
  pub all : (k : ℕ) → state_number (key_state_at key_states k) ≢ 0 → bit_of_key groups (state_number (key_state_at key_states k)) k ≡ 1
  pub only : (k kind : ℕ) → kind ≢ 0 → bit_of_key groups kind k ≡ 1 → state_number (key_state_at key_states k) ≡ kind
