-- Lists of pairs of places, one of each block of a task, and the sums of their pushes.
use Rattle.std.specs.Prelude.{ℕ, zero, suc, ◌+◌, ◌*◌, ◌/◌, ◌%◌, ◌^◌, ◌==◌, ◌≡◌, ◌<◌, ◌≤◌, List, [], ◌∷◌, ◌++◌, map, length}
use Rattle.std.specs.Prelude.{slice_index_or, if◌then◌else◌}
use Rattle.lj_ring.specs.Scale.{Scale}
use Rattle.lj_ring.specs.Ring.{IsOnRing}
use Rattle.lj_task.specs.declared.blocks.TheConstants.{BLOCK}
use Rattle.lj_tile.specs.declared.near.Columns.{Columns}
use Rattle.lj_tile.specs.declared.near_pairs.TheConstants.{FULL}
use Rattle.lj_tile.specs.declared.pair_sums.PairSide.{PairSide}
use Rattle.lj_tile.specs.declared.pair_sums.PairSide.TheVariants.{First, Second}
use Rattle.lj_task.specs.declared.pushes.Push.{Push}
use Rattle.lj_task.specs.Pushes.{no_push, sum_of_pushes, push}
use Rattle.lj_ring.specs.Mix.{can_interact}
use Rattle.lj_tile.specs.Near.{HasColumns}
use Rattle.lj_task.specs.Species.{is_in}
use Rattle.lj_task.specs.Task.{Task}
use Rattle.lj_task.specs.Tiles.{place_at}
use Rattle.lj_ring.specs.declared.coordinates.Place.{Place}
use Rattle.lj_task.specs.declared.force_sums.ForceSums.{ForceSums}

-- the members of a set that are below n, in order
unfoldable pub members : ℕ → ℕ → List ℕ
members set zero = []
members set (suc n) = if is_in set n then members set n ++ n ∷ [] else members set n

-- the pairs of a place of the first block with a set of places of the second
unfoldable pub row_pairs : ℕ → ℕ → List ℕ
row_pairs t set = map (λ s. BLOCK * t + s) (members set BLOCK)

-- the place of a pair in the first block
abbrev pub first_of : ℕ → ℕ
first_of pair = pair / BLOCK

-- the place of a pair in the second block
abbrev pub second_of : ℕ → ℕ
second_of pair = pair % BLOCK

-- the place of a pair in one of the two blocks
abbrev pub place_on : PairSide → ℕ → ℕ
place_on First pair = first_of pair
place_on Second pair = second_of pair

-- each pair has a place of the first block and one of the second
pub record ArePairs (a b : List Place) (pairs : List ℕ) : Type 0 where
  pub first : (i : ℕ) → i < length pairs → first_of (slice_index_or pairs i 0) < length a
  pub second : (i : ℕ) → i < length pairs → second_of (slice_index_or pairs i 0) < length b

-- pairs that are fewer than a full list has
pub record AreFewPairs (a b : List Place) (pairs : List ℕ) : Type 0 where
  pub few : length pairs < FULL
  pub within : ArePairs a b pairs

-- the push that a pair of one class adds to the sum of place t of the first block
abbrev pub push_on_first : Scale → (a b : List Place) → ℕ → ℕ → Push
push_on_first u a b t pair =
    if first_of pair == t then push u (place_at a (first_of pair)) (place_at b (second_of pair)) else no_push

-- the push that a pair of one class adds to the sum of place s of the second block
abbrev pub push_on_second : Scale → (a b : List Place) → ℕ → ℕ → Push
push_on_second u a b s pair =
    if second_of pair == s then push u (place_at b (second_of pair)) (place_at a (first_of pair)) else no_push

-- the sum of the pushes of the pairs of a list
unfoldable pub sum_of_pairs : (ℕ → Push) → List ℕ → Push
sum_of_pairs f [] = no_push
sum_of_pairs f (pair ∷ pairs) = sum_of_pushes (f pair) (sum_of_pairs f pairs)

-- the new sum is the old one plus the pushes of the pairs of a list
abbrev pub IsMore : (ℕ → Push) → List ℕ → (old new : Push) → Type 0
IsMore f pairs old new = sum_of_pushes new no_push ≡ sum_of_pushes old (sum_of_pairs f pairs)

-- the new sums of both blocks' places are the old ones plus the pushes of the pairs of a list, of one class
pub record HavePushes (u : Scale) (a b : List Place) (pairs : List ℕ) (old new : ForceSums) : Type 0 where
  pub first : (t : ℕ) → t < BLOCK
      → IsMore (push_on_first u a b t) pairs (slice_index_or old.first t no_push) (slice_index_or new.first t no_push)
  pub second : (s : ℕ) → s < BLOCK
      → IsMore (push_on_second u a b s) pairs (slice_index_or old.second s no_push) (slice_index_or new.second s no_push)
  pub firsts : length new.first ≡ length old.first
  pub seconds : length new.second ≡ length old.second

-- each place of a list lies on the ring
abbrev pub AreOnRing : List Place → Type 0
AreOnRing places = (k : ℕ) → k < length places → IsOnRing (place_at places k)

-- the places of two blocks lie on the ring, and the first block has no more than fit
pub record AreOfBlocks (a b : List Place) : Type 0 where
  pub first : AreOnRing a
  pub second : AreOnRing b
  pub most : length a ≤ BLOCK

-- the columns of the second block of a task, both of whose blocks' places lie on the ring
pub record AreColumnsOf (w : Task) (columns : Columns) : Type 0 where
  pub of_places : HasColumns (can_interact w.mix) columns w.b.places
  pub first : AreOnRing w.a.places
  pub second : AreOnRing w.b.places

-- a push whose three parts lie on the ring
pub record IsPushOnRing (p : Push) : Type 0 where
  pub x : p.x < 2 ^ 32
  pub y : p.y < 2 ^ 32
  pub z : p.z < 2 ^ 32
