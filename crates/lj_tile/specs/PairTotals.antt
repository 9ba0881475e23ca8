-- Totals: the sums of a task's pushes, plus the pushes of pairs that are still to be added to them.
use Rattle.std.specs.Prelude.{ℕ, zero, suc, ◌==◌, ◌&&◌, nat_lt, ◌≡◌, ◌<◌, List, length, slice_index_or, if◌then◌else◌}
use Rattle.lj_ring.specs.Mix.{class_of}
use Rattle.lj_ring.specs.Scale.{Scale}
use Rattle.lj_ring.specs.declared.coordinates.Place.{Place}
use Rattle.lj_ring.specs.declared.mixes.Species.{Species}
use Rattle.lj_ring.specs.declared.mixes.Species.TheVariants.{First, Second}
use Rattle.lj_task.specs.Pushes.{no_push, sum_of_pushes}
use Rattle.lj_task.specs.Species.{is_in}
use Rattle.lj_task.specs.Task.{Task}
use Rattle.lj_task.specs.declared.blocks.TheConstants.{BLOCK}
use Rattle.lj_task.specs.declared.force_sums.ForceSums.{ForceSums}
use Rattle.lj_task.specs.declared.pushes.Push.{Push}
use Rattle.lj_tile.specs.Pairs.{push_on_first, push_on_second, sum_of_pairs, AreFewPairs}
use Rattle.lj_tile.specs.Rows.{sum_on_first, push_back}

-- a sum plus the pushes of the pairs of a list
abbrev pub total : (ℕ → Push) → List ℕ → Push → Push
total f pairs sum = sum_of_pushes sum (sum_of_pairs f pairs)

-- the sums of both blocks' places, and the pairs of one class that are still to be added to them
pub record SumsWithList : Type 0 where
  pub pairs : List ℕ
  pub sums : ForceSums

-- the totals of both blocks' places are as before, where each pair is of a class of scale u
pub record HaveTotals (u : Scale) (a b : List Place) (before after : SumsWithList) : Type 0 where
  pub first : (t : ℕ) → t < BLOCK
      → total (push_on_first u a b t) after.pairs (slice_index_or after.sums.first t no_push)
      ≡ total (push_on_first u a b t) before.pairs (slice_index_or before.sums.first t no_push)
  pub second : (s : ℕ) → s < BLOCK
      → total (push_on_second u a b s) after.pairs (slice_index_or after.sums.second s no_push)
      ≡ total (push_on_second u a b s) before.pairs (slice_index_or before.sums.second s no_push)
  pub firsts : length after.sums.first ≡ length before.sums.first
  pub seconds : length after.sums.second ≡ length before.sums.second

-- the sums of both blocks' places, and the pairs that are still to be added to them, whose first atoms are of one species:
-- those with atoms of the first species and those with atoms of the second
pub record SumsWithLists : Type 0 where
  pub of_firsts : List ℕ
  pub of_seconds : List ℕ
  pub sums : ForceSums

-- both lists are of pairs of the task's places, and neither is full
pub record AreFewOfBoth (w : Task) (of_firsts of_seconds : List ℕ) : Type 0 where
  pub firsts : AreFewPairs w.a.places w.b.places of_firsts
  pub seconds : AreFewPairs w.a.places w.b.places of_seconds

-- the scale of a pair of two species
abbrev pub scale_between : Task → Species → Species → Scale
scale_between w own other = (class_of w.mix own other).scale

-- the total of a place: its sum plus the pushes of the pairs of both lists; a pair of a class of scale u adds `push_of u pair`
abbrev pub total_of : Task → Species → (push_of : Scale → ℕ → Push) → SumsWithLists → Push → Push
total_of w own push_of state sum =
    total (push_of (scale_between w own Second)) state.of_seconds (total (push_of (scale_between w own First)) state.of_firsts sum)

-- the total of place t of the first block
abbrev pub total_on_first : Task → Species → SumsWithLists → ℕ → Push
total_on_first w own state t =
    total_of w own (λ u. push_on_first u w.a.places w.b.places t) state (slice_index_or state.sums.first t no_push)

-- the total of place s of the second block
abbrev pub total_on_second : Task → Species → SumsWithLists → ℕ → Push
total_on_second w own state s =
    total_of w own (λ u. push_on_second u w.a.places w.b.places s) state (slice_index_or state.sums.second s no_push)

-- the totals of the places of both blocks have grown by these pushes
pub record HaveGrown (w : Task) (own : Species) (on_first on_second : ℕ → Push) (before after : SumsWithLists) : Type 0 where
  pub first : (t : ℕ) → t < BLOCK → total_on_first w own after t ≡ sum_of_pushes (total_on_first w own before t) (on_first t)
  pub second : (s : ℕ) → s < length w.b.places
      → total_on_second w own after s ≡ sum_of_pushes (total_on_second w own before s) (on_second s)
  pub firsts : length after.sums.first ≡ length before.sums.first
  pub seconds : length after.sums.second ≡ length before.sums.second

-- the sum of the pushes of row t on place k of the first block: on its own place alone
abbrev pub row_on_first : Task → ℕ → ℕ → Push
row_on_first w t k = if k == t then sum_on_first w t (length w.b.places) else no_push

-- the totals have grown by the pushes of row t
abbrev pub HaveRow : Task → Species → ℕ → (before after : SumsWithLists) → Type 0
HaveRow w own t before after = HaveGrown w own (row_on_first w t) (push_back w t) before after

-- the sum of the pushes on place t of the first block if it is a row below n in a set, else none
abbrev pub rows_on_first : Task → ℕ → ℕ → ℕ → Push
rows_on_first w set n t = if nat_lt t n && is_in set t then sum_on_first w t (length w.b.places) else no_push

-- the push of row t on place s of the second block if the row is in a set, else none
abbrev pub row_on_second : Task → ℕ → ℕ → ℕ → Push
row_on_second w set s t = if is_in set t then push_back w t s else no_push

-- the sum of the pushes on place s of the second block of the rows below n that are in a set
unfoldable pub rows_on_second : Task → ℕ → ℕ → ℕ → Push
rows_on_second w set zero s = no_push
rows_on_second w set (suc n) s = sum_of_pushes (rows_on_second w set n s) (row_on_second w set s n)

-- the totals have grown by the pushes of the rows below n that are in a set
abbrev pub HaveRows : Task → Species → (set n : ℕ) → (before after : SumsWithLists) → Type 0
HaveRows w own set n before after = HaveGrown w own (rows_on_first w set n) (rows_on_second w set n) before after
