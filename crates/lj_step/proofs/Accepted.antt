-- The sums of a step as a result comes in.
use Rattle.std.proofs.Common.{ℕ, ◌+◌, ◌-◌, ◌*◌, ◌/◌, ◌^◌, ◌<◌, ◌≤◌, ◌≡◌, ◌≢◌, ◌+ℤ◌, unsigned_abs, Bool, true}
use Rattle.std.proofs.Common.{false, not, nat_le, nat_lt, cond, List, length, slice_index_or, slice_set, count_by, inl}
use Rattle.std.proofs.Common.{inr, sym, ap, ◌∙◌, get_or-set_same, get_or-set_other, arith}
use Rattle.std.proofs.lemmas.Bool.{cases_eq, cases_lt, true≢false, and_parts, leb-true, ltb-true}
use Rattle.std.proofs.lemmas.List.Sums.{sum_by-set, get_or-le-sum_by}
use Rattle.lj_ring.specs.declared.coordinates.Place.{Place}
use Rattle.lj_task.specs.Species.{Composition}
use Rattle.lj_task.specs.declared.pushes.Push.{Push}
use Rattle.lj_task.specs.declared.task_name.Kind.{Kind}
use Rattle.lj_task.specs.declared.task_name.Kind.TheVariants.{Force, Energy}
use Rattle.lj_task.specs.Pushes.{no_push, sum_of_pushes}
use Rattle.lj_task.specs.Block.{Block}
use Rattle.lj_task.specs.Task.{Task, task_force, task_second, task_energy}
use Rattle.lj_step.specs.declared.partial.Partial.{Partial}
use Rattle.lj_step.specs.OpenSteps.{blocks, sites_of, tile_number, tile_number_of, first_block, second_block, is_in_order, is_tile}
use Rattle.lj_step.specs.OpenSteps.{is_out_of_reach}
use Rattle.lj_step.specs.Sums.{CanAdd, HasCapacity, HasAdded, IsOpen, IsOutside, force_so_far, energy_so_far}
use Rattle.lj_step.proofs.BlockSums.{length_in}
use Rattle.lj_step.proofs.BlockPlaces.{block_length, first_in, place_in}
use Rattle.lj_step.proofs.PartialForces.{block_force, task_is, second_is, force_more, force_more_second, force_same}
use Rattle.lj_step.proofs.PartialEnergies.{energy_task_is, energy_more}

-- a tile more is in
module _ (u : Composition) (frame : List Place) (p q : Partial) (kind : Kind) (work : Task) (few : length frame ≤ 4096)
    (open_before : IsOpen u frame p kind) (room : HasCapacity (length frame) p)
    (mix : work.mix ≡ u.mix) (a : work.a ≡ sites_of u frame work.name.bi) (b : work.b ≡ sites_of u frame work.name.bj)
    (kind_is : work.name.kind ≡ kind)
    (second : work.name.bj < 64) (within : tile_number_of work < length p.awaited.items)
    (awaited : slice_index_or p.awaited.items (tile_number_of work) false ≡ true) where
  one_left : 1 ≤ p.left
  one_left =
      let one : cond (slice_index_or p.awaited.items (tile_number_of work) false) 1 0
      ≤ count_by (λ awaited. awaited) p.awaited.items =
      get_or-le-sum_by (λ (awaited : Bool). cond awaited 1 0) p.awaited.items (tile_number_of work) false within in
      omega (arith, open_before.left, rw awaited at one)

  size_before : unsigned_abs p.energy + 2 ^ 63 ≤ 2 ^ 75
  size_before = omega (arith, open_before.size, one_left)

  left_after : (m : ℕ) → m + 1 ≡ p.left → m ≡ count_by
      (λ awaited. awaited) (slice_set p.awaited.items (tile_number_of work) false)
  left_after m less =
      let set : count_by (λ awaited. awaited) (slice_set p.awaited.items (tile_number_of work) false)
      + cond (slice_index_or p.awaited.items (tile_number_of work) false) 1 0
      ≡ count_by (λ awaited. awaited) p.awaited.items + 0 =
      sum_by-set (λ (awaited : Bool). cond awaited 1 0) p.awaited.items (tile_number_of work) false false within in
      omega (arith, less, open_before.left, rw awaited at set)

  within_after : (k : ℕ) → slice_index_or (slice_set p.awaited.items (tile_number_of work) false) k false ≡ true
      → is_tile u frame k ≡ true
  within_after k set =
      elim (cases_eq k (tile_number_of work)) [
        | inl same ↦
            absurd (true≢false
            (sym set ∙ ap (λ n. slice_index_or (slice_set p.awaited.items (tile_number_of work) false) n false) same
            ∙ get_or-set_same p.awaited.items (tile_number_of work) false false within))
        | inr other ↦
            open_before.within k (sym (get_or-set_other p.awaited.items (tile_number_of work) k false false other)
            ∙ set)
      ]

  -- the number is that of two blocks in order
  numbered : is_in_order (length frame) (tile_number_of work) ≡ true
  numbered = (and_parts (is_in_order (length frame) (tile_number_of work))
      (not (is_out_of_reach u frame (tile_number_of work))) (open_before.within (tile_number_of work) awaited)).0

  ordered : (nat_lt (second_block (tile_number_of work)) (blocks (length frame)) ≡ true)
      × (nat_le (first_block (tile_number_of work)) (second_block (tile_number_of work)) ≡ true)
  ordered = and_parts (nat_lt (second_block (tile_number_of work)) (blocks (length frame)))
      (nat_le (first_block (tile_number_of work)) (second_block (tile_number_of work))) numbered

  in_order : work.name.bi ≤ work.name.bj
  in_order =
      let below : first_block (tile_number_of work) ≤ second_block (tile_number_of work) =
      leb-true (first_block (tile_number_of work)) (second_block (tile_number_of work)) ordered.1 in
      omega (arith, below, second)

  second_within : work.name.bj < blocks (length frame)
  second_within =
      let below : second_block (tile_number_of work) < blocks (length frame) =
      ltb-true (second_block (tile_number_of work)) (blocks (length frame)) ordered.0 in
      omega (arith, below, second)

  first_length : length work.a.places ≡ length_in work.name.bi (length frame)
  first_length = ap (λ (sites : Block). length sites.places) a ∙ block_length frame work.name.bi

  second_length : length work.b.places ≡ length_in work.name.bj (length frame)
  second_length = ap (λ (sites : Block). length sites.places) b ∙ block_length frame work.name.bj

  -- the places of both blocks have sums
  fits : (b n : ℕ) → n ≡ length_in b (length frame) → b < blocks (length frame) → tile_number b n ≤ length p.pushes.items
  fits b n count below =
      let all = (first_in (length frame) b below).2 in
      omega (arith, all, count, room.pushes)

  pub can_add : CanAdd work p
  can_add = record {
    awaited = within;
    left = one_left;
    first = fits work.name.bi (length work.a.places) first_length (omega (arith, in_order, second_within));
    second = fits work.name.bj (length work.b.places) second_length second_within;
    size = size_before;
  }

  -- what is added to an atom at a place of a block
  pushes_at : (b n : ℕ) (sum : ℕ → Push) → n ≡ length_in b (length frame) → kind ≡ Force
      → ((t : ℕ) → t < n → slice_index_or q.pushes.items (64 * b + t) no_push
      ≡ sum_of_pushes (slice_index_or p.pushes.items (64 * b + t) no_push) (sum t))
      → (i : ℕ) → i < length frame → i / 64 ≡ b
      → (after : (t : ℕ) → t < length_in b (length frame) → 64 * b + t ≡ i
      → sum_of_pushes (force_so_far u frame p.awaited.items i) (sum t)
      ≡ force_so_far u frame (slice_set p.awaited.items (tile_number_of work) false) i)
      → slice_index_or q.pushes.items i no_push
      ≡ force_so_far u frame (slice_set p.awaited.items (tile_number_of work) false) i
  pushes_at b n sum count force added i h here after =
      let place : (i - 64 * b < length_in b (length frame)) × (64 * b + (i - 64 * b) ≡ i) =
      rw here at (place_in (length frame) i h) in
      let below : i - 64 * b < n = rw count place.0 in
      ap (λ n. slice_index_or q.pushes.items n no_push) (sym place.1)
      ∙ added (i - 64 * b) below
      ∙ ap (λ n. sum_of_pushes (slice_index_or p.pushes.items n no_push) (sum (i - 64 * b))) place.1
      ∙ ap (λ s. sum_of_pushes s (sum (i - 64 * b))) (open_before.pushes force i h)
      ∙ after (i - 64 * b) place.0 place.1

  pushes_in : kind ≡ Force → HasAdded work p.pushes.items q.pushes.items → (i : ℕ)
      → i < length frame → i / 64 ≡ work.name.bi
      → slice_index_or q.pushes.items i no_push
      ≡ force_so_far u frame (slice_set p.awaited.items (tile_number_of work) false) i
  pushes_in force added i h here =
      pushes_at work.name.bi (length work.a.places) (task_force work) first_length force (added.first (kind_is ∙ force)) i h here
      (λ t below e.
      ap (λ s. sum_of_pushes (force_so_far u frame p.awaited.items i) s)
      (task_is u frame work t mix a b below ∙ ap (λ n. block_force u frame n work.name.bj) e)
      ∙ sym (force_more u frame p.awaited.items work.name.bi work.name.bj few in_order second within awaited i here))

  pushes_in_second : kind ≡ Force → HasAdded work p.pushes.items q.pushes.items → (i : ℕ)
      → i < length frame → i / 64 ≢ work.name.bi → i / 64 ≡ work.name.bj
      → slice_index_or q.pushes.items i no_push
      ≡ force_so_far u frame (slice_set p.awaited.items (tile_number_of work) false) i
  pushes_in_second force added i h other here =
      let before : work.name.bi < work.name.bj = omega (arith, in_order, other, here) in
      pushes_at work.name.bj (length work.b.places) (task_second work) second_length force
      (added.second (kind_is ∙ force) before) i h here
      (λ s below e.
      ap (λ m. sum_of_pushes (force_so_far u frame p.awaited.items i) m)
      (second_is u frame work s mix a b below ∙ ap (λ n. block_force u frame n work.name.bi) e)
      ∙ sym (force_more_second u frame p.awaited.items work.name.bi work.name.bj few in_order second within
      awaited i here))

  apart : (b n i : ℕ) → n ≡ length_in b (length frame) → i < length frame → i / 64 ≢ b → IsOutside b n i
  unfolding length_in
  apart b n i count h other =
      elim (cases_lt i (64 * b + 0)) [
        | inl before ↦ inl before
        | inr after ↦ inr (omega (arith, count, after, other))
      ]

  pushes_out : kind ≡ Force → HasAdded work p.pushes.items q.pushes.items → (i : ℕ)
      → i < length frame → i / 64 ≢ work.name.bi → i / 64 ≢ work.name.bj
      → slice_index_or q.pushes.items i no_push
      ≡ force_so_far u frame (slice_set p.awaited.items (tile_number_of work) false) i
  pushes_out force added i h first other =
      added.others i (apart work.name.bi (length work.a.places) i first_length h first)
      (apart work.name.bj (length work.b.places) i second_length h other)
      ∙ open_before.pushes force i h
      ∙ sym (force_same u frame p.awaited.items work.name.bi work.name.bj few in_order second within awaited
      i h first other)

  pushes_after : kind ≡ Force → HasAdded work p.pushes.items q.pushes.items → (i : ℕ) → i < length frame
      → slice_index_or q.pushes.items i no_push
      ≡ force_so_far u frame (slice_set p.awaited.items (tile_number_of work) false) i
  pushes_after force added i h =
      elim (cases_eq (i / 64) work.name.bi) [
        | inl first ↦ pushes_in force added i h first
        | inr other ↦
            elim (cases_eq (i / 64) work.name.bj) [
              | inl second ↦ pushes_in_second force added i h other second
              | inr neither ↦ pushes_out force added i h other neither
            ]
      ]

  pub accepted_is : q.tiles.items ≡ p.tiles.items → q.awaited.items
      ≡ slice_set p.awaited.items (tile_number_of work) false → q.left + 1 ≡ p.left
      → HasAdded work p.pushes.items q.pushes.items
      → (work.name.kind ≡ Energy → q.energy ≡ p.energy +ℤ task_energy work)
      → unsigned_abs q.energy ≤ unsigned_abs p.energy + 2 ^ 63 → IsOpen u frame q kind
  accepted_is tiles flags less added energy size = record {
    tiles = tiles ∙ open_before.tiles;
    within = λ k set. within_after k (sym (ap (λ xs. slice_index_or xs k false) flags) ∙ set);
    left = left_after q.left less ∙ sym (ap (count_by (λ awaited. awaited)) flags);
    pushes = λ e i h. pushes_after e added i h ∙ sym (ap (λ xs. force_so_far u frame xs i) flags);
    energy = λ e.
        energy (kind_is ∙ e)
        ∙ ap (λ s. s +ℤ task_energy work) (open_before.energy e)
        ∙ ap (λ s. energy_so_far u frame p.awaited.items +ℤ s) (energy_task_is u frame work mix a b)
        ∙ sym (ap (energy_so_far u frame) flags ∙ energy_more u frame p.awaited.items work.name.bi
        work.name.bj few in_order second within awaited);
    size = omega (arith, size, less, open_before.size);
  }
