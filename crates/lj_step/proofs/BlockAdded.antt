-- Sums that are added to a block, given as a list.
use Rattle.std.proofs.Common.{ℕ, ◌≡◌, List, map, length, slice_index_or, sym, ap, ◌∙◌, arith}
use Rattle.std.specs.List.{range_with_len}
use Rattle.std.proofs.lemmas.List.FromFn.{length-map-range_with_len, get_or-map-range_with_len}
use Rattle.lj_task.specs.declared.pushes.Push.{Push}
use Rattle.lj_task.specs.Pushes.{no_push, sum_of_pushes}
use Rattle.lj_step.specs.OpenSteps.{tile_number}
use Rattle.lj_step.specs.Sums.{HasBlockAdded, sum_of}

-- the list of n sums f adds the sums f
pub added_by : (index b n : ℕ) (f : ℕ → Push) (sums old new : List Push) → index ≡ b → sums ≡ map f (range_with_len 0 n)
    → HasBlockAdded index (length sums) (sum_of sums) old new → HasBlockAdded b n f old new
added_by index b n f sums old new same is raw =
    let added : HasBlockAdded b (length sums) (sum_of sums) old new = rw (sym same) raw in
    let count : length sums ≡ n = ap length is ∙ length-map-range_with_len f 0 n in
    record {
      count = added.count;
      block = λ t below. added.block t (omega (arith, count))
          ∙ ap (λ s. sum_of_pushes (slice_index_or old (tile_number b t) no_push) s)
          (ap (λ l. slice_index_or l t no_push) is ∙ get_or-map-range_with_len f 0 n t t no_push below (omega arith));
      others = λ i outside. added.others i (rw count outside);
    }
