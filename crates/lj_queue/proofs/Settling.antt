-- The passes of a pool, which one pass takes in, and what that learns then.
use Rattle.std.proofs.Common.{◌≡◌, ℕ, ◌+◌, ◌^◌, ◌<◌, List, [], ◌∷◌, ◌++◌, length, refl, sym, ap, ◌∙◌, subst, arith}
use Rattle.std.specs.List.{sum_by}
use Rattle.std.proofs.lemmas.List.{length-append}
use Rattle.std.proofs.lemmas.List.Sums.{sum_by-append, sum_by-cons}
use Rattle.atomic_table.specs.Seated.{TableId}
use Rattle.crossbeam_queue.specs.Fifo.{Held}
use Rattle.crossbeam_queue.specs.Passes.{Pass, view, IsSamePass}
use Rattle.lj_queue.specs.declared.open_task.OpenTask.{OpenTask}
use Rattle.lj_queue.specs.declared.rule.PassHistory.{PassHistory}
use Rattle.lj_queue.specs.Balance.{LeavesTasks, all_parts, joined_history}
use Rattle.lj_queue.specs.PoolPass.{IsCounted, PoolPass, pass_of}
use Rattle.lj_queue.specs.Settling.{GathersPasses, LeavesOf}

no_item : {X : Type 0} (xs : List X) → length xs ≡ 0 → xs ≡ []
no_item [] none = refl
no_item (x ∷ xs) none = absurd (omega (arith, none))

-- what the joined pass pushed, or popped: `of` is that of a history, and `its` that of a pass
module _ (of : PassHistory → List OpenTask) (its : PoolPass → List OpenTask) (into new other : Pass OpenTask PassHistory) (x : PoolPass)
    (both : view new ≡ joined_history (view into) (view other)) (trace : pass_of x.number other ≡ x)
    (join : of (joined_history (view into) (view other)) ≡ of (view into) ++ of (view other))
    (same : its (pass_of x.number other) ≡ of (view other)) where
  joined : of (view new) ≡ of (view into) ++ its x
  joined = ap of both ∙ join ∙ ap (λ xs. of (view into) ++ xs) (sym same ∙ ap its trace)

  counts : (count more : ℕ) → count ≡ length (of (view into)) → more ≡ length (its x) → count + more ≡ length (of (view new))
  counts count more was is = omega (arith, was, is, ap length joined, length-append (of (view into)) (its x))

  weighs : (h : OpenTask → ℕ) (later : List PoolPass) (whole : ℕ)
      → sum_by h (of (view into)) + sum_by (λ (pass : PoolPass). sum_by h (its pass)) (x ∷ later) ≡ whole
      → sum_by h (of (view new)) + sum_by (λ (pass : PoolPass). sum_by h (its pass)) later ≡ whole
  weighs h later whole was =
      omega (
        arith,
        was,
        sum_by-cons (λ (pass : PoolPass). sum_by h (its pass)) x later,
        ap (sum_by h) joined,
        sum_by-append h (of (view into)) (its x),
      )

module _ (table : TableId) (count : ℕ) (all : List PoolPass) where
  pub takes_in : (rest later : List PoolPass) (x : PoolPass) (into new other : Pass OpenTask PassHistory) (pushed popped p q : ℕ)
      → GathersPasses table count all rest into pushed popped → rest ≡ x ∷ later → IsSamePass into new
      → view new ≡ joined_history (view into) (view other) → pass_of x.number other ≡ x
      → IsCounted table other (length x.pushed) (length x.popped) → p ≡ length x.pushed → q ≡ length x.popped
      → p < 2 ^ 64 → q < 2 ^ 64 → GathersPasses table count all later new (pushed + p) (popped + q)
  takes_in rest later x into new other pushed popped p q was is same both trace counted p_is q_is p_most q_most =
      record {
        is_of = record {
          same_table = same.0 ∙ at.is_of.same_table;
          none_out = same.2 ∙ at.is_of.none_out;
        };
        most = at.most;
        parts = omega (arith, at.parts, ap (λ (v : PassHistory). v.parts) both, counted.one);
        pushed_is = omega (arith, at.pushed_is, p_is, sum_by-cons (λ (pass : PoolPass). length pass.pushed) x later);
        popped_is = omega (arith, at.popped_is, q_is, sum_by-cons (λ (pass : PoolPass). length pass.popped) x later);
        pushed_all = counts (λ v. v.pushed) (λ t. t.pushed) into new other x both trace refl refl pushed p at.pushed_all p_is;
        popped_all = counts (λ v. v.popped) (λ t. t.popped) into new other x both trace refl refl popped q at.popped_all q_is;
        pushed_most = omega (arith, at.pushed_most, p_most);
        popped_most = omega (arith, at.popped_most, q_most);
        pushed_weight = λ h. weighs (λ v. v.pushed) (λ t. t.pushed) into new other x both trace refl refl h later _ (at.pushed_weight h);
        popped_weight = λ h. weighs (λ v. v.popped) (λ t. t.popped) into new other x both trace refl refl h later _ (at.popped_weight h);
      }
    where
      at : GathersPasses table count all (x ∷ later) into pushed popped
      at = subst (λ l. GathersPasses table count all l into pushed popped) is was

  -- the pass that takes them in has some part: fewer than all are left
  pub some_part : (rest : List PoolPass) (into : Pass OpenTask PassHistory) (pushed popped : ℕ)
      → GathersPasses table count all rest into pushed popped → 0 < (view into).parts
  some_part rest into pushed popped at =
      omega (arith, at.parts, at.most, at.pushed_most)

  -- the pass that took all in has every part
  pub every_part : (rest : List PoolPass) (into : Pass OpenTask PassHistory) (pushed popped : ℕ)
      → GathersPasses table count all rest into pushed popped → length rest ≡ 0 → (view into).parts ≡ all_parts
  every_part rest into pushed popped at is = omega (arith, at.parts, is)

  pub leaves_of : (rest : List PoolPass) (into : Pass OpenTask PassHistory) (pushed popped left : ℕ)
      → GathersPasses table count all rest into pushed popped → length rest ≡ 0
      → Held left (λ items. LeavesTasks (view into).pushed (view into).popped items) → LeavesOf all left
  leaves_of rest into pushed popped left was is held = record {
    tickets = held.0;
    are_left = held.1;
    same = λ h. omega (arith, held.2 h, at.pushed_weight h, at.popped_weight h);
  }
    where
      at : GathersPasses table count all [] into pushed popped
      at = subst (λ l. GathersPasses table count all l into pushed popped) (no_item rest is) was

ones : {X : Type 0} (xs : List X) → sum_by (λ _. 1) xs ≡ length xs
ones [] = refl
ones (x ∷ xs) = omega (arith, sum_by-cons (λ _. 1) x xs, ones xs)

pub left_is : (pushed popped left : ℕ) (ps qs : List OpenTask) → pushed ≡ length ps → popped ≡ length qs
    → Held left (λ items. LeavesTasks ps qs items) → pushed ≡ popped + left
left_is pushed popped left ps qs p q held =
    omega (arith, p, q, held.1, held.2 (λ _. 1), ones ps, ones qs, ones held.0)
