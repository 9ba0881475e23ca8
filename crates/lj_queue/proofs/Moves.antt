-- Each move of a pass keeps the rule of the queue, and the pass of every part knows the whole.
use Rattle.std.proofs.Common.{◌≡◌, ℕ, zero, suc, ◌+◌, ◌-◌, ◌<◌, List, [], ◌∷◌, ◌++◌, set, sym, refl, ap, ◌∙◌, subst, ⊎_elim, arith}
use Rattle.std.specs.Prelude.{⊤}
use mathlib.Core.Option.{some, some-injective, some-ne-none}
use lib.ListN.{get_elem?}
use Rattle.std.specs.List.{sum_by}
use Rattle.std.proofs.lemmas.List.Sums.{sum_by-append, sum_by-cons, sum_by_push}
use Rattle.crossbeam_queue.specs.Fifo.{Pushes, Pops, Forks, Merges, Learns}
use Rattle.crossbeam_queue.proofs.Lists.{at_set, at_snoc}
use Rattle.lj_queue.specs.declared.open_task.OpenTask.{OpenTask}
use Rattle.lj_queue.specs.declared.rule.PassHistory.{PassHistory}
use Rattle.lj_queue.specs.Balance.{Balanced, IdleIsEmpty, LeavesTasks, all_parts, history_of, joined_history, with_popped, with_pushed}

-- a sum after a change of one view
total_set : (f : PassHistory → ℕ) (views : List PassHistory) (port : ℕ) (v w : PassHistory) → get_elem? views port ≡ some v
    → sum_by f (set views port w) + f v ≡ sum_by f views + f w
total_set f [] port v w at = absurd (some-ne-none v (sym at))
total_set f (x ∷ xs) zero v w at =
    omega (arith, sum_by-cons f w xs, sum_by-cons f x xs, ap f (some-injective x v at))
total_set f (x ∷ xs) (suc port) v w at =
    omega (arith, sum_by-cons f x (set xs port w), sum_by-cons f x xs, total_set f xs port v w at)

idle_set : (views : List PassHistory) (port : ℕ) (w : PassHistory) → (w.parts ≡ 0 → (w.pushed ≡ []) × (w.popped ≡ []))
    → IdleIsEmpty views → IdleIsEmpty (set views port w)
idle_set views port w mine others j u at =
    ⊎_elim (λ x. subst (λ (y : PassHistory). y.parts ≡ 0 → (y.pushed ≡ []) × (y.popped ≡ [])) x.1 mine)
    (λ x. others j u x.1) (at_set views port j w u at)

abbrev parts_of : PassHistory → ℕ
parts_of v = v.parts

abbrev pushed_weight : (OpenTask → ℕ) → PassHistory → ℕ
pushed_weight h v = sum_by h v.pushed

abbrev popped_weight : (OpenTask → ℕ) → PassHistory → ℕ
popped_weight h v = sum_by h v.popped

pub begins : Balanced [] (history_of all_parts [] [] ∷ [])
begins = record {
  parts = omega (arith, sum_by-cons parts_of (history_of all_parts [] []) []);
  leaves = λ h. refl;
  idle = first;
}
  where
    first : IdleIsEmpty (history_of all_parts [] [] ∷ [])
    first zero v at none = absurd (omega (arith, ap parts_of (some-injective (history_of all_parts [] []) v at), none))
    first (suc port) v at none = absurd (some-ne-none v (sym at))

-- where the view of one port moves and keeps its parts, the rule still holds if the sums over what moved agree
moves : (items left : List OpenTask) (views : List PassHistory) (port : ℕ) (v w : PassHistory) → get_elem? views port ≡ some v
    → 0 < v.parts → w.parts ≡ v.parts
    → ((h : OpenTask → ℕ)
    → pushed_weight h w + popped_weight h v + sum_by h items ≡ pushed_weight h v + popped_weight h w + sum_by h left)
    → Balanced items views → Balanced left (set views port w)
moves items left views port v w at some_part parts moved b = record {
  parts = omega (arith, total_set parts_of views port v w at, parts, b.parts);
  leaves = λ h.
      omega (
        arith,
        b.leaves h,
        moved h,
        total_set (pushed_weight h) views port v w at,
        total_set (popped_weight h) views port v w at,
      );
  idle = idle_set views port w (λ none. absurd (omega (arith, some_part, parts, none))) b.idle;
}

pub pushes : (n port : ℕ) (v : PassHistory) (x : OpenTask) → 0 < v.parts
    → Pushes Balanced n port v x (λ w. w ≡ with_pushed v x)
pushes n port v x some_part items views room b at = (
  with_pushed v x,
  moves items (items ++ x ∷ []) views port v (with_pushed v x) at some_part refl
      (λ h. omega (arith, sum_by_push h v.pushed x, sum_by_push h items x)) b,
  refl,
)

pub pops : (port : ℕ) (v : PassHistory) → 0 < v.parts → Pops Balanced port v (λ x w. w ≡ with_popped v x)
pops port v some_part x items views b at = (
  with_popped v x,
  moves (x ∷ items) items views port v (with_popped v x) at some_part refl
      (λ h. omega (arith, sum_by_push h v.popped x, sum_by-cons h x items)) b,
  refl,
)

pub forks : (port : ℕ) (v : PassHistory) → 1 < v.parts
    → Forks Balanced port v (history_of (v.parts - 1) v.pushed v.popped) (history_of 1 [] [])
forks port v two items views b at = record {
  parts = omega (arith, total_set parts_of views port v left at, sum_by_push parts_of vs right, b.parts, two);
  leaves = λ h.
      omega (
        arith,
        b.leaves h,
        total_set (pushed_weight h) views port v left at,
        total_set (popped_weight h) views port v left at,
        sum_by_push (pushed_weight h) vs right,
        sum_by_push (popped_weight h) vs right,
      );
  idle = idle;
}
  where
    left : PassHistory
    left = history_of (v.parts - 1) v.pushed v.popped

    right : PassHistory
    right = history_of 1 [] []

    vs : List PassHistory
    vs = set views port left

    idle : IdleIsEmpty (vs ++ right ∷ [])
    idle j u e none =
        ⊎_elim
        (λ x. idle_set views port left (λ zero_left. absurd (omega (arith, two, zero_left))) b.idle j u x none)
        (λ is. subst (λ (y : PassHistory). (y.pushed ≡ []) × (y.popped ≡ [])) is (refl, refl)) (at_snoc vs right u j e)

pub merges : (port : ℕ) (v : PassHistory) (other : ℕ) (w : PassHistory) → 0 < v.parts
    → Merges Balanced port v other w (joined_history v w) (history_of 0 [] [])
merges port v other w some_part items views b at two at' = record {
  parts = omega (arith, total_set parts_of views port v both at, total_set parts_of vs other w spent at', b.parts);
  leaves = λ h.
      omega (
        arith,
        b.leaves h,
        total_set (pushed_weight h) views port v both at,
        total_set (popped_weight h) views port v both at,
        total_set (pushed_weight h) vs other w spent at',
        total_set (popped_weight h) vs other w spent at',
        sum_by-append h v.pushed w.pushed,
        sum_by-append h v.popped w.popped,
      );
  idle = idle_set vs other spent (λ _. (refl, refl))
      (idle_set views port both (λ none. absurd (omega (arith, some_part, none))) b.idle);
}
  where
    both : PassHistory
    both = joined_history v w

    spent : PassHistory
    spent = history_of 0 [] []

    vs : List PassHistory
    vs = set views port both

-- where no view has a part, nothing is weighed
none_weighs : (f : PassHistory → ℕ) → ((u : PassHistory) → (u.pushed ≡ []) × (u.popped ≡ []) → f u ≡ 0) → (views : List PassHistory)
    → sum_by parts_of views ≡ 0 → IdleIsEmpty views → sum_by f views ≡ 0
none_weighs f empty [] none idle = refl
none_weighs f empty (x ∷ xs) none idle =
    let sums = sum_by-cons parts_of x xs in
    let here = empty x (idle 0 x refl (omega (arith, none, sums))) in
    let rest = none_weighs f empty xs (omega (arith, none, sums)) (λ port. idle (suc port)) in
    omega (arith, here, rest, sum_by-cons f x xs)

-- where one view has every part, the sum is its own
alone : (f : PassHistory → ℕ) → ((u : PassHistory) → (u.pushed ≡ []) × (u.popped ≡ []) → f u ≡ 0) → (views : List PassHistory) (port : ℕ)
    (v : PassHistory) → get_elem? views port ≡ some v → sum_by parts_of views ≡ v.parts → IdleIsEmpty views
    → sum_by f views ≡ f v
alone f empty views port v at whole idle =
    let others = total_set parts_of views port v spent at in
    let rest = none_weighs f empty (set views port spent) (omega (arith, others, whole))
    (idle_set views port spent (λ _. (refl, refl)) idle) in
    omega (arith, total_set f views port v spent at, rest, empty spent (refl, refl))
  where
    spent : PassHistory
    spent = history_of 0 [] []

pub learns : (port : ℕ) (v : PassHistory) → v.parts ≡ all_parts
    → Learns Balanced port v (λ items. LeavesTasks v.pushed v.popped items)
learns port v all items views b at h =
    let whole = b.parts ∙ sym all in
    let pushed = alone (pushed_weight h) (λ u e. ap (sum_by h) e.0) views port v at whole b.idle in
    let popped = alone (popped_weight h) (λ u e. ap (sum_by h) e.1) views port v at whole b.idle in
    omega (arith, b.leaves h, pushed, popped)

-- what a call that pushes has to meet, and one that pops, by a pass of one part
pub push_asked : (n port : ℕ) (v : PassHistory) (x : OpenTask) → v.parts ≡ 1
    → Pushes Balanced n port v x (λ w. w ≡ with_pushed v x) × Learns Balanced port v (λ items. ⊤)
push_asked n port v x one = (pushes n port v x (omega (arith, one)), λ items views b at. tt)

pub pop_asked : (port : ℕ) (v : PassHistory) → v.parts ≡ 1
    → Pops Balanced port v (λ x w. w ≡ with_popped v x) × Learns Balanced port v (λ items. ⊤)
pop_asked port v one = (pops port v (omega (arith, one)), λ items views b at. tt)
