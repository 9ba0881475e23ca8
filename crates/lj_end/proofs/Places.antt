-- Tasks in places, of which a list has each once and the first ones hold what is owed.
use Rattle.std.proofs.Common.{◌≡◌, ℕ, zero, suc, ◌+◌, ◌-◌, ◌<◌, ◌≤◌, Bool, true, false, List, [], ◌∷◌, ◌++◌}
use Rattle.std.proofs.Common.{Option, Some, None, length, take, drop, get_or, set, cond, refl, sym, ap, subst, ◌∙◌}
use Rattle.std.proofs.Common.{inl, inr, arith, length-append, length-set, get_or-set_same, get_or-set_other}
use Rattle.std.proofs.Common.{append_assoc, drop-cons}
use Rattle.std.specs.Prelude.{◌≢◌, map, nat_eq, nat_lt, IsTrue, ◌↔◌}
use Rattle.std.specs.List.{Contains, remove}
use Rattle.std.proofs.lemmas.Bool.{cases_Bool, cases_eq, eq-eqb, ne_eqb, ltb-true, ltb-false, lt-ltb, le-ltb, false≢true}
use Rattle.std.proofs.lemmas.List.{get_or_default, take_more, take-take, take-append-drop, take-append-le, length-take-le, length_push, get_or-take}
use Rattle.std.proofs.lemmas.List.Edits.{length-remove, remove-append_left}
use Rattle.std.proofs.lemmas.List.Sums.{sum_by-cons, sum_by_push, sum_by_more, sum_by-take-le, sum_by-remove, get_or-le-sum_by}
use Rattle.lj_step.specs.OpenSteps.{tile_number_of}
use Rattle.lj_task.specs.Blank.{blank_task}
use Rattle.lj_task.specs.Task.{Task}
use Rattle.lj_end.specs.declared.pool.TheConstants.{MAX_OWED}
use Rattle.lj_end.specs.InlinePool.{tasks_in}
use Rattle.lj_end.specs.Accounts.{tasks_owed, occurrences, IsFirst, IsKeptAccount, IsKnownByName, IsNowhere}
use Rattle.lj_end.specs.Seen.{Seen, IsStray, TakesOff, one_more}

-- 1 for true
abbrev bit : Bool → ℕ
bit b = cond b 1 0

in-le : (slot : Option Task) → length (tasks_in slot) ≤ 1
in-le None = omega arith
in-le (Some task) = omega arith

works-append : (tasks : List (Option Task)) (ps qs : List ℕ) → tasks_owed tasks (ps ++ qs) ≡ tasks_owed tasks ps ++ tasks_owed tasks qs
works-append tasks [] qs = refl
works-append tasks (p ∷ ps) qs =
    ap (λ w. tasks_in (get_or tasks p None) ++ w) (works-append tasks ps qs)
    ∙ sym (append_assoc (tasks_in (get_or tasks p None)) (tasks_owed tasks ps) (tasks_owed tasks qs))

length-works-le : (tasks : List (Option Task)) (ps : List ℕ) → length (tasks_owed tasks ps) ≤ length ps
length-works-le tasks [] = omega arith
length-works-le tasks (p ∷ ps) =
    let slot = get_or tasks p None in
    let rest = length-works-le tasks ps in
    omega (arith, in-le slot, rest, length-append (tasks_in slot) (tasks_owed tasks ps))

-- a task that is put into another place is none of these
works-other : (tasks : List (Option Task)) (place : ℕ) (slot : Option Task) (ps : List ℕ) → occurrences place ps ≡ 0
    → tasks_owed (set tasks place slot) ps ≡ tasks_owed tasks ps
works-other tasks place slot [] none = refl
works-other tasks place slot (p ∷ ps) none =
    let parts = sum_by-cons (λ j. cond (nat_eq j place) 1 0) p ps in
    let rest = works-other tasks place slot ps (omega (arith, parts, none)) in
    elim (cases_eq p place) [
      | inl same ↦
          let one : bit (nat_eq p place) ≡ 1 = ap bit (eq-eqb p place same) in
          absurd (omega (arith, parts, none, one))
      | inr other ↦
          ap (λ x. tasks_in x ++ tasks_owed (set tasks place slot) ps) (get_or-set_other tasks place p slot None other)
          ∙ ap (λ w. tasks_in (get_or tasks p None) ++ w) rest
    ]

-- where there are as many tasks as places, the first place holds one
first_in : (slot : Option Task) (rest : List Task) (n : ℕ) → length rest ≤ n
    → length (tasks_in slot ++ rest) ≡ suc n → (task : Task) × (slot ≡ Some task) × (length rest ≡ n)
first_in None rest n most is = absurd (omega (arith, most, is))
first_in (Some task) rest n most is = (task, refl, omega (arith, is))

-- where there are as many tasks as places, a task stands where its place does
pub works_at : (tasks : List (Option Task)) (ps : List ℕ) (k : ℕ) (d : Task) → length (tasks_owed tasks ps) ≡ length ps
    → k < length ps → get_or tasks (get_or ps k 0) None ≡ Some (get_or (tasks_owed tasks ps) k d)
works_at tasks [] k d count within = absurd (omega (arith, within))
works_at tasks (p ∷ ps) zero d count within =
    let first = first_in (get_or tasks p None) (tasks_owed tasks ps) (length ps) (length-works-le tasks ps) count in
    first.1 ∙ sym (ap (λ x. Some (get_or (tasks_in x ++ tasks_owed tasks ps) zero d)) first.1)
works_at tasks (p ∷ ps) (suc k) d count within =
    let first = first_in (get_or tasks p None) (tasks_owed tasks ps) (length ps) (length-works-le tasks ps) count in
    works_at tasks ps k d first.2 (omega arith)
    ∙ sym (ap (λ x. Some (get_or (tasks_in x ++ tasks_owed tasks ps) (suc k) d)) first.1)

works-remove : (tasks : List (Option Task)) (ps : List ℕ) (k : ℕ) → length (tasks_owed tasks ps) ≡ length ps → k < length ps
    → tasks_owed tasks (remove ps k) ≡ remove (tasks_owed tasks ps) k
works-remove tasks [] k count within = absurd (omega (arith, within))
works-remove tasks (p ∷ ps) zero count within =
    let first = first_in (get_or tasks p None) (tasks_owed tasks ps) (length ps) (length-works-le tasks ps) count in
    sym (ap (λ x. remove (tasks_in x ++ tasks_owed tasks ps) zero) first.1)
works-remove tasks (p ∷ ps) (suc k) count within =
    let first = first_in (get_or tasks p None) (tasks_owed tasks ps) (length ps) (length-works-le tasks ps) count in
    ap (λ w. tasks_in (get_or tasks p None) ++ w) (works-remove tasks ps k first.2 (omega arith))
    ∙ ap (λ x. tasks_in x ++ remove (tasks_owed tasks ps) k) first.1
    ∙ sym (ap (λ x. remove (tasks_in x ++ tasks_owed tasks ps) (suc k)) first.1)

-- a place is one of them
pub place_within : (places : List ℕ) → ((n : ℕ) → occurrences n places ≡ cond (nat_lt n MAX_OWED) 1 0) → (k : ℕ)
    → k < length places → get_or places k 0 < MAX_OWED
place_within places once k within =
    let place = get_or places k 0 in
    let some = get_or-le-sum_by (λ j. cond (nat_eq j place) 1 0) places k 0 within in
    let one : bit (nat_eq place place) ≡ 1 = ap bit (eq-eqb place place refl) in
    let there = once place in
    elim (cases_Bool (nat_lt place MAX_OWED)) [
      | inl below ↦ ltb-true place MAX_OWED below
      | inr above ↦
          let none : bit (nat_lt place MAX_OWED) ≡ 0 = ap bit above in
          absurd (omega (arith, some, one, there, none))
    ]

at_most_one : (b : Bool) → cond b 1 0 ≤ 1
at_most_one true = omega arith
at_most_one false = omega arith

-- a place behind those that hold tasks is none of them
apart : (places : List ℕ) → ((n : ℕ) → occurrences n places ≡ cond (nat_lt n MAX_OWED) 1 0) → (owed k : ℕ) → owed ≤ k
    → k < length places → occurrences (get_or places k 0) (take owed places) ≡ 0
apart places once owed k behind within =
    let place = get_or places k 0 in
    let f : ℕ → ℕ = λ j. cond (nat_eq j place) 1 0 in
    let more = sum_by_more f places k 0 within in
    let le = sum_by-take-le f places (k + 1) in
    let fewer : occurrences place (take owed places) ≤ occurrences place (take k places) =
    subst (λ xs. occurrences place xs ≤ occurrences place (take k places)) (take-take owed k places behind)
    (sum_by-take-le f (take k places) owed) in
    let one : bit (nat_eq place place) ≡ 1 = ap bit (eq-eqb place place refl) in
    omega (arith, more, le, fewer, one, once place, at_most_one (nat_lt place MAX_OWED))

-- a task is put into the next place
pub works_posted : (tasks : List (Option Task)) (places : List ℕ) (owed : ℕ) (task : Task) → IsKeptAccount tasks places owed
    → owed < MAX_OWED
    → tasks_owed (set tasks (get_or places owed 0) (Some task)) (take (owed + 1) places)
    ≡ tasks_owed tasks (take owed places) ++ task ∷ []
works_posted tasks places owed task kept room =
    let place = get_or places owed 0 in
    let within : owed < length places = omega (arith, kept.all, room) in
    let fits : place < length tasks = omega (arith, place_within places kept.once owed within, kept.size) in
    let put = set tasks place (Some task) in
    ap (tasks_owed put) (take_more places owed 0 within)
    ∙ works-append put (take owed places) (place ∷ [])
    ∙ ap (λ w. w ++ (tasks_in (get_or put place None) ++ []))
    (works-other tasks place (Some task) (take owed places) (apart places kept.once owed owed (omega arith) within))
    ∙ ap (λ x. tasks_owed tasks (take owed places) ++ (tasks_in x ++ [])) (get_or-set_same tasks place (Some task) None fits)

pub kept_posted : (tasks : List (Option Task)) (places : List ℕ) (owed : ℕ) (task : Task) → IsKeptAccount tasks places owed
    → owed < MAX_OWED
    → IsKeptAccount (set tasks (get_or places owed 0) (Some task)) places (owed + 1)
kept_posted tasks places owed task kept room = record {
  size = length-set tasks (get_or places owed 0) (Some task) ∙ kept.size;
  once = kept.once;
  all = kept.all;
  most = omega (arith, room);
  count = ap length (works_posted tasks places owed task kept room)
      ∙ length_push (tasks_owed tasks (take owed places)) task ∙ ap (λ n. n + 1) kept.count;
}

-- what lies in a place behind those that hold tasks is changed
module _ (tasks : List (Option Task)) (places : List ℕ) (owed k : ℕ) (slot : Option Task) (kept : IsKeptAccount tasks places owed)
    (behind : owed ≤ k) (within : k < length places) where
  pub works_released : tasks_owed (set tasks (get_or places k 0) slot) (take owed places) ≡ tasks_owed tasks (take owed places)
  works_released =
      works-other tasks (get_or places k 0) slot (take owed places) (apart places kept.once owed k behind within)

  pub kept_released : IsKeptAccount (set tasks (get_or places k 0) slot) places owed
  kept_released = record {
    size = length-set tasks (get_or places k 0) slot ∙ kept.size;
    once = kept.once;
    all = kept.all;
    most = kept.most;
    count = ap length works_released ∙ kept.count;
  }

-- the first places, once the one that stands here has been put behind all
places_left : (places : List ℕ) (owed here : ℕ) → owed ≤ length places → here < owed
    → take (owed - 1) (remove places here ++ get_or places here 0 ∷ []) ≡ remove (take owed places) here
places_left places owed here most within =
    let front = take owed places in
    let behind = drop owed places in
    let place = get_or places here 0 in
    let len : length front ≡ owed = length-take-le owed places most in
    let inside : here < length front = omega (arith, len, within) in
    let short : length (remove front here) ≡ owed - 1 = omega (arith, length-remove front here inside, len) in
    let whole : remove places here ≡ remove front here ++ behind =
    ap (λ xs. remove xs here) (sym (take-append-drop owed places)) ∙ remove-append_left front behind here inside in
    ap (λ xs. take (owed - 1) (xs ++ place ∷ [])) whole
    ∙ ap (take (owed - 1)) (append_assoc (remove front here) behind (place ∷ []))
    ∙ take-append-le (owed - 1) (remove front here) (behind ++ place ∷ []) (omega (arith, short))
    ∙ ap (λ n. take n (remove front here)) (sym short)
    ∙ take_whole (remove front here)
  where
    take_whole : {X : Type 0} (xs : List X) → take (length xs) xs ≡ xs
    take_whole [] = refl
    take_whole (x ∷ xs) = ap (λ ys. x ∷ ys) (take_whole xs)

-- a task is taken off
pub works_left : (tasks : List (Option Task)) (places : List ℕ) (owed here : ℕ) → IsKeptAccount tasks places owed → here < owed
    → tasks_owed tasks (take (owed - 1) (remove places here ++ get_or places here 0 ∷ []))
    ≡ remove (tasks_owed tasks (take owed places)) here
works_left tasks places owed here kept within =
    let most : owed ≤ length places = omega (arith, kept.all, kept.most) in
    let len : length (take owed places) ≡ owed = length-take-le owed places most in
    ap (tasks_owed tasks) (places_left places owed here most within)
    ∙ works-remove tasks (take owed places) here (kept.count ∙ sym len) (omega (arith, len, within))

pub kept_left : (tasks : List (Option Task)) (places : List ℕ) (owed here : ℕ) → IsKeptAccount tasks places owed → here < owed
    → IsKeptAccount tasks (remove places here ++ get_or places here 0 ∷ []) (owed - 1)
kept_left tasks places owed here kept within =
    let inside : here < length places = omega (arith, kept.all, kept.most, within) in
    let place = get_or places here 0 in
    let lost : here < length (tasks_owed tasks (take owed places)) = omega (arith, kept.count, within) in
    record {
      size = kept.size;
      once = λ n. let f : ℕ → ℕ = λ j. cond (nat_eq j n) 1 0 in
          omega (arith, sum_by_push f (remove places here) place, sum_by-remove f places here 0 inside) ∙ kept.once n;
      all = length_push (remove places here) place ∙ length-remove places here inside ∙ kept.all;
      most = omega (arith, kept.most);
      count = ap length (works_left tasks places owed here kept within)
          ∙ omega (arith, length-remove (tasks_owed tasks (take owed places)) here lost, kept.count);
    }

-- one place more is in the list
pub once_more : (n place : ℕ) → cond (nat_lt n place) 1 0 + cond (nat_eq place n) 1 0 ≡ cond (nat_lt n (place + 1)) 1 0
once_more n place = elim (cases_Bool (nat_lt n place)) [
  | inl below ↦
      let under : n < place = ltb-true n place below in
      let a : bit (nat_lt n place) ≡ 1 = ap bit below in
      let b : bit (nat_eq place n) ≡ 0 = ap bit (ne_eqb place n (λ e. absurd (omega (arith, under, e)))) in
      let c : bit (nat_lt n (place + 1)) ≡ 1 = ap bit (lt-ltb n (place + 1) (omega (arith, under))) in
      omega (arith, a, b, c)
  | inr above ↦
      let over : place ≤ n = ltb-false n place above in
      let a : bit (nat_lt n place) ≡ 0 = ap bit above in
      elim (cases_eq place n) [
        | inl same ↦
            let b : bit (nat_eq place n) ≡ 1 = ap bit (eq-eqb place n same) in
            let c : bit (nat_lt n (place + 1)) ≡ 1 = ap bit (lt-ltb n (place + 1) (omega (arith, same))) in
            omega (arith, a, b, c)
        | inr other ↦
            let b : bit (nat_eq place n) ≡ 0 = ap bit (ne_eqb place n other) in
            let c : bit (nat_lt n (place + 1)) ≡ 0 = ap bit
            (le-ltb n (place + 1) (omega (arith, over, other))) in
            omega (arith, a, b, c)
      ]
]

-- the task that stands where a place does
pub task_at : (tasks : List (Option Task)) (places : List ℕ) (owed here : ℕ) → IsKeptAccount tasks places owed → here < owed
    → (d : Task) → get_or tasks (get_or places here 0) None ≡ Some (get_or (tasks_owed tasks (take owed places)) here d)
task_at tasks places owed here kept within d =
    let len : length (take owed places) ≡ owed = length-take-le owed places (omega (arith, kept.all, kept.most)) in
    ap (λ k. get_or tasks k None) (sym (get_or-take owed places here 0 within))
    ∙ works_at tasks (take owed places) here d (kept.count ∙ sym len) (omega (arith, len, within))

-- each image of the list without the item that stands here
pub map_remove : {X Y : Type 0} (f : X → Y) (xs : List X) (here : ℕ) → map f (remove xs here) ≡ remove (map f xs) here
map_remove f [] zero = refl
map_remove f [] (suc here) = refl
map_remove f (x ∷ xs) zero = refl
map_remove f (x ∷ xs) (suc here) = ap (λ ys. f x ∷ ys) (map_remove f xs here)

-- what is true of tasks of one tile number alone, of a task of another one
pub of_another_tile : (tile : ℕ) (task : Task) (answer : Bool) (P : Type 0) → (P → tile_number_of task ≡ tile)
    → (tile_number_of task ≢ tile) × (answer ≡ false) → IsTrue answer ↔ P
of_another_tile tile task answer P tiled other =
    (λ yes. absurd (false≢true (sym other.1 ∙ yes)), λ is. absurd (other.0 (tiled is)))

-- where a predicate returns for each task that is owed whether it is this one
module _ (Returns : Task → Bool → Type 0) (task : Task) (old : Seen) where
  abbrev ReturnsOf : Type 0
  ReturnsOf = (other : Task) → Contains old.owed other → (returned : Bool) → Returns other returned → IsTrue returned ↔ (other ≡ task)

  -- the first for which it returns true is owed no more, and a result is counted
  pub taken_off : (new : Seen) (here : ℕ) → IsFirst Returns old.owed here → ReturnsOf → new.owed ≡ remove old.owed here
      → new.expected ≡ one_more old.expected → new.strays ≡ old.strays → TakesOff task old new
  taken_off new here first same left expected strays = record {
    front = take here old.owed;
    behind = drop (suc here) old.owed;
    was = sym (take-append-drop here old.owed)
        ∙ ap (λ xs. take here old.owed ++ xs) (drop-cons old.owed here blank_task first.within)
        ∙ ap (λ x. take here old.owed ++ x ∷ drop (suc here) old.owed) is;
    first = λ there.
        let len : length (take here old.owed) ≡ here = length-take-le here old.owed (omega (arith, first.within)) in
        let under : there.0 < here = omega (arith, there.1, len) in
        let within : there.0 < length old.owed = omega (arith, under, first.within) in
        let named : get_or old.owed there.0 blank_task ≡ task =
        get_or_default old.owed there.0 blank_task task within ∙ sym (get_or-take here old.owed there.0 task under) ∙ there.2 in
        false≢true ((same (get_or old.owed there.0 blank_task) (there.0, within, get_or_default old.owed there.0 _ _ within) false
        (first.before there.0 under)).1 named);
    owed = left;
    expected = expected;
    strays = strays;
  }
    where
      is : get_or old.owed here blank_task ≡ task
      is = (same (get_or old.owed here blank_task) (here, first.within, get_or_default old.owed here _ _ first.within) true first.is).0 refl

  -- where it returns false for each, this one is a stray
  pub is_stray : (new : Seen) → IsNowhere Returns old.owed → ReturnsOf → new.owed ≡ old.owed
      → new.expected ≡ old.expected → new.strays ≡ one_more old.strays → IsStray task old new
  is_stray new none same owed expected strays = record {
    absent = λ there.
        let is : get_or old.owed there.0 blank_task ≡ task =
        get_or_default old.owed there.0 blank_task task there.1 ∙ there.2 in
        false≢true ((same (get_or old.owed there.0 blank_task)
        (there.0, there.1, get_or_default old.owed there.0 _ _ there.1) false (none.each there.0 there.1)).1 is);
    owed = owed;
    expected = expected;
    strays = strays;
  }

-- by a name by which a task is known, whether another is that task
pub returns_by_name : (owed : List Task) (task other : Task) (returned : Bool) → IsKnownByName owed task → Contains owed other
    → (IsTrue returned ↔ (other.name ≡ task.name)) → IsTrue returned ↔ (other ≡ task)
returns_by_name owed task other returned known owes agrees =
    (λ yes. known other owes (agrees.0 yes), λ is. agrees.1 (ap (λ (t : Task). t.name) is))
