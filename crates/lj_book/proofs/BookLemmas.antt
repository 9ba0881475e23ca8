-- A book whose slab and states change at one key is a book, and the states tell what stands under the keys.
use Rattle.std.proofs.Common.{◌≡◌, ◌≢◌, ℕ, ◌+◌, ◌<◌, ◌≤◌, Bool, true, false, List, [], ◌∷◌, length, Option, None, Some, is_some, cond, count_by, refl, sym, ap, ◌∙◌, inl, inr, arith, length-set, get_or-set_same, get_or-set_other}
use Rattle.std.proofs.lemmas.Bool.{cases_eq, cases_lt}
use Rattle.std.proofs.lemmas.List.{get_or_past}
use Rattle.std.proofs.lemmas.List.Sums.{sum_by-cons}
use Rattle.std.specs.Prelude.{slice_set}
use Rattle.slab.specs.Slab.{Slab, Updates, get, slab_len}
use Rattle.lj_task.specs.Task.{Task}
use Rattle.lj_book.specs.declared.book_entry.TheConstants.{MAX_ENTRIES}
use Rattle.lj_book.specs.declared.key_states.KeyState.{KeyState}
use Rattle.lj_book.specs.declared.key_states.KeyState.TheVariants.{Vacant, ToTake, Taken, ToFetch}
use Rattle.lj_book.specs.Book.{BookOf, BookEntry, Open, Out, Done, IsBook, Puts, SameCounts, entry_at, entry_count, is_waiting, key_state_of, waiting_count, weight}
use Rattle.lj_book.specs.Boxes.{has_box_by}
use Rattle.lj_book.specs.KeyStates.{HasKeyState, key_state_at}
use Rattle.lj_book.specs.Picks.{IsPick}
use Rattle.lj_book.proofs.CountLemmas.{sum_changed}

-- a key with another state than that of vacant ones is one of the list
pub key_within : (key_states : List KeyState) (key : ℕ) → key_state_at key_states key ≢ Vacant → key < length key_states
key_within key_states key marked =
    elim (cases_lt key (length key_states)) [
      | inl less ↦ less
      | inr past ↦ absurd (marked (get_or_past key_states key Vacant past))
    ]

module _ {P K : Type 0} (slab : Slab (BookEntry P K)) (key_states : List KeyState) (marked : (k : ℕ) → key_state_at key_states k ≡ key_state_of (get slab k)) where
  -- what is picked by its state is picked by what stands there
  pub picked : (key_state : KeyState) (pick key : ℕ) → key_state ≢ Vacant → IsPick (HasKeyState key_states key_state) pick key
      → IsPick (λ k. key_state_of (get slab k) ≡ key_state) pick key
  picked key_state pick key other is = record {
    passes = sym (marked key) ∙ is.passes.is;
    least = λ from k here. is.least from k (has k here);
    around = λ below k here. is.around below k (has k here);
  }
    where
      has : (k : ℕ) → key_state_of (get slab k) ≡ key_state → HasKeyState key_states key_state k
      has k here = record {
        within = key_within key_states k (λ vacant. other (sym (marked k ∙ here) ∙ vacant));
        is = marked k ∙ here;
      }

  module _ (new : Slab (BookEntry P K)) (key : ℕ) (slot : Option (BookEntry P K)) (key_state : KeyState) (within : key < length key_states)
      (updates : Updates slab new key slot) (is : key_state ≡ key_state_of slot) where
    still_marked : (k : ℕ) → key_state_at (slice_set key_states key key_state) k ≡ key_state_of (get new k)
    still_marked k =
        elim (cases_eq k key) [
          | inl same ↦ rw (same, get_or-set_same key_states key key_state Vacant within) (is ∙ ap key_state_of (sym updates.changed))
          | inr other ↦
              rw (get_or-set_other key_states key k key_state Vacant other) (marked k ∙ ap key_state_of (sym (updates.others k other)))
        ]

    pub changed_book : length key_states ≡ slab.capacity → MAX_ENTRIES ≤ slab.capacity → new.capacity ≡ slab.capacity
        → (posted given fetched withdrawn : ℕ) → posted ≡ fetched + withdrawn + slab_len new
        → given + waiting_count new.slots ≤ posted → slab_len new ≤ MAX_ENTRIES
        → IsBook new (slice_set key_states key key_state) posted given fetched withdrawn
    changed_book keys room capacity posted given fetched withdrawn balance waits most = record {
      balance = balance;
      given_or_waiting = waits;
      most = most;
      room = omega (arith, room, capacity);
      keys = length-set key_states key key_state ∙ keys ∙ sym capacity;
      marked = still_marked;
    }

-- 1 where a test passes, else 0
abbrev pub one_if : Bool → ℕ
one_if passes = cond passes 1 0

one_at_most : (passes : Bool) → one_if passes ≤ 1
one_at_most true = omega arith
one_at_most false = omega arith

-- whether the state is that of a task without its result
abbrev pub state_waits : KeyState → Bool
state_waits Vacant = false
state_waits ToTake = true
state_waits Taken = true
state_waits (ToFetch user) = false

pub waits_marked : {P K : Type 0} (slot : Option (BookEntry P K)) → is_waiting slot ≡ state_waits (key_state_of slot)
waits_marked None = refl
waits_marked (Some (Open opened)) = refl
waits_marked (Some (Out kept)) = refl
waits_marked (Some (Done work)) = refl

-- where an entry takes the place of a task without its result, it is still a book
module _ {P K : Type 0} (slab : Slab (BookEntry P K)) (key_states : List KeyState) (posted given fetched withdrawn : ℕ)
    (kept : IsBook slab key_states posted given fetched withdrawn) where
  pub put_book : (new : Slab (BookEntry P K)) (key : ℕ) (entry : BookEntry P K) → is_waiting (get slab key) ≡ true
      → Updates slab new key (Some entry) → slab_len new ≡ slab_len slab → new.capacity ≡ slab.capacity
      → IsBook new (slice_set key_states key (key_state_of (Some entry))) posted given fetched withdrawn
  put_book new key entry waits updates len capacity =
      let changed = sum_changed weight refl slab.slots new.slots key updates.others in
      changed_book slab key_states kept.marked new key (Some entry) (key_state_of (Some entry))
      (key_within key_states key (λ vacant.
      let not : true ≡ false = sym waits ∙ waits_marked (get slab key) ∙ ap state_waits (sym (kept.marked key) ∙ vacant) in cc))
      updates refl kept.keys kept.room capacity posted given fetched withdrawn
      (omega (arith, kept.balance, len))
      (omega (arith, kept.given_or_waiting, changed, ap one_if waits, ap weight updates.changed, one_at_most (is_waiting (Some entry))))
      (omega (arith, kept.most, len))

-- how many entries pass a test, where one changes
module _ {P K : Type 0} (old new : BookOf P K) (key : ℕ) (was slot : Option (BookEntry P K)) (there : entry_at old key ≡ was)
    (puts : Puts old new key slot) where
  pub count_put : (test : Option (BookEntry P K) → Bool) → test None ≡ false
      → count_by test new.slots + one_if (test was) ≡ count_by test old.slots + one_if (test slot)
  count_put test nothing =
      let f : Option (BookEntry P K) → ℕ = λ s. one_if (test s) in
      let changed = sum_changed f (ap one_if nothing) old.slots new.slots key puts.others in
      omega (arith, changed, ap f there, ap f puts.changed)

  -- how many entries stand
  pub entries_put : entry_count new + one_if (is_some was) ≡ entry_count old + one_if (is_some slot)
  entries_put = count_put is_some refl

-- where a task that was out gets its result, one task less waits, so one more result can be counted
pub one_more : {P K : Type 0} (old new : BookOf P K) (key : ℕ) (kept : K) (work : Task) → entry_at old key ≡ Some (Out kept)
    → Puts old new key (Some (Done work)) → SameCounts old new → old.given + waiting_count old.slots ≤ old.posted
    → new.given + 1 + waiting_count new.slots ≤ new.posted
one_more old new key kept work was puts counts waiting =
    omega (arith, waiting, count_put old new key _ _ was puts is_waiting refl, counts.posted, counts.given)

-- where a box lies in each entry, there are as many as entries
module _ {P K : Type 0} where
  abbrev boxed : Option (BookEntry P K) → Bool
  boxed = has_box_by (λ opened. true) (λ kept. true)

  one_boxed : (slot : Option (BookEntry P K)) → one_if (boxed slot) ≡ one_if (is_some slot)
  one_boxed None = refl
  one_boxed (Some (Open opened)) = refl
  one_boxed (Some (Out kept)) = refl
  one_boxed (Some (Done work)) = refl

  pub all_boxed : (slots : List (Option (BookEntry P K))) → count_by boxed slots ≡ count_by is_some slots
  all_boxed [] = refl
  all_boxed (slot ∷ slots) = omega (
    arith,
    one_boxed slot,
    all_boxed slots,
    sum_by-cons (λ s. one_if (boxed s)) slot slots,
    sum_by-cons (λ (s : Option (BookEntry P K)). one_if (is_some s)) slot slots,
  )
