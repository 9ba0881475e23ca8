-- Sums of the pushes of pairs.
use Rattle.std.proofs.Common.{ℕ, ◌+◌, ◌%◌, ◌^◌, ◌<◌, ◌≡◌, ◌≢◌, ◌==◌, true, false, List, [], ◌∷◌, ◌++◌}
use Rattle.std.proofs.Common.{length, take, drop, slice_set, slice_index, slice_index_or, subst, refl, sym, ap, ◌∙◌, inl, inr, add-one, arith}
use Rattle.std.proofs.Common.{get_or-set_same, get_or-set_other}
use Rattle.std.proofs.lemmas.Bool.{cases_eq}
use Rattle.std.proofs.lemmas.Bool.Decides.{nat_tests}
use Rattle.lj_ring.specs.declared.coordinates.Place.{Place}
use Rattle.lj_ring.specs.Scale.{Scale}
use Rattle.lj_task.specs.declared.pushes.Push.{Push}
use Rattle.lj_task.specs.declared.force_sums.ForceSums.{ForceSums}
use Rattle.lj_task.specs.Pushes.{push, no_push, sum_of_pushes, opposite_push}
use Rattle.lj_task.specs.Tiles.{place_at}
use Rattle.lj_tile.specs.Pairs.{first_of, second_of, push_on_first, push_on_second, sum_of_pairs, IsMore, HavePushes}
use Rattle.lj_tile.specs.PairTotals.{HaveTotals, total}
use Rattle.lj_tile.specs.declared.pair_lanes.Eight.{Eight}
use Rattle.lj_tile.specs.Lanes.{IsPush}
use Rattle.std.proofs.lemmas.List.{take-append-drop}
use Rattle.std.proofs.Math.Seq.{take-suc, take-add}
use Rattle.lj_task.proofs.Opposites.{same_push}
use Rattle.lj_tile.proofs.RowLemmas.{length_set}

mod_sum : (a b c : ℕ) → ((a + b) % 2 ^ 32 + c) % 2 ^ 32 ≡ (a + (b + c) % 2 ^ 32) % 2 ^ 32
mod_sum a b c = omega arith

mod_turn : (a b : ℕ) → (a + b) % 2 ^ 32 ≡ (b + a) % 2 ^ 32
mod_turn a b = omega arith

mod_zero : (a b : ℕ) → (0 + (a + b) % 2 ^ 32) % 2 ^ 32 ≡ (a + b) % 2 ^ 32
mod_zero a b = omega arith

-- pushes are added in any order
pub sums_joined : (a b c : Push) → sum_of_pushes (sum_of_pushes a b) c ≡ sum_of_pushes a (sum_of_pushes b c)
sums_joined a b c = same_push _ _ (mod_sum a.x b.x c.x) (mod_sum a.y b.y c.y) (mod_sum a.z b.z c.z)

pub sums_turned : (a b : Push) → sum_of_pushes a b ≡ sum_of_pushes b a
sums_turned a b = same_push _ _ (mod_turn a.x b.x) (mod_turn a.y b.y) (mod_turn a.z b.z)

pub none_more : (a b : Push) → sum_of_pushes no_push (sum_of_pushes a b) ≡ sum_of_pushes a b
none_more a b = same_push _ _ (mod_zero a.x b.x) (mod_zero a.y b.y) (mod_zero a.z b.z)

pub more_none : (a b : Push) → sum_of_pushes (sum_of_pushes a b) no_push ≡ sum_of_pushes a b
more_none a b = sums_turned (sum_of_pushes a b) no_push ∙ none_more a b

-- a sum of pairs is one on the ring
pub whole_sum : (f : ℕ → Push) (pairs : List ℕ) → sum_of_pushes no_push (sum_of_pairs f pairs) ≡ sum_of_pairs f pairs
unfolding sum_of_pairs
whole_sum f [] = refl
whole_sum f (pair ∷ pairs) = none_more (f pair) (sum_of_pairs f pairs)

-- of two lists one after the other
pub sum_appended : (f : ℕ → Push) (ps qs : List ℕ) → sum_of_pairs f (ps ++ qs) ≡ sum_of_pushes (sum_of_pairs f ps) (sum_of_pairs f qs)
unfolding sum_of_pairs
sum_appended f [] qs = sym (whole_sum f qs)
sum_appended f (p ∷ ps) qs =
    ap (sum_of_pushes (f p)) (sum_appended f ps qs) ∙ sym (sums_joined (f p) (sum_of_pairs f ps) (sum_of_pairs f qs))

pub sum_of_one : (f : ℕ → Push) (pair : ℕ) → sum_of_pairs f (pair ∷ []) ≡ sum_of_pushes (f pair) no_push
unfolding sum_of_pairs
sum_of_one f pair = refl

pub more_of_none : (f : ℕ → Push) (sum : Push) → IsMore f [] sum sum
unfolding sum_of_pairs
more_of_none f sum = refl

-- one list after another
pub more_after : (f : ℕ → Push) (ps qs : List ℕ) (old mid new : Push) → IsMore f ps old mid → IsMore f qs mid new → IsMore f (ps ++ qs) old new
more_after f ps qs old mid new one other =
    other
    ∙ ap (sum_of_pushes mid) (sym (whole_sum f qs)) ∙ sym (sums_joined mid no_push (sum_of_pairs f qs))
    ∙ ap (λ p. sum_of_pushes p (sum_of_pairs f qs)) one ∙ sums_joined old (sum_of_pairs f ps) (sum_of_pairs f qs)
    ∙ ap (sum_of_pushes old) (sym (sum_appended f ps qs))

pub pushes_after : (u : Scale) (a b : List Place) (ps qs : List ℕ) (old mid new : ForceSums) → HavePushes u a b ps old mid
    → HavePushes u a b qs mid new → HavePushes u a b (ps ++ qs) old new
pushes_after u a b ps qs old mid new one other = record {
  first = λ t h. more_after (push_on_first u a b t) ps qs _ _ _ (one.first t h) (other.first t h);
  second = λ s h. more_after (push_on_second u a b s) ps qs _ _ _ (one.second s h) (other.second s h);
  firsts = other.firsts ∙ one.firsts;
  seconds = other.seconds ∙ one.seconds;
}

pub pushes_none : (u : Scale) (a b : List Place) (sums : ForceSums) → HavePushes u a b [] sums sums
pushes_none u a b sums = record {
  first = λ t h. more_of_none (push_on_first u a b t) _;
  second = λ s h. more_of_none (push_on_second u a b s) _;
  firsts = refl;
  seconds = refl;
}

-- a sum to which one push came, and one to which none came
more_of_one : (f : ℕ → Push) (pair : ℕ) (old new : Push) → new ≡ sum_of_pushes old (f pair) → IsMore f (pair ∷ []) old new
more_of_one f pair old new e =
    rw e (sums_joined old (f pair) no_push) ∙ ap (sum_of_pushes old) (sym (sum_of_one f pair))

more_of_other : (f : ℕ → Push) (pair : ℕ) (old new : Push) → new ≡ old → f pair ≡ no_push → IsMore f (pair ∷ []) old new
more_of_other f pair old new e none =
    let nothing : sum_of_pairs f (pair ∷ []) ≡ no_push = sum_of_one f pair ∙ ap (λ p. sum_of_pushes p no_push) none in
    rw (e, nothing) refl

at_same : (sums : List Push) (n : ℕ) (q : Push) → n < length sums → slice_index_or (slice_set sums n q) n no_push ≡ q
at_same sums n q room = rw get_or-set_same refl

-- a list of sums of which one has a push more
set_more : (f : ℕ → Push) (pair : ℕ) (sums new : List Push) (n t : ℕ) (p : Push) → n < length sums
    → new ≡ slice_set sums n (sum_of_pushes (slice_index_or sums n no_push) p) → (n ≡ t → f pair ≡ p) → (n ≢ t → f pair ≡ no_push)
    → IsMore f (pair ∷ []) (slice_index_or sums t no_push) (slice_index_or new t no_push)
set_more f pair sums new n t p room e its none =
    elim (cases_eq n t) [
      | inl same ↦
          let at_n : slice_index_or new n no_push ≡ sum_of_pushes (slice_index_or sums n no_push) p =
          ap (λ (l : List Push). slice_index_or l n no_push) e
          ∙ at_same sums n (sum_of_pushes (slice_index_or sums n no_push) p) room in
          let at_t = subst (λ k. slice_index_or new k no_push ≡ sum_of_pushes (slice_index_or sums k no_push) p) same at_n in
          more_of_one f pair (slice_index_or sums t no_push) (slice_index_or new t no_push)
          (at_t ∙ ap (sum_of_pushes (slice_index_or sums t no_push)) (sym (its same)))
      | inr other ↦
          let turned : t ≢ n = omega (arith, other) in
          more_of_other f pair (slice_index_or sums t no_push) (slice_index_or new t no_push) (rw (e, get_or-set_other) refl)
          (none other)
    ]

chosen : (n t : ℕ) → n ≡ t → (n == t) ≡ true
chosen n t e = grind (arith, nat_tests)

not_chosen : (n t : ℕ) → n ≢ t → (n == t) ≡ false
not_chosen n t e = grind (arith, nat_tests)

-- what the code does of one pair
pub pushes_of_one : (u : Scale) (a b : List Place) (pair : ℕ) (p : Push) (old new : ForceSums)
    → push u (place_at b (second_of pair)) (place_at a (first_of pair)) ≡ opposite_push p → length old.first ≡ 64 → length old.second ≡ 64
    → first_of pair < 64 → p ≡ push u (place_at a (first_of pair)) (place_at b (second_of pair))
    → new.first ≡ slice_set old.first (first_of pair) (sum_of_pushes (slice_index_or old.first (first_of pair) no_push) p)
    → new.second
    ≡ slice_set old.second (second_of pair) (sum_of_pushes (slice_index_or old.second (second_of pair) no_push) (opposite_push p))
    → HavePushes u a b (pair ∷ []) old new
pushes_of_one u a b pair p old new back first_room second_room within value first second =
    record {
      first = λ t h.
          set_more (push_on_first u a b t) pair old.first new.first (first_of pair) t p (omega (arith, first_room, within)) first
          (λ same. rw (chosen (first_of pair) t same) (sym value)) (λ other. rw (not_chosen (first_of pair) t other) refl);
      second = λ s h.
          set_more (push_on_second u a b s) pair old.second new.second (second_of pair) s (opposite_push p)
          (omega (arith, second_room)) second
          (λ same. rw (chosen (second_of pair) s same) back) (λ other. rw (not_chosen (second_of pair) s other) refl);
      firsts = ap (λ (l : List Push). length l) first ∙ length_set old.first _ _;
      seconds = ap (λ (l : List Push). length l) second ∙ length_set old.second _ _;
    }

-- one pair of a list more
pub pushes_next : (u : Scale) (a b : List Place) (pairs : List ℕ) (i pair : ℕ) (old mid new : ForceSums)
    → HavePushes u a b (take i pairs) old mid → HavePushes u a b (pair ∷ []) mid new → i < length pairs
    → pair ≡ slice_index_or pairs i 0 → HavePushes u a b (take (i + 1) pairs) old new
pushes_next u a b pairs i pair old mid new before one within its =
    let more : take (i + 1) pairs ≡ take i pairs ++ pair ∷ [] =
    rw add-one (take-suc pairs i 0 within) ∙ ap (λ q. take i pairs ++ q ∷ []) (sym its) in
    subst (λ l. HavePushes u a b l old new) (sym more) (pushes_after u a b (take i pairs) (pair ∷ []) old mid new before one)

-- eight pairs more
pub pushes_eight : (u : Scale) (a b : List Place) (pairs : List ℕ) (at : ℕ) (old mid new : ForceSums)
    → HavePushes u a b (take at pairs) old mid → HavePushes u a b (take 8 (drop at pairs)) mid new
    → HavePushes u a b (take (at + 8) pairs) old new
pushes_eight u a b pairs at old mid new before eight =
    subst (λ l. HavePushes u a b l old new) (sym (take-add at 8 pairs))
    (pushes_after u a b (take at pairs) (take 8 (drop at pairs)) old mid new before eight)

-- what is added is no longer to be added
pub more_total : (f : ℕ → Push) (pairs : List ℕ) (n : ℕ) (old new : Push) → IsMore f (take n pairs) old new
    → total f (drop n pairs) new ≡ total f pairs old
more_total f pairs n old new more =
    ap (sum_of_pushes new) (sym (whole_sum f (drop n pairs)))
    ∙ sym (sums_joined new no_push (sum_of_pairs f (drop n pairs)))
    ∙ ap (λ p. sum_of_pushes p (sum_of_pairs f (drop n pairs))) more
    ∙ sums_joined old (sum_of_pairs f (take n pairs)) (sum_of_pairs f (drop n pairs))
    ∙ ap (sum_of_pushes old) (sym (sum_appended f (take n pairs) (drop n pairs)) ∙ ap (sum_of_pairs f) (take-append-drop n pairs))

pub totals_kept : (u : Scale) (a b : List Place) (pairs after : List ℕ) (n : ℕ) (old new : ForceSums)
    → HavePushes u a b (take n pairs) old new → after ≡ drop n pairs
    → HaveTotals u a b (record { pairs = pairs; sums = old }) (record { pairs = after; sums = new })
totals_kept u a b pairs after n old new more e = record {
  first = λ t h. rw e (more_total (push_on_first u a b t) pairs n _ _ (more.first t h));
  second = λ s h. rw e (more_total (push_on_second u a b s) pairs n _ _ (more.second s h));
  firsts = more.firsts;
  seconds = more.seconds;
}

-- the push of a lane
pub lane_push : (x y z : List ℕ) (v : Eight) (k : ℕ) (p : Push) → x ≡ v.x → y ≡ v.y → z ≡ v.z → IsPush v k p
    → (let q : Push = record { x = slice_index x k; y = slice_index y k; z = slice_index z k } in q ≡ p)
lane_push x y z v k p ex ey ez is =
    same_push _ p (ap (λ (l : List ℕ). slice_index l k) ex ∙ is.x) (ap (λ (l : List ℕ). slice_index l k) ey ∙ is.y)
    (ap (λ (l : List ℕ). slice_index l k) ez ∙ is.z)
