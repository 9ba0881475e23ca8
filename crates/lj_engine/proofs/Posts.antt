-- Several tasks of an owner posted at once: which they are, and that the work goes on.
use Rattle.std.proofs.Common.{◌≡◌, ℕ, zero, suc, ◌+◌, ◌<◌, ◌≤◌, ◌≢◌, ◌⊎◌, true, false, nat_eq, List, [], ◌∷◌, ◌++◌, length, take, get_or, Some, inl, inr}
use Rattle.std.proofs.Common.{refl, sym, ap, ◌∙◌, subst, arith}
use Rattle.std.specs.List.{All}
use Rattle.std.specs.Prelude.{slice_set}
use Rattle.std.proofs.lemmas.Bool.{cases_lt, true≢false}
use Rattle.std.proofs.lemmas.Bool.Decides.{eqb_tells}
use Rattle.std.proofs.Math.Seq.{get_or-append_seam}
use Rattle.std.proofs.lemmas.List.{append-nil, append_assoc, length-take-le, take_more, get_or_default, get_or-take, get_or_append_left, get_or-set_other, get_or-set_same, take_all}
use Rattle.lj_base.specs.declared.names.Label.{Label}
use Rattle.lj_task.specs.Blank.{blank_task}
use Rattle.lj_task.specs.Task.{Task}
use Rattle.lj_session.specs.declared.tile_cursor.TileCursor.{TileCursor}
use Rattle.lj_session.specs.Cursors.{owner_posted_to}
use Rattle.lj_session.specs.Owner.{Owner, label_of, next_task_of, with_task_posted}
use Rattle.lj_engine.specs.Coming.{GoesOn, posts_coming}
use Rattle.lj_engine.specs.Gathering.{Gathers}
use Rattle.lj_engine.specs.Posting.{AreEnds, AreNext, after_posts}
use Rattle.lj_end.specs.Seen.{ArePosted, IsPosted, Seen}
use Rattle.lj_engine.proofs.Gathered.{Posting, posting}
use Rattle.lj_engine.proofs.Gathering.{next_label}
use Rattle.lj_engine.proofs.Going.{fewer_posts, goes_posted, goes_then, goes_unchanged}

-- the posts of an owner one after the other
pub after_more : (n : ℕ) (owner : Owner) → after_posts (n + 1) owner ≡ with_task_posted (after_posts n owner)
after_more n owner = let e : n + 1 ≡ suc n = omega arith in ap (λ m. after_posts m owner) e

-- one next task more
pub next_more : (owner : Owner) (tasks : List Task) (k : ℕ) (work : Task) → length tasks ≡ k → AreNext k tasks owner
    → next_task_of (after_posts k owner) ≡ Some work → AreNext (k + 1) (tasks ++ work ∷ []) owner
next_more owner tasks k work count before some j below = elim (cases_lt j k) [
  | inl less ↦ before j less ∙ ap (λ (x : Task). Some x)
      (sym (get_or_append_left tasks (work ∷ []) blank_task j (omega (arith, less, count))))
  | inr above ↦ let is : j ≡ length tasks = omega (arith, above, below, count) in
      ap (λ n. next_task_of (after_posts n owner)) (is ∙ count) ∙ some
      ∙ ap (λ (x : Task). Some x) (sym (ap (λ n. get_or (tasks ++ work ∷ []) n blank_task) is
      ∙ get_or-append_seam tasks work [] blank_task))
]

-- and one end more
pub ends_more : (owner : Owner) (cursor : TileCursor) (ends : List ℕ) (k to : ℕ) → k < length ends → AreEnds k ends cursor owner
    → after_posts (k + 1) owner ≡ owner_posted_to cursor to owner → AreEnds (k + 1) (slice_set ends k to) cursor owner
ends_more owner cursor ends k to inside before last j below = elim (cases_lt j k) [
  | inl less ↦ before j less ∙ ap (λ n. owner_posted_to cursor n owner)
      (sym (get_or-set_other ends k j to 0 (λ same. omega (arith, less, same))))
  | inr above ↦ let is : j ≡ k = omega (arith, above, below) in
      ap (λ n. after_posts (n + 1) owner) is ∙ last ∙ ap (λ n. owner_posted_to cursor n owner)
      (sym (ap (λ n. get_or (slice_set ends k to) n 0) is ∙ get_or-set_same ends k to 0 inside))
]

-- a next task is one of its owner's user
pub task_user : (owner : Owner) (owed : List Task) (t : Gathers owner owed) (work : Task) → next_task_of owner ≡ Some work
    → work.name.label.user ≡ owner.number
task_user owner owed t work some =
    let p : Posting owner owed t work = posting owner owed t work some in
    ap (λ (l : Label). l.user) (next_label p.session (label_of owner p.name) p.step p.is_open (t.gathered p.name p.session p.there)
    p.place p.next_place work p.task)

-- so many tasks posted: what was seen then
abbrev seen_then : List Task → ℕ → Seen → Seen
seen_then tasks n seen = record seen { owed = seen.owed ++ take n tasks }

module _ (owner : Owner) (before : Seen) (t : Gathers owner before.owed) (tasks : List Task) where
  record Goes (n : ℕ) (after : Seen) : Type 0 where
    goes : GoesOn owner before (after_posts n owner) after
    fewer : posts_coming (after_posts n owner) + n ≤ posts_coming owner
    number : (after_posts n owner).number ≡ owner.number

  goes_each : (n : ℕ) → n ≤ length tasks → AreNext n tasks owner → (after : Seen) → ArePosted (take n tasks) before after → Goes n after
  goes_each zero most next after posted = record {
    goes = goes_unchanged owner before after t (record { owed = posted.owed ∙ append-nil before.owed; expected = posted.expected; strays = posted.strays });
    fewer = omega arith;
    number = refl;
  }
  goes_each (suc n) most next after posted =
      let mid : Seen = record before { owed = before.owed ++ take n tasks } in
      let first : Goes n mid = goes_each n (omega (arith, most)) (λ k below. next k (omega (arith, below))) mid
      (record { owed = refl; expected = refl; strays = refl }) in
      let work : Task = get_or tasks n blank_task in
      let some : next_task_of (after_posts n owner) ≡ Some work = next n (omega arith) in
      let last : IsPosted work mid after = record {
        owed = posted.owed ∙ ap (λ l. before.owed ++ l) (one_more n (omega (arith, most)))
            ∙ sym (append_assoc before.owed (take n tasks) (work ∷ []));
        expected = posted.expected;
        strays = posted.strays;
      } in
      let less = fewer_posts (after_posts n owner) mid after first.goes.gathers work some in
      let goes = goes_posted (after_posts n owner) mid after first.goes.gathers work some last in
      let before_less = first.fewer in
      record {
        goes = goes_then first.goes goes;
        fewer = omega (arith, before_less, less);
        number = goes.number ∙ first.number;
      }
    where
      one_more : (n : ℕ) → n < length tasks → take (suc n) tasks ≡ take n tasks ++ get_or tasks n blank_task ∷ []
      one_more n inside =
          let e : n + 1 ≡ suc n = omega arith in
          subst (λ m. take m tasks ≡ take n tasks ++ get_or tasks n blank_task ∷ []) e (take_more tasks n blank_task inside)

  -- all next tasks are of the owner's user
  pub users_all : (n : ℕ) → n ≤ length tasks → AreNext n tasks owner
      → All (λ task. task.name.label.user ≡ owner.number) (take n tasks)
  users_all n most next k d inside =
      let below : k < n = omega (arith, inside, length-take-le n tasks most) in
      let front : Goes k (seen_then tasks k before) = goes_each k (omega (arith, below, most)) (λ j less. next j (omega (arith, less, below)))
      (seen_then tasks k before) (record { owed = refl; expected = refl; strays = refl }) in
      let read : get_or (take n tasks) k d ≡ get_or tasks k blank_task =
      get_or-take n tasks k d below ∙ get_or_default tasks k d blank_task (omega (arith, below, most)) in
      ap (λ (task : Task). task.name.label.user) read
      ∙ task_user (after_posts k owner) (seen_then tasks k before).owed front.goes.gathers (get_or tasks k blank_task) (next k below)
      ∙ front.number

-- numbers that are told equal are
eq_of : (n m : ℕ) → nat_eq n m ≡ true → n ≡ m
eq_of n m told = by (eqb_tells n m)
  where
    by : (nat_eq n m ≡ true) × (n ≡ m) ⊎ (nat_eq n m ≡ false) × (n ≢ m) → n ≡ m
    by (inl (t, is)) = is
    by (inr (t, differs)) = absurd (true≢false (sym told ∙ t))

-- n of the next tasks were posted; fewer are to be posted then, if those are all that were written, and some were
pub record PostsFront (owner : Owner) (before : Seen) (written n : ℕ) (next : Owner) (after : Seen) : Type 0 where
  pub goes : GoesOn owner before next after
  pub fewer : nat_eq n written ≡ true → written ≢ 0 → posts_coming next < posts_coming owner

-- the next tasks are handed to the pool
module _ (owner : Owner) (before : Seen) (t : Gathers owner before.owed) (tasks : List Task)
    (next : AreNext (length tasks) tasks owner) where
  pub posts_front : (n : ℕ) → n ≤ length tasks → (after : Seen) → ArePosted (take n tasks) before after
      → PostsFront owner before (length tasks) n (after_posts n owner) after
  posts_front n most after posted =
      let each = goes_each owner before t tasks n most (λ k below. next k (omega (arith, most, below))) after posted in
      let less = each.fewer in
      record {
        goes = each.goes;
        fewer = λ all some. let same = eq_of n (length tasks) all in omega (arith, less, same, some);
      }

  pub users_front : All (λ task. task.name.label.user ≡ owner.number) tasks
  users_front = subst (λ front. All (λ task. task.name.label.user ≡ owner.number) front) (take_all (length tasks) tasks (omega arith))
      (users_all owner before t tasks (length tasks) (omega arith) next)
