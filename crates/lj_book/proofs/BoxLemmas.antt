-- What a change at one key does to a book of boxes.
use Rattle.std.proofs.Common.{◌≡◌, ℕ, ◌≤◌, Option, Some, None, refl, sym, subst, ◌∙◌, inl, inr, arith}
use Rattle.std.proofs.lemmas.Bool.{cases_eq}
use Rattle.std.specs.Prelude.{Vec, IfSome, IfNone}
use Rattle.std.specs.Global.{Global}
use Rattle.lj_task.specs.Task.{Task}
use Rattle.lj_book.specs.Picks.{IsPick}
use Rattle.lj_book.specs.Book.{BookOf, BookEntry, Open, Out, Done, Puts, Posts, LetsOut, Reopens, Finishes, Fetches, IsDoneAt, entry_at}
use Rattle.lj_book.specs.Boxes.{AreOlder, BoxBook, FetchesBox, GivesBox, HandsBackBox, IsBelow, IsBoxBook, IsOut, LentTask, Numbered, PostsBox, Slip, TakesBox, numbered_of, slip_of}
use Rattle.lj_book.proofs.BookLemmas.{entries_put}

-- a number that is below one is below a greater one
below_more : (slot : Option (BookEntry Numbered Slip)) (less more : ℕ) → less ≤ more → IsBelow less slot → IsBelow more slot
below_more None less more grows below = tt
below_more (Some (Open opened)) less more grows below = omega (arith, grows, below)
below_more (Some (Out kept)) less more grows below = omega (arith, grows, below)
below_more (Some (Done work)) less more grows below = tt

module _ (old new : BookOf Numbered Slip) (key : ℕ) (was slot : Option (BookEntry Numbered Slip)) (there : entry_at old key ≡ was)
    (puts : Puts old new key slot) where
  pub older_put : AreOlder old → old.posted ≤ new.posted → IsBelow new.posted slot → AreOlder new
  older_put older grows newest k = elim (cases_eq k key) [
    | inl same ↦ rw (same, puts.changed) newest
    | inr other ↦ rw (puts.others k other) (below_more (entry_at old k) old.posted new.posted grows (older k))
  ]

-- the book with these entries and counts
abbrev pub with_inner : BookOf Numbered Slip → BoxBook → BoxBook
with_inner inner book = record { inner = inner; spare = book.spare; made = book.made }

module _ (old : BoxBook) (new : BookOf Numbered Slip) where
  pub posts_box : (work : Task) (key : ℕ) → Posts old.inner new (record { number = old.inner.posted; work = work }) key
      → PostsBox old (with_inner new old) work key
  posts_box work key p = record {
    posts = p;
    spare = refl;
    made = refl;
    boxes = omega (arith, entries_put old.inner new key _ _ p.was p.puts);
  }

  pub takes_box : (lent : LentTask) → LetsOut old.inner new lent.key (numbered_of lent) (slip_of lent) → TakesBox old (with_inner new old) lent
  takes_box lent t = record {
    takes = t;
    spare = refl;
    made = refl;
    boxes = omega (arith, entries_put old.inner new lent.key _ _ t.was t.puts);
  }

  -- what is stored for a lent task that is out is its slip
  kept_is : (lent : LentTask) (kept : Slip) → IsOut old lent → entry_at old.inner lent.key ≡ Some (Out kept) → kept ≡ slip_of lent
  kept_is lent kept out was = let same : Some (Out kept) ≡ Some (Out (slip_of lent)) = sym was ∙ out in cc

  pub hands_back_box : (lent : LentTask) (kept : Slip) → IsOut old lent → Reopens old.inner new lent.key kept (numbered_of lent)
      → HandsBackBox old (with_inner new old) lent
  hands_back_box lent kept out h = record {
    hands_back = subst (λ slip. Reopens old.inner new lent.key slip (numbered_of lent)) (kept_is lent kept out h.was) h;
    spare = refl;
    made = refl;
    boxes = omega (arith, entries_put old.inner new lent.key _ _ h.was h.puts);
  }

  pub gives_box : (lent : LentTask) (kept : Slip) → IsOut old lent → Finishes old.inner new lent.key kept lent.work
      → GivesBox old (with_inner new old) lent
  gives_box lent kept out g = record {
    gives = subst (λ slip. Finishes old.inner new lent.key slip lent.work) (kept_is lent kept out g.was) g;
    spare = refl;
    made = refl;
    boxes = omega (arith, entries_put old.inner new lent.key _ _ g.was g.puts);
  }

  pub fetches_box : (user pick : ℕ) (result : Option Task)
      → IfSome result (λ done. (key : ℕ) × Fetches old.inner new done key × IsPick (IsDoneAt user old.inner) pick key)
      → IfSome result (λ done. (key : ℕ) × FetchesBox old (with_inner new old) done key × IsPick (IsDoneAt user old.inner) pick key)
  fetches_box user pick None f = tt
  fetches_box user pick (Some done) f = (
    f.0,
    record {
      fetches = f.1;
      spare = refl;
      made = refl;
      boxes = omega (arith, entries_put old.inner new f.0 _ _ f.1.was f.1.puts);
    },
    f.2,
  )

-- a book of boxes from which a result was fetched, if there was one
pub fetched : (old new : BookOf Numbered Slip) (spare : Vec Task Global) (made user pick : ℕ) (result : Option Task)
    → IfSome result (λ done. (key : ℕ) × Fetches old new done key × IsPick (IsDoneAt user old) pick key)
    → IfNone result (new ≡ old) → IsBoxBook old spare made → IsBoxBook new spare made
fetched old new spare made user pick None f same kept = subst (λ h. IsBoxBook h spare made) (sym same) kept
fetched old new spare made user pick (Some done) f same kept = record {
  few = omega (arith, kept.few, entries_put old new f.0 _ _ f.1.was f.1.puts);
  places = kept.places;
  older = older_put old new f.0 _ _ f.1.was f.1.puts kept.older (omega (arith, f.1.posted)) tt;
}
