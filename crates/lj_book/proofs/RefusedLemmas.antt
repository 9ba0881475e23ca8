-- Why a box that has left stays refused.
use Rattle.std.proofs.Common.{◌≡◌, ◌≢◌, ℕ, zero, suc, ◌<◌, ◌≤◌, Bool, true, false, Option, Some, None, cond, nat_eq, refl, sym, ap, subst, ◌∙◌, inl, inr, arith}
use Rattle.std.proofs.lemmas.Bool.{cases_eq}
use Rattle.lj_book.specs.Book.{BookOf, BookEntry, Out, Puts, entry_at, slot_left, user_of_task}
use Rattle.lj_book.specs.Boxes.{AreOlder, BoxBook, GivesBox, IsBelow, IsOut, LentTask, Numbered, Slip, WithdrawsBox, is_slot_of, slip_of}
use Rattle.lj_book.specs.Refused.{Changes, Posting, Taking, Giving, Handing_back, Fetching, Withdrawing, Stocking, HasLeft, Runs, number_at}

-- no number stands there
none_there : (slot : Option ℕ) (number : ℕ) → slot ≡ None → slot ≢ Some number
none_there slot number none some = let e : None ≡ Some number = sym none ∙ some in cc

-- where a slot changes, and its number is not the one, the one has still left
module _ (old new : BoxBook) (key : ℕ) (slot : Option (BookEntry Numbered Slip)) (puts : Puts old.inner new.inner key slot)
    (grows : old.inner.posted ≤ new.inner.posted) where
  pub left_put : (lent : LentTask) → HasLeft old lent → (lent.key ≡ key → number_at slot ≢ Some lent.number) → HasLeft new lent
  left_put lent left other = record {
    number = omega (arith, left.number, grows);
    gone = elim (cases_eq lent.key key) [
      | inl same ↦ λ some. other same (sym (ap number_at (ap (entry_at new.inner) same ∙ puts.changed)) ∙ some)
      | inr apart ↦ λ some. left.gone (sym (ap number_at (puts.others lent.key apart)) ∙ some)
    ];
  }

-- what was there had another number
was_other : (old : BoxBook) (lent : LentTask) (key number : ℕ) → HasLeft old lent → number_at (entry_at old.inner key) ≡ Some number
    → lent.key ≡ key → Some number ≢ Some lent.number
was_other old lent key number left there same some =
    left.gone (ap (λ k. number_at (entry_at old.inner k)) same ∙ there ∙ some)

-- a slot after a withdrawal has no number that it had not before
left_slot : (mine : Option (BookEntry Numbered Slip) → Bool) (slot : Option (BookEntry Numbered Slip)) (passes : Bool) (number : ℕ)
    → number_at slot ≢ Some number → number_at (cond passes None slot) ≢ Some number
left_slot mine slot true number apart some = none_there None number refl some
left_slot mine slot false number apart some = apart some

-- each call keeps that a box has left
pub change_keeps : (old new : BoxBook) (lent : LentTask) → Changes old new → HasLeft old lent → HasLeft new lent
change_keeps old new lent (Posting work key p) left =
    left_put old new key _ p.posts.puts (omega (arith, p.posts.posted)) lent left
    (λ same some. let e : old.inner.posted ≡ lent.number = cc in omega (arith, left.number, e))
change_keeps old new lent (Taking its t) left =
    left_put old new its.key _ t.takes.puts (omega (arith, t.takes.counts.posted)) lent left
    (was_other old lent its.key its.number left (ap number_at t.takes.was))
change_keeps old new lent (Giving its g) left =
    left_put old new its.key _ g.gives.puts (omega (arith, g.gives.posted)) lent left (λ same. none_there None lent.number refl)
change_keeps old new lent (Handing_back its h) left =
    left_put old new its.key _ h.hands_back.puts (omega (arith, h.hands_back.counts.posted)) lent left
    (was_other old lent its.key its.number left (ap number_at h.hands_back.was))
change_keeps old new lent (Fetching work key f) left =
    left_put old new key None f.fetches.puts (omega (arith, f.fetches.posted)) lent left (λ same. none_there None lent.number refl)
change_keeps old new lent (Withdrawing user w) left = record {
  number = omega (arith, left.number, w.withdraws.posted);
  gone = λ some. left_slot (is_slot_of user) (entry_at old.inner lent.key) (is_slot_of user (entry_at old.inner lent.key)) lent.number
      left.gone (sym (ap number_at (w.withdraws.slots lent.key)) ∙ some);
}
change_keeps old new lent (Stocking same) left = record {
  number = omega (arith, left.number, ap (λ (inner : BookOf Numbered Slip). inner.posted) same);
  gone = λ some. left.gone (sym (ap (λ inner. number_at (entry_at inner lent.key)) same) ∙ some);
}

-- so do any number of calls
pub run_keeps : (calls : ℕ) (old new : BoxBook) (lent : LentTask) → Runs calls old new → HasLeft old lent → HasLeft new lent
run_keeps zero old new lent same left = subst (λ book. HasLeft book lent) (sym same) left
run_keeps (suc calls) old new lent run left = run_keeps calls run.0 new lent run.2 (change_keeps old run.0 lent run.1 left)

-- what is out has a number below the count of posts
out_below : (old : BoxBook) (lent : LentTask) → AreOlder old.inner → IsOut old lent → lent.number < old.inner.posted
out_below old lent older out = subst (IsBelow old.inner.posted) out (older lent.key)

-- a user is that user
same_user : (user : ℕ) → nat_eq user user ≡ true
same_user user = grind arith

pub withdrawn_left : (old new : BoxBook) (lent : LentTask) → AreOlder old.inner → IsOut old lent → WithdrawsBox (user_of_task lent.work) old new
    → HasLeft new lent
withdrawn_left old new lent older out w = record {
  number = omega (arith, out_below old lent older out, w.withdraws.posted);
  gone = none_there _ lent.number (ap number_at (w.withdraws.slots lent.key)
      ∙ ap (λ slot. number_at (slot_left (is_slot_of (user_of_task lent.work)) slot)) out
      ∙ ap (λ passes. number_at (cond passes None (Some (Out (slip_of lent))))) (same_user (user_of_task lent.work)));
}

pub given_left : (old new : BoxBook) (lent : LentTask) → AreOlder old.inner → GivesBox old new lent → HasLeft new lent
given_left old new lent older g = record {
  number = omega (arith, out_below old lent older g.gives.was, g.gives.posted);
  gone = none_there _ lent.number (ap number_at g.gives.puts.changed);
}

pub left_refused : (book : BoxBook) (lent : LentTask) → HasLeft book lent → ¬ IsOut book lent
left_refused book lent left out = left.gone (ap number_at out)
