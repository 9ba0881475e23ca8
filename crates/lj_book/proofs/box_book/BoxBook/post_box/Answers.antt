use Rattle.std.proofs.Common.{ℕ, ◌+◌, ◌<◌, ap, sym, subst, arith}
use Rattle.std.specs.Prelude.{vec_len}
use Rattle.lj_book.specs.Book.{entry_count, Posts}
use Rattle.lj_book.specs.Boxes.{BoxBook, Numbered, PostsBox, boxes}
use Rattle.lj_book.proofs.BookLemmas.{entries_put}
use Rattle.lj_book.proofs.BoxLemmas.{older_put, posts_box, with_inner}
use Rattle.lj_book.proofs.box_book.BoxBook.post_box.Goals as goal

pub invariant_of-self : goal.invariant_of-self
invariant_of-self c =
    let s = c.self.inside in
    let p = c.post.ensures.1 in
    let number = ap (λ (opened : Numbered). opened.number) c.new.ensures in
    let free : vec_len s.spare + entry_count s.inner < s.made =
    subst (λ (old : BoxBook). boxes old < old.made) (sym c.self.view_is) (c.has_room.ensures.0 c.if-not-has_room.false).1 in
    record {
      few = omega (arith, free, entries_put s.inner c.post.new.self c.post.ensures.0 _ _ p.was p.puts);
      places = c.self.invariant.places;
      older = older_put s.inner c.post.new.self c.post.ensures.0 _ _ p.was p.puts c.self.invariant.older
          (omega (arith, p.posted)) (omega (arith, p.posted, c.posted-number.ensures, number));
    }

pub returns-clause-posts : goal.returns-clause-posts
returns-clause-posts c =
    let s = c.self.inside in
    let book : BoxBook = record { inner = s.inner; spare = vec_len s.spare; made = s.made } in
    let posts : Posts s.inner c.post.new.self (record { number = s.inner.posted; work = c.args.task }) c.post.ensures.0 =
    subst (λ (n : ℕ). Posts s.inner c.post.new.self (record { number = n; work = c.args.task }) c.post.ensures.0)
    c.posted-number.ensures
    (subst (λ (opened : Numbered). Posts s.inner c.post.new.self opened c.post.ensures.0) c.new.ensures c.post.ensures.1) in
    subst (λ (old : BoxBook). (key : ℕ) × PostsBox old (with_inner c.post.new.self book) c.args.task key) c.self.view_is
    (c.post.ensures.0, posts_box book c.post.new.self c.args.task c.post.ensures.0 posts)
