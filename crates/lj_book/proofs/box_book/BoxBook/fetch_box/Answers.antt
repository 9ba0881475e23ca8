use Rattle.std.proofs.Common.{ℕ, subst}
use Rattle.std.specs.Prelude.{IfSome, vec_len}
use Rattle.lj_book.specs.Picks.{IsPick}
use Rattle.lj_book.specs.Book.{IsDoneAt}
use Rattle.lj_book.specs.Boxes.{BoxBook, FetchesBox}
use Rattle.lj_book.proofs.BoxLemmas.{fetched, fetches_box, with_inner}
use Rattle.lj_book.proofs.box_book.BoxBook.fetch_box.Goals as goal

pub invariant_of-self : goal.invariant_of-self
invariant_of-self c =
    let s = c.self.inside in
    fetched s.inner c.fetch.new.self s.spare s.made c.args.user c.args.pick c.fetch.result c.fetch.ensures.some
    c.fetch.ensures.unchanged c.self.invariant

pub returns-clause-some : goal.returns-clause-some
returns-clause-some c =
    let s = c.self.inside in
    let book : BoxBook = record { inner = s.inner; spare = vec_len s.spare; made = s.made } in
    subst (λ (old : BoxBook). IfSome c.fetch.result (λ done. (key : ℕ) × FetchesBox old (with_inner c.fetch.new.self book) done key
    × IsPick (IsDoneAt c.args.user old.inner) c.args.pick key)) c.self.view_is
    (fetches_box book c.fetch.new.self c.args.user c.args.pick c.fetch.result c.fetch.ensures.some)
