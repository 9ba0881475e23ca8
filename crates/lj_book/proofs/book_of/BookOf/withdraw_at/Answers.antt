use Rattle.std.proofs.Common.{◌≡◌, ◌∙◌, Bool, true, false, Option, Some, is_some, refl, sym, ap, arith}
use Rattle.lj_book.specs.Book.{BookEntry}
use Rattle.lj_book.specs.Boxes.{has_box_by}
use Rattle.lj_book.proofs.BookLemmas.{count_put, entries_put, one_if}
use Rattle.lj_book.proofs.book_of.BookOf.withdraw_at.Goals as goal

pub returns-in-Some-clause-boxes : goal.returns-in-Some-clause-boxes
returns-in-Some-clause-boxes g c =
    let test : Option (BookEntry g.row.P.Denot g.row.K.Denot) → Bool = has_box_by g.P.Keeps.boxed g.K.Keeps.boxed in
    let has : test (Some c.remove-was.result) ≡ true = sym c.into_box.ensures ∙ ap is_some c.in-Some.is in
    let counts = count_put c.args.self.now c.remove-was.new.self c.args.key _ _ c.remove-was.ensures.was
    c.remove-was.ensures.puts test refl in
    omega (arith, counts, ap one_if has, c.push_reserved.ensures.len)

pub returns-in_default-clause-boxes : goal.returns-in_default-clause-boxes
returns-in_default-clause-boxes g c =
    let test : Option (BookEntry g.row.P.Denot g.row.K.Denot) → Bool = has_box_by g.P.Keeps.boxed g.K.Keeps.boxed in
    let has : test (Some c.remove-was.result) ≡ false = sym c.into_box.ensures ∙ ap is_some c.in_default.is in
    let counts = count_put c.args.self.now c.remove-was.new.self c.args.key _ _ c.remove-was.ensures.was
    c.remove-was.ensures.puts test refl in
    omega (arith, counts, ap one_if has)

pub returns-in-Some-clause-stock : goal.returns-in-Some-clause-stock
returns-in-Some-clause-stock g c =
    let stand = entries_put c.args.self.now c.remove-was.new.self c.args.key _ _ c.remove-was.ensures.was c.remove-was.ensures.puts in
    omega (arith, stand, c.push_reserved.ensures.len)

pub returns-in_default-clause-stock : goal.returns-in_default-clause-stock
returns-in_default-clause-stock g c =
    let stand = entries_put c.args.self.now c.remove-was.new.self c.args.key _ _ c.remove-was.ensures.was c.remove-was.ensures.puts in
    omega (arith, stand)
