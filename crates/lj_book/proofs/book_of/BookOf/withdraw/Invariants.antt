use Rattle.std.proofs.Common.{◌≡◌, ◌≤◌, ◌+◌, length, vec_len}
use Rattle.std.specs.Vec.{vec_capacity}
use Rattle.lj_book.specs.Book.{RemovesBelow, entry_count, is_of_by}
use Rattle.lj_book.specs.Boxes.{box_count_by}
use Rattle.lj_book.proofs.book_of.BookOf.withdraw.Given as goal

abbrev pub invariant-loop-key : goal.invariant-loop-key
invariant-loop-key g l = record {
  done : RemovesBelow (is_of_by g.P.Keeps.whose g.K.Keeps.whose l.user) l.fn.self l.self l.key;
  covered : length l.fn.self.slots ≤ l.key-end;
  boxes : vec_len l.spare + box_count_by g.P.Keeps.boxed g.K.Keeps.boxed l.self.slots
      ≡ vec_len l.fn.spare + box_count_by g.P.Keeps.boxed g.K.Keeps.boxed l.fn.self.slots;
  stock : vec_len l.spare + entry_count l.self ≤ vec_len l.fn.spare + entry_count l.fn.self;
  grows : vec_len l.fn.spare ≤ vec_len l.spare;
  places : vec_capacity l.spare ≡ vec_capacity l.fn.spare;
}
