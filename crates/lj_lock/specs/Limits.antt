-- For how many ends the book of a pool behind a lock has room.
use Rattle.std.specs.Prelude.{◌≡◌, ◌+◌, ◌-◌, ◌*◌, true, nat_le, refl}
use Rattle.lj_book.specs.declared.book_entry.TheConstants.{MAX_ENTRIES}
use Rattle.lj_end.specs.declared.pool.TheConstants.{MAX_AHEAD, MAX_ENDS, MAX_OWED}

-- a book has room for all ends but one while they await their next command, and for all that may be owed to the last
room_for_one_more : nat_le ((MAX_ENDS - 1) * MAX_AHEAD + MAX_OWED) MAX_ENTRIES ≡ true
room_for_one_more = refl
