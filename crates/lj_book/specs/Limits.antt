-- The capacity of a book.
use Rattle.std.specs.Prelude.{◌≡◌, refl}
use Rattle.lj_book.specs.declared.book_entry.TheConstants.{MAX_ENTRIES}

-- a book has at most 1,024 entries
most_entries : MAX_ENTRIES ≡ 1024
most_entries = refl
