-- Streams worked out by computation: a stream given as lines with their bodies, and the replies to it.
use Rattle.std.specs.Prelude.{◌≡◌, ℕ, zero, suc, ◌+◌, ◌<◌, ◌==◌, Bool, true, false, not, ◌&&◌, nat_lt}
use Rattle.std.specs.Prelude.{List, [], ◌∷◌, ◌++◌, length, map, take, drop, if◌then◌else◌, refl}
use Rattle.std.specs.List.{list_any, concat, before_first, after_first}
use Rattle.std.specs.Fmt.{digits}
use Rattle.std.proofs.Common.{inl, inr, ap, sym, ◌∙◌, subst}
use Rattle.std.proofs.lemmas.Bool.{and_parts, ltb-true, eqb-true}
use Rattle.lj_fixed.specs.Decimal.{decimal_of, nano_of}
use Rattle.lj_fixed.specs.Millionths.{millionths}
use Rattle.lj_fixed.specs.Numbers.{number_of}
use Rattle.lj_table.specs.Entries.{push_entry, energy_entry}
use Rattle.lj_task.specs.Pushes.{push}
use Rattle.lj_step.specs.Motion.{force}
use Rattle.lj_base.specs.Words.{words_of}
use Rattle.lj_xyz.specs.Lines.{is_line_feed, lines_of}
use Rattle.lj_xyz.specs.Atoms as atoms
use Rattle.lj_xyz.specs.Reading.{head_in, behind_comment, next_row, rows_in, frame_in, reading}
use Rattle.lj_base.specs.Names.{name_of}
use Rattle.lj_quota.specs.declared.Quota.{Quota}
use Rattle.lj_session.specs.Users.{User, fresh_user}
use Rattle.lj_session.specs.Answers.{command_result}
use Rattle.lj_wire.specs.declared.item.Item.{Item}
use Rattle.lj_wire.specs.Items.{is_ending}
use Rattle.lj_wire.specs.declared.line_limits.TheConstants.{LONG_LINE_BYTES, MAX_ITEMS}
use Rattle.lj_wire.specs.Displacements.{displacement_of}
use Rattle.lj_wire.specs.Commands.{body_len_announced, item_of, count_of, item_of_words, body_len}
use Rattle.lj_wire.specs.ReplyTexts.{text}
use Rattle.lj_wire.specs.Told.{item_text, texts, last_user}
use Rattle.lj_wire.specs.Streams.{IsLine, IsLineItem, IsPart, Splits, AreMarks, Dialogue}

-- the definitions that a worked stream unfolds
unfoldable pub computed : Unit {0}
unfolding digits decimal_of nano_of number_of millionths push_entry energy_entry push force lines_of words_of
    atoms.row_of_four atoms.row_of head_in behind_comment next_row rows_in frame_in reading name_of command_result
    displacement_of count_of item_of_words body_len text
computed = tt

-- a line, and the body after it
abbrev pub Piece : Type 0
Piece = List ℕ × List ℕ

-- the item of a piece
abbrev pub piece_item : Piece → Item
piece_item piece = item_of piece.0 piece.1

-- What follows the pieces: nothing, a line cut short, a line with its body cut short, or bytes that are not read any more.
pub data Rest : Type 0 where
  nothing : Rest
  open_line : List ℕ → Rest
  short : List ℕ → List ℕ → Rest
  unread : List ℕ → Rest

-- the bytes of a rest
abbrev pub rest_bytes : Rest → List ℕ
rest_bytes nothing = []
rest_bytes (open_line line) = line
rest_bytes (short line body) = line ++ 10 ∷ body
rest_bytes (unread bytes) = bytes

-- the bytes of pieces and a rest
abbrev pub stream_of : List Piece → List ℕ → List ℕ
stream_of [] rest = rest
stream_of (piece ∷ pieces) rest = (piece.0 ++ 10 ∷ piece.1) ++ stream_of pieces rest

-- the items of pieces
abbrev pub items_of : List Piece → List Item
items_of pieces = map piece_item pieces

-- a test for a line
abbrev pub is_line : List ℕ → Bool
is_line line = not (list_any is_line_feed line) && nat_lt (length line) LONG_LINE_BYTES

-- a test for a line with the body that it announces
abbrev pub is_piece : Piece → Bool
is_piece piece = is_line piece.0 && length piece.1 == body_len_announced piece.0

-- a test for less than an item
abbrev pub is_part : Rest → Bool
is_part nothing = true
is_part (open_line line) = is_line line
is_part (short line body) = is_line line && nat_lt (length body) (body_len_announced line)
is_part (unread bytes) = false

-- no piece follows
abbrev pub is_last : List Piece → Bool
is_last [] = true
is_last (piece ∷ pieces) = false

-- the pieces are items from number n on; less than an item follows them, or anything after one that ends the connection
abbrev pub are_pieces : ℕ → List Piece → Rest → Bool
are_pieces n [] rest = nat_lt n MAX_ITEMS && is_part rest
are_pieces n (piece ∷ pieces) rest =
    nat_lt n MAX_ITEMS && is_piece piece
    && (if is_ending (piece_item piece) then is_last pieces else are_pieces (n + 1) pieces rest)

IsLine-from_test : (line : List ℕ) → is_line line ≡ true → IsLine line
IsLine-from_test line h =
    let p = and_parts (not (list_any is_line_feed line)) (nat_lt (length line) LONG_LINE_BYTES) h in
    (not-true (list_any is_line_feed line) p.0, ltb-true (length line) LONG_LINE_BYTES p.1)
  where
    not-true : (b : Bool) → not b ≡ true → b ≡ false
    not-true true e = cc
    not-true false e = refl

IsLineItem-from_test : (piece : Piece) → is_piece piece ≡ true → IsLineItem (piece.0 ++ 10 ∷ piece.1) (piece_item piece)
IsLineItem-from_test piece h =
    let p = and_parts (is_line piece.0) (length piece.1 == body_len_announced piece.0) h in
    record {
      line = piece.0;
      body = piece.1;
      whole = refl;
      is_line = IsLine-from_test piece.0 p.0;
      announces = eqb-true (length piece.1) (body_len_announced piece.0) p.1;
      means = refl;
    }

IsPart-from_test : (n : ℕ) (rest : Rest) → n < MAX_ITEMS → is_part rest ≡ true → IsPart n (rest_bytes rest)
IsPart-from_test n nothing below h = (below, inl (refl, ltb-true 0 LONG_LINE_BYTES refl))
IsPart-from_test n (open_line line) below h = (below, inl (IsLine-from_test line h))
IsPart-from_test n (short line body) below h =
    let p = and_parts (is_line line) (nat_lt (length body) (body_len_announced line)) h in (
      below,
      inr (record {
        line = line;
        body = body;
        whole = refl;
        is_line = IsLine-from_test line p.0;
        announces = ltb-true (length body) (body_len_announced line) p.1;
      }),
    )
IsPart-from_test n (unread bytes) below h = cc

last_piece : (pieces : List Piece) (rest : List ℕ) → is_last pieces ≡ true
    → (items_of pieces ≡ []) × (stream_of pieces rest ≡ rest)
last_piece [] rest h = (refl, refl)
last_piece (piece ∷ pieces) rest h = cc

chosen : (b test other : Bool) → b ≡ true → (if b then test else other) ≡ true → test ≡ true
chosen true test other e h = h
chosen false test other e h = cc

not_chosen : (b test other : Bool) → b ≡ false → (if b then test else other) ≡ true → other ≡ true
not_chosen true test other e h = cc
not_chosen false test other e h = h

pub Splits-from_test : (n : ℕ) (pieces : List Piece) (rest : Rest) → are_pieces n pieces rest ≡ true
    → Splits n (stream_of pieces (rest_bytes rest)) (items_of pieces) (rest_bytes rest)
Splits-from_test n [] rest h =
    let p = and_parts (nat_lt n MAX_ITEMS) (is_part rest) h in
    (refl, IsPart-from_test n rest (ltb-true n MAX_ITEMS p.0) p.1)
Splits-from_test n (piece ∷ pieces) rest h =
    let ending = is_ending (piece_item piece) in
    let next = are_pieces (n + 1) pieces rest in
    let p = and_parts (nat_lt n MAX_ITEMS && is_piece piece) (if ending then is_last pieces else next) h in
    let q = and_parts (nat_lt n MAX_ITEMS) (is_piece piece) p.0 in (
      piece.0 ++ 10 ∷ piece.1,
      stream_of pieces (rest_bytes rest),
      refl,
      inl (ltb-true n MAX_ITEMS q.0, inl (IsLineItem-from_test piece q.1)),
      (λ e. last_piece pieces (rest_bytes rest) (chosen ending (is_last pieces) next e p.1)),
      (λ e. Splits-from_test (n + 1) pieces rest (not_chosen ending (is_last pieces) next e p.1)),
    )

-- marks for these items, none of them set
abbrev pub unset : List Item → List Bool
unset items = map (λ item. false) items

texts-unset : (user : User) (items : List Item) → texts user items (unset items) ≡ texts user items []
texts-unset user [] = refl
texts-unset user (item ∷ items) =
    let next = item_text user item false in ap (λ others. next.0 ∷ others) (texts-unset next.1 items)

AreMarks-unset : (user : User) (items : List Item) → AreMarks (unset items) (texts user items (unset items))
AreMarks-unset user [] = tt
AreMarks-unset user (item ∷ items) = ((λ e. cc), AreMarks-unset (item_text user item false).1 items)

-- a quota by its numbers of sessions, atoms and saved simulations
abbrev pub quota : ℕ → ℕ → ℕ → Quota
quota sessions atoms branches = record { sessions = sessions; atoms = atoms; branches = branches }

-- what is written in reply to these bytes from a new user with this quota
abbrev pub IsWritten : Quota → List ℕ → List ℕ → Type 0
IsWritten quota bytes written = (next : User) × Dialogue (fresh_user quota) bytes written next

-- The first n items of a stream, as lines with the bodies that they announce.
abbrev pub cut : ℕ → List ℕ → List Piece
cut zero bytes = []
cut (suc n) bytes =
    let line = before_first is_line_feed bytes in
    let behind = after_first is_line_feed bytes in
    (line, take (body_len_announced line) behind) ∷ cut n (drop (body_len_announced line) behind)

-- the stream is cut into `count` items and a rest; the replies to them follow by computation
pub played : (allowed : Quota) (count : ℕ) (rest : Rest) (bytes written : List ℕ)
    → bytes ≡ stream_of (cut count bytes) (rest_bytes rest) → are_pieces 0 (cut count bytes) rest ≡ true
    → written ≡ concat (texts (fresh_user allowed) (items_of (cut count bytes)) []) → IsWritten allowed bytes written
played allowed count rest bytes written whole test is_texts =
    let pieces = cut count bytes in
    let items = items_of pieces in (
      last_user (fresh_user allowed) items (unset items),
      record {
        items = items;
        rest = rest_bytes rest;
        marks = unset items;
        splits = subst (λ x. Splits 0 x items (rest_bytes rest)) (sym whole) (Splits-from_test 0 pieces rest test);
        are_marks = AreMarks-unset (fresh_user allowed) items;
        written_is = is_texts ∙ ap concat (sym (texts-unset (fresh_user allowed) items));
        next_is = refl;
      },
    )
