-- Each stream has a splitting into items and a rest.
use Rattle.std.proofs.Common.{◌≡◌, ℕ, zero, suc, ◌+◌, ◌<◌, ◌≤◌, Bool, true, false, ◌||◌, List, [], ◌∷◌, ◌++◌, length}
use Rattle.std.proofs.Common.{take, drop, ◌⊎◌, inl, inr, refl, sym, ◌∙◌, ap, arith}
use Rattle.std.specs.List.{list_any}
use Rattle.std.proofs.lemmas.Bool.{cases_lt, eqb-true}
use Rattle.std.proofs.lemmas.List.{append_assoc, append-nil, length-append, take-append-drop, length-take-le}
use Rattle.std.proofs.lemmas.List.Folds.{list_any-append}
use Rattle.lj_xyz.specs.Lines.{is_line_feed}
use Rattle.lj_wire.specs.declared.item.Fault.TheVariants.{Long, Enough}
use Rattle.lj_wire.specs.declared.item.Item.{Item}
use Rattle.lj_wire.specs.declared.item.Item.TheVariants.{Last}
use Rattle.lj_wire.specs.Items.{is_ending}
use Rattle.lj_wire.specs.Commands.{body_len_announced, item_of}
use Rattle.lj_wire.specs.declared.line_limits.TheConstants.{MAX_ITEMS}
use Rattle.lj_wire.specs.Streams.{LacksLineFeed, IsLineItem, IsLongItem, IsItem, Splits}

abbrev Split : ℕ → List ℕ → Type 0
Split n bytes = (items : List Item) × (rest : List ℕ) × Splits n bytes items rest

first_false : (a b : Bool) → (a || b) ≡ false → a ≡ false
first_false true b e = cc
first_false false b e = refl

take_lacks : (k : ℕ) (bytes : List ℕ) → LacksLineFeed bytes → LacksLineFeed (take k bytes)
take_lacks k bytes h =
    first_false (list_any is_line_feed (take k bytes)) (list_any is_line_feed (drop k bytes))
    (sym (list_any-append is_line_feed (take k bytes) (drop k bytes))
    ∙ ap (list_any is_line_feed) (take-append-drop k bytes) ∙ h)

-- the first line and what stands after its line feed
record FirstLine (bytes : List ℕ) : Type 0 where
  line : List ℕ
  behind : List ℕ
  whole : bytes ≡ line ++ 10 ∷ behind
  lacks : LacksLineFeed line

first_line : (bytes : List ℕ) → LacksLineFeed bytes ⊎ FirstLine bytes
first_line [] = inl refl
first_line (byte ∷ bytes) = by_test (is_line_feed byte) refl (first_line bytes)
  where
    by_test : (test : Bool) → is_line_feed byte ≡ test → LacksLineFeed bytes ⊎ FirstLine bytes
        → LacksLineFeed (byte ∷ bytes) ⊎ FirstLine (byte ∷ bytes)
    by_test true e next =
        inr (record { line = []; behind = bytes; whole = ap (λ b. b ∷ bytes) (eqb-true byte 10 e); lacks = refl })
    by_test false e (inl none) = inl (rw e none)
    by_test false e (inr f) = inr (record {
      line = byte ∷ f.line;
      behind = f.behind;
      whole = ap (λ bs. byte ∷ bs) f.whole;
      lacks = rw e f.lacks;
    })

-- an item, and a splitting of what stands after it
onward : (n : ℕ) (bytes front behind : List ℕ) (item : Item) → bytes ≡ front ++ behind → IsItem n front item
    → Split (n + 1) behind → Split n bytes
onward n bytes front behind item e i next = by_end (is_ending item) refl
  where
    by_end : (end : Bool) → is_ending item ≡ end → Split n bytes
    by_end true f = (
      item ∷ [],
      behind,
      (
        front,
        behind,
        e,
        i,
        (λ h. (refl, refl)),
        (λ h. let no_way : true ≡ false = sym f ∙ h in cc),
      ),
    )
    by_end false f = (
      item ∷ next.0,
      next.1,
      (
        front,
        behind,
        e,
        i,
        (λ h. let no_way : true ≡ false = sym h ∙ f in cc),
        (λ h. next.2),
      ),
    )

-- an item that ends the connection
ended_by : (n : ℕ) (bytes front behind : List ℕ) (item : Item) → bytes ≡ front ++ behind → IsItem n front item
    → is_ending item ≡ true → Split n bytes
ended_by n bytes front behind item e i f =
    (item ∷ [], behind, (front, behind, e, i, (λ h. (refl, refl)), (λ h. let no_way : true ≡ false = sym f ∙ h in cc)))

long_split : (n : ℕ) (bytes front behind : List ℕ) → n < MAX_ITEMS → bytes ≡ front ++ behind → LacksLineFeed front
    → 65536 ≤ length front → Split n bytes
long_split n bytes front behind below e h l =
    let cut = ap (λ x. x ++ behind) (sym (take-append-drop 65536 front))
    ∙ append_assoc (take 65536 front) (drop 65536 front) behind in
    let item : IsLongItem (take 65536 front) (Last Long) =
    record { one_line = take_lacks 65536 front h; long = length-take-le 65536 front l; means = refl } in
    ended_by n bytes (take 65536 front) (drop 65536 front ++ behind) (Last Long) (e ∙ cut) (inl (below, inr item)) refl

-- what stands after the first item is shorter than the stream
abbrev Shorter : ℕ → List ℕ → Type 0
Shorter n bytes = (behind : List ℕ) → length behind < length bytes → Split (n + 1) behind

line_split : (n : ℕ) (bytes : List ℕ) → n < MAX_ITEMS → (f : FirstLine bytes) → length f.line < 65536
    → Shorter n bytes → Split n bytes
line_split n bytes below f l shorter = by_length (cases_lt (length f.behind) (body_len_announced f.line))
  where
    by_length : (length f.behind < body_len_announced f.line) ⊎ (body_len_announced f.line ≤ length f.behind) → Split n bytes
    by_length (inl short) = (
      [],
      bytes,
      (
        refl,
        (
          below,
          inr (record {
            line = f.line;
            body = f.behind;
            whole = f.whole;
            is_line = (f.lacks, l);
            announces = short;
          }),
        ),
      ),
    )
    by_length (inr enough) =
        let body = take (body_len_announced f.line) f.behind in
        let behind = drop (body_len_announced f.line) f.behind in
        let cut = ap (λ x. f.line ++ 10 ∷ x) (sym (take-append-drop (body_len_announced f.line) f.behind))
        ∙ sym (append_assoc f.line (10 ∷ body) behind) in
        let item : IsLineItem (f.line ++ 10 ∷ body) (item_of f.line body) = record {
          line = f.line;
          body = body;
          whole = refl;
          is_line = (f.lacks, l);
          announces = length-take-le (body_len_announced f.line) f.behind enough;
          means = refl;
        } in
        let parts = length-append body behind in
        let all = length-append f.line (10 ∷ f.behind) in
        let same = ap length (take-append-drop (body_len_announced f.line) f.behind) in
        onward n bytes (f.line ++ 10 ∷ body) behind (item_of f.line body) (f.whole ∙ cut) (inl (below, inl item))
        (shorter behind (omega (arith, ap length f.whole, all, parts, same)))

stream_split : (n : ℕ) (bytes : List ℕ) → n < MAX_ITEMS → Shorter n bytes
    → LacksLineFeed bytes ⊎ FirstLine bytes → Split n bytes
stream_split n bytes below shorter (inl none) = by_length (cases_lt (length bytes) 65536)
  where
    by_length : (length bytes < 65536) ⊎ (65536 ≤ length bytes) → Split n bytes
    by_length (inl short) = ([], bytes, (refl, (below, inl (none, short))))
    by_length (inr long) = long_split n bytes bytes [] below (sym (append-nil bytes)) none long
stream_split n bytes below shorter (inr f) = by_length (cases_lt (length f.line) 65536)
  where
    by_length : (length f.line < 65536) ⊎ (65536 ≤ length f.line) → Split n bytes
    by_length (inl short) = line_split n bytes below f short shorter
    by_length (inr long) = long_split n bytes f.line (10 ∷ f.behind) below f.whole f.lacks long

split_from : (fuel n : ℕ) (bytes : List ℕ) → length bytes ≤ fuel → n ≤ MAX_ITEMS → Split n bytes
split_from zero n bytes few h = by_count (cases_lt n MAX_ITEMS)
  where
    by_count : (n < MAX_ITEMS) ⊎ (MAX_ITEMS ≤ n) → Split n bytes
    by_count (inl below) =
        stream_split n bytes below (λ behind shorter. absurd (omega (arith, shorter, few))) (first_line bytes)
    by_count (inr all) = ended_by n bytes [] bytes (Last Enough) refl (inr (omega (arith, all, h), refl, refl)) refl
split_from (suc fuel) n bytes few h =
    by_count (λ behind shorter below. split_from fuel (n + 1) behind (omega (arith, shorter, few))
    (omega (arith, below))) (cases_lt n MAX_ITEMS)
  where
    by_count : ((behind : List ℕ) → length behind < length bytes → n < MAX_ITEMS → Split (n + 1) behind)
        → (n < MAX_ITEMS) ⊎ (MAX_ITEMS ≤ n) → Split n bytes
    by_count next (inl below) =
        stream_split n bytes below (λ behind shorter. next behind shorter below) (first_line bytes)
    by_count next (inr all) =
        ended_by n bytes [] bytes (Last Enough) refl (inr (omega (arith, all, h), refl, refl)) refl

pub some_splitting : (bytes : List ℕ) → (items : List Item) × (rest : List ℕ) × Splits 0 bytes items rest
some_splitting bytes =
    let s = split_from (length bytes) 0 bytes (omega arith) (omega arith) in
    (s.0, s.1, s.2)
