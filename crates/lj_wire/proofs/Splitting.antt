-- A stream has one splitting into items and a rest.
use Rattle.std.proofs.Common.{◌≡◌, ℕ, ◌+◌, ◌<◌, Bool, true, false, ◌||◌, List, [], ◌∷◌, ◌++◌, length, ◌⊎◌, inl, inr}
use Rattle.std.proofs.Common.{refl, sym, ◌∙◌, ap, subst, arith}
use Rattle.std.specs.List.{list_any}
use Rattle.std.proofs.lemmas.List.{append_assoc, length-append}
use Rattle.lj_xyz.specs.Lines.{is_line_feed}
use Rattle.lj_wire.specs.declared.item.Item.{Item}
use Rattle.lj_wire.specs.Items.{is_ending}
use Rattle.lj_wire.specs.Commands.{body_len_announced, item_of}
use Rattle.lj_wire.specs.Streams.{LacksLineFeed, IsLine, IsLineItem, IsLongItem, IsItem, IsOpenBody, IsPart, Splits}

tail_of : (byte : ℕ) (bytes : List ℕ) → LacksLineFeed (byte ∷ bytes) → LacksLineFeed bytes
tail_of byte bytes h = second (is_line_feed byte) (list_any is_line_feed bytes) h
  where
    second : (a b : Bool) → (a || b) ≡ false → b ≡ false
    second true b e = cc
    second false b e = e

-- a line feed is no part of bytes that lack one
no_feed : (bytes : List ℕ) → LacksLineFeed (10 ∷ bytes) → ⊥
no_feed bytes h = let e : true ≡ false = h in cc

-- where a line feed stands after a line, the line does not go on
pub no_feed_within : (line behind : List ℕ) → LacksLineFeed (line ++ 10 ∷ behind) → ⊥
no_feed_within [] behind h = no_feed behind h
no_feed_within (byte ∷ line) behind h = no_feed_within line behind (tail_of byte (line ++ 10 ∷ behind) h)

heads : (a b : ℕ) (xs ys : List ℕ) → a ∷ xs ≡ b ∷ ys → a ≡ b
heads a b xs ys e = cc

tails : (a b : ℕ) (xs ys : List ℕ) → a ∷ xs ≡ b ∷ ys → xs ≡ ys
tails a b xs ys e = cc

-- the first line feed ends the first line
pub same_line : (line other behind after : List ℕ) → LacksLineFeed line → LacksLineFeed other
    → line ++ 10 ∷ behind ≡ other ++ 10 ∷ after
    → (line ≡ other) × (behind ≡ after)
same_line [] [] behind after h k e = (refl, tails 10 10 behind after e)
same_line [] (b ∷ other) behind after h k e =
    absurd (no_feed other (subst (λ x. LacksLineFeed (x ∷ other)) (sym (heads 10 b behind (other ++ 10 ∷ after) e)) k))
same_line (a ∷ line) [] behind after h k e =
    absurd (no_feed line (subst (λ x. LacksLineFeed (x ∷ line)) (heads a 10 (line ++ 10 ∷ behind) after e) h))
same_line (a ∷ line) (b ∷ other) behind after h k e =
    let next =
    same_line line other behind after (tail_of a line h) (tail_of b other k)
    (tails a b (line ++ 10 ∷ behind) (other ++ 10 ∷ after) e) in
    let first = heads a b (line ++ 10 ∷ behind) (other ++ 10 ∷ after) e in
    (ap (λ x. x ∷ line) first ∙ ap (λ x. b ∷ x) next.0, next.1)

-- bytes that lack a line feed do not go past the first one
pub no_feed_beyond : (line behind long after : List ℕ) → line ++ 10 ∷ behind ≡ long ++ after → LacksLineFeed long
    → length line < length long → ⊥
no_feed_beyond line behind [] after e h l = omega (arith, l)
no_feed_beyond [] behind (b ∷ long) after e h l =
    no_feed long (subst (λ x. LacksLineFeed (x ∷ long)) (sym (heads 10 b behind (long ++ after) e)) h)
no_feed_beyond (a ∷ line) behind (b ∷ long) after e h l =
    no_feed_beyond line behind long after (tails a b (line ++ 10 ∷ behind) (long ++ after) e)
    (tail_of b long h) (omega (arith, l))

-- fronts of one length are one
pub same_front : (front other behind after : List ℕ) → length front ≡ length other → front ++ behind ≡ other ++ after
    → (front ≡ other) × (behind ≡ after)
same_front [] [] behind after l e = (refl, e)
same_front [] (b ∷ other) behind after l e = absurd (omega (arith, l))
same_front (a ∷ front) [] behind after l e = absurd (omega (arith, l))
same_front (a ∷ front) (b ∷ other) behind after l e =
    let next =
    same_front front other behind after (omega (arith, l)) (tails a b (front ++ behind) (other ++ after) e) in
    let first = heads a b (front ++ behind) (other ++ after) e in
    (ap (λ x. x ∷ front) first ∙ ap (λ x. b ∷ x) next.0, next.1)

-- the line of an item at the front, and what stands after its line feed
pub at_line : {bytes : List ℕ} {item : Item} (behind : List ℕ) (i : IsLineItem bytes item)
    → bytes ++ behind ≡ i.line ++ 10 ∷ (i.body ++ behind)
at_line behind i = ap (λ x. x ++ behind) i.whole ∙ append_assoc i.line (10 ∷ i.body) behind

line_line : (front other behind after : List ℕ) (item next : Item) → front ++ behind ≡ other ++ after
    → IsLineItem front item → IsLineItem other next
    → (behind ≡ after) × (item ≡ next)
line_line front other behind after item next e i j =
    let s = same_line i.line j.line (i.body ++ behind) (j.body ++ after) i.is_line.0 j.is_line.0
    (sym (at_line behind i) ∙ e ∙ at_line after j) in
    let b = same_front i.body j.body behind after (i.announces ∙ ap body_len_announced s.0 ∙ sym j.announces) s.1 in
    (b.1, i.means ∙ ap (λ x. item_of x i.body) s.0 ∙ ap (item_of j.line) b.0 ∙ sym j.means)

line_long : (front other behind after : List ℕ) (item next : Item) → front ++ behind ≡ other ++ after
    → IsLineItem front item → IsLongItem other next → ⊥
line_long front other behind after item next e i j =
    no_feed_beyond i.line (i.body ++ behind) other after (sym (at_line behind i) ∙ e) j.one_line
    (omega (arith, i.is_line.1, j.long))

long_long : (front other behind after : List ℕ) (item next : Item) → front ++ behind ≡ other ++ after
    → IsLongItem front item → IsLongItem other next
    → (behind ≡ after) × (item ≡ next)
long_long front other behind after item next e i j =
    ((same_front front other behind after (i.long ∙ sym j.long) e).1, i.means ∙ sym j.means)

-- the item at the front of bytes, and what stands after it, are one
pub same_item : (n : ℕ) (front other behind after : List ℕ) (item next : Item) → front ++ behind ≡ other ++ after
    → IsItem n front item → IsItem n other next
    → (behind ≡ after) × (item ≡ next)
same_item n front other behind after item next e (inl i) (inl j) = of_kinds i.1 j.1
  where
    of_kinds : IsLineItem front item ⊎ IsLongItem front item → IsLineItem other next ⊎ IsLongItem other next
        → (behind ≡ after) × (item ≡ next)
    of_kinds (inl a) (inl b) = line_line front other behind after item next e a b
    of_kinds (inl a) (inr b) = absurd (line_long front other behind after item next e a b)
    of_kinds (inr a) (inl b) = absurd (line_long other front after behind next item (sym e) b a)
    of_kinds (inr a) (inr b) = long_long front other behind after item next e a b
same_item n front other behind after item next e (inl i) (inr j) = absurd (omega (arith, i.0, j.0))
same_item n front other behind after item next e (inr i) (inl j) = absurd (omega (arith, i.0, j.0))
same_item n front other behind after item next e (inr i) (inr j) =
    (sym (ap (λ x. x ++ behind) i.1) ∙ e ∙ ap (λ x. x ++ after) j.1, i.2 ∙ sym j.2)

line_part : (front behind part : List ℕ) (item : Item) → front ++ behind ≡ part
    → IsLineItem front item → IsLine part → ⊥
line_part front behind part item e i h =
    no_feed_within i.line (i.body ++ behind) (subst LacksLineFeed (sym e ∙ at_line behind i) h.0)

line_body : (front behind part : List ℕ) (item : Item) → front ++ behind ≡ part
    → IsLineItem front item → IsOpenBody part → ⊥
line_body front behind part item e i o =
    let s = same_line i.line o.line (i.body ++ behind) o.body i.is_line.0 o.is_line.0
    (sym (at_line behind i) ∙ e ∙ o.whole) in
    omega (arith, length-append i.body behind, ap length s.1, i.announces, ap body_len_announced s.0, o.announces)

long_part : (front behind part : List ℕ) (item : Item) → front ++ behind ≡ part
    → IsLongItem front item → IsLine part → ⊥
long_part front behind part item e i h = omega (arith, length-append front behind, ap length e, i.long, h.1)

long_body : (front behind part : List ℕ) (item : Item) → front ++ behind ≡ part
    → IsLongItem front item → IsOpenBody part → ⊥
long_body front behind part item e i o =
    no_feed_beyond o.line o.body front behind (sym o.whole ∙ sym e) i.one_line (omega (arith, i.long, o.is_line.1))

-- what begins with an item is no part of one
pub no_part : (n : ℕ) (front behind part : List ℕ) (item : Item) → front ++ behind ≡ part
    → IsItem n front item → IsPart n part → ⊥
no_part n front behind part item e (inl i) p = of_kinds i.1 p.1
  where
    of_kinds : IsLineItem front item ⊎ IsLongItem front item → IsLine part ⊎ IsOpenBody part → ⊥
    of_kinds (inl a) (inl b) = line_part front behind part item e a b
    of_kinds (inl a) (inr b) = line_body front behind part item e a b
    of_kinds (inr a) (inl b) = long_part front behind part item e a b
    of_kinds (inr a) (inr b) = long_body front behind part item e a b
no_part n front behind part item e (inr i) p = omega (arith, i.0, p.0)

pub splits_once : (n : ℕ) (bytes : List ℕ) (items others : List Item) (rest remainder : List ℕ)
    → Splits n bytes items rest → Splits n bytes others remainder → (items ≡ others) × (rest ≡ remainder)
splits_once n bytes [] [] rest remainder a b = (refl, sym a.0 ∙ b.0)
splits_once n bytes [] (other ∷ others) rest remainder a b =
    absurd (no_part n b.0 b.1 rest other (sym b.2 ∙ a.0) b.3 a.1)
splits_once n bytes (item ∷ items) [] rest remainder a b =
    absurd (no_part n a.0 a.1 remainder item (sym a.2 ∙ b.0) a.3 b.1)
splits_once n bytes (item ∷ items) (other ∷ others) rest remainder a b =
    let s = same_item n a.0 b.0 a.1 b.1 item other (sym a.2 ∙ b.2) a.3 b.3 in
    behind_item (is_ending item) refl s (λ x y. splits_once (n + 1) a.1 items others rest remainder x y)
  where
    behind_item : (end : Bool) → is_ending item ≡ end → (a.1 ≡ b.1) × (item ≡ other)
        → (Splits (n + 1) a.1 items rest → Splits (n + 1) a.1 others remainder → (items ≡ others) × (rest ≡ remainder))
        → (item ∷ items ≡ other ∷ others) × (rest ≡ remainder)
    behind_item true e s onward =
        let x = a.4 e in
        let y = b.4 (sym (ap is_ending s.1) ∙ e) in
        (ap (λ i. i ∷ items) s.1 ∙ ap (λ is. other ∷ is) (x.0 ∙ sym y.0), sym x.1 ∙ s.0 ∙ y.1)
    behind_item false e s onward =
        let x = a.5 e in
        let y = b.5 (sym (ap is_ending s.1) ∙ e) in
        let next = onward x (subst (λ bytes. Splits (n + 1) bytes others remainder) (sym s.0) y) in
        (ap (λ i. i ∷ items) s.1 ∙ ap (λ is. other ∷ is) next.0, next.1)
