-- Items that are handed out one after the other are those of the stream.
use Rattle.std.proofs.Common.{◌≡◌, ℕ, Bool, true, false, cond, List, [], ◌∷◌, ◌++◌, Option, Some, None, inl, inr, refl}
use Rattle.std.proofs.Common.{sym, ap, ◌∙◌, subst}
use Rattle.std.proofs.lemmas.List.{append-nil}
use Rattle.std.specs.Io.KnownBytes.{Consumes, IsAtEnd}
use Rattle.lj_session.specs.Answers.{command_result}
use Rattle.lj_session.specs.Users.{User}
use Rattle.lj_wire.specs.declared.item.Item.{Item}
use Rattle.lj_wire.specs.declared.reader.phase.Phase.TheVariants.{Open, Over}
use Rattle.lj_wire.specs.Items.{is_ending}
use Rattle.lj_wire.specs.LineReader.{LineReader, IsLost, IsHandedItem, HandsAll, AreHandedOut, Ceases}
use Rattle.lj_wire.specs.Streams.{IsPart, Splits}
use Rattle.lj_wire.specs.Told.{item_reply}
use Rattle.lj_wire.proofs.Splitting.{same_item, no_part}

-- a load whose body is lost
pub lost_answered : (user : User) (found item : Item) (mark : Bool) → IsLost found item
    → item_reply user item mark ≡ item_reply user found true
unfolding command_result
lost_answered user found item mark l =
    ap (λ i. item_reply user i mark) l.item_is ∙ ap (λ i. item_reply user i true) (sym l.found_is)

-- known bytes that begin with a front, and what is left of them
pub known : (bytes front : List ℕ) (old new : Option (List ℕ)) → old ≡ Some bytes → Consumes old new front
    → (behind : List ℕ) × (new ≡ Some behind) × (bytes ≡ front ++ behind)
known bytes front old new is c = by_new new (subst (λ (o : Option (List ℕ)). Consumes o new front) is c)
  where
    by_new : (after : Option (List ℕ)) → Consumes (Some bytes) after front
        → (behind : List ℕ) × (after ≡ Some behind) × (bytes ≡ front ++ behind)
    by_new None c = absurd c
    by_new (Some behind) c = (behind, refl, c)

-- the item that is handed out for another ends the connection where that does
pub ends_alike : (found item : Item) → IsHandedItem found item → is_ending item ≡ is_ending found
ends_alike found item (inl same) = ap is_ending same
ends_alike found item (inr l) = ap is_ending l.item_is ∙ sym (ap is_ending l.found_is)

-- nothing is handed out where the reader is over
pub none_after : (old new : LineReader) (handed : List Item) → old.phase ≡ Over → HandsAll old handed new → handed ≡ []
none_after old new [] over h = refl
none_after old new (item ∷ handed) over h = let differ : Open ≡ Over = sym h.1.was_open ∙ over in cc

abbrev pub First : List Item → List Item → Type 0
First items handed =
    (founds : List Item) × (others : List Item) × (items ≡ founds ++ others) × AreHandedOut founds handed

pub come_first : (old new : LineReader) (bytes rest : List ℕ) (handed items : List Item)
    → old.left ≡ Some bytes → HandsAll old handed new
    → Splits old.items bytes items rest → First items handed
come_first old new bytes rest [] items is h s = ([], items, refl, tt)
come_first old new bytes rest (item ∷ handed) [] is h s =
    let k = known bytes h.1.front old.left h.0.left is h.1.taken in
    absurd (no_part old.items h.1.front k.0 rest h.1.found (sym k.2 ∙ s.0) h.1.is_item s.1)
come_first old new bytes rest (item ∷ handed) (next ∷ items) is h s =
    let k = known bytes h.1.front old.left h.0.left is h.1.taken in
    let same = same_item old.items h.1.front s.0 k.0 s.1 h.1.found next (sym k.2 ∙ s.2) h.1.is_item s.3 in
    let alike = ends_alike h.1.found item h.1.is_found ∙ ap is_ending same.1 in
    let handed_is : IsHandedItem next item = subst (λ found. IsHandedItem found item) same.1 h.1.is_found in
    by_end (is_ending next) refl (h.1.phase_is ∙ ap (λ end. cond end Over Open) alike) handed_is
    (λ goes. come_first h.0 new s.1 rest handed items (k.1 ∙ ap Some same.0) h.2
    (subst (λ n. Splits n s.1 items rest) (sym h.1.items_is) (s.5 goes)))
  where
    by_end : (end : Bool) → is_ending next ≡ end → h.0.phase ≡ cond (is_ending next) Over Open → IsHandedItem next item
        → (is_ending next ≡ false → First items handed) → First (next ∷ items) (item ∷ handed)
    by_end true e phase is_handed onward =
        let none = none_after h.0 new handed (phase ∙ ap (λ end. cond end Over Open) e) h.2 in
        (next ∷ [], items, refl, (is_handed, subst (AreHandedOut []) (sym none) tt))
    by_end false e phase is_handed onward =
        let more = onward e in
        (next ∷ more.0, more.1, ap (λ l. next ∷ l) more.2, (is_handed, more.3))

-- less than an item is left at the end of the input, so that all items were handed out
pub are_all : (old last new : LineReader) (bytes rest : List ℕ) (handed items : List Item)
    → old.left ≡ Some bytes → HandsAll old handed last
    → Ceases last new → Splits old.items bytes items rest → AreHandedOut items handed
are_all old last new bytes rest [] [] is h c s = tt
are_all old last new bytes rest [] (next ∷ items) is h c s =
    let left = ap (λ a. a.left) h ∙ is in
    let k = known bytes c.part last.left new.left left c.taken in
    let end = ended k.0 new.left k.1 c.at_end in
    let whole : s.0 ++ s.1 ≡ c.part = sym s.2 ∙ k.2 ∙ ap (λ (l : List ℕ). c.part ++ l) end ∙ append-nil c.part in
    absurd (no_part old.items s.0 s.1 c.part next whole s.3
    (subst (λ n. IsPart n c.part) (ap (λ a. a.items) h) c.is_part))
  where
    ended : (behind : List ℕ) (after : Option (List ℕ)) → after ≡ Some behind → IsAtEnd after → behind ≡ []
    ended behind None e end = cc
    ended behind (Some bytes) e end = let same : bytes ≡ behind = cc in sym same ∙ end
are_all old last new bytes rest (item ∷ handed) [] is h c s =
    let k = known bytes h.1.front old.left h.0.left is h.1.taken in
    absurd (no_part old.items h.1.front k.0 rest h.1.found (sym k.2 ∙ s.0) h.1.is_item s.1)
are_all old last new bytes rest (item ∷ handed) (next ∷ items) is h c s =
    let k = known bytes h.1.front old.left h.0.left is h.1.taken in
    let same = same_item old.items h.1.front s.0 k.0 s.1 h.1.found next (sym k.2 ∙ s.2) h.1.is_item s.3 in
    let alike = ends_alike h.1.found item h.1.is_found ∙ ap is_ending same.1 in
    let handed_is : IsHandedItem next item = subst (λ found. IsHandedItem found item) same.1 h.1.is_found in
    by_end (is_ending next) refl (h.1.phase_is ∙ ap (λ end. cond end Over Open) alike) handed_is
    (λ goes. are_all h.0 last new s.1 rest handed items (k.1 ∙ ap Some same.0) h.2 c
    (subst (λ n. Splits n s.1 items rest) (sym h.1.items_is) (s.5 goes)))
  where
    by_end : (end : Bool) → is_ending next ≡ end → h.0.phase ≡ cond (is_ending next) Over Open → IsHandedItem next item
        → (is_ending next ≡ false → AreHandedOut items handed) → AreHandedOut (next ∷ items) (item ∷ handed)
    by_end true e phase is_handed onward =
        let over = phase ∙ ap (λ end. cond end Over Open) e in
        let none = none_after h.0 last handed over h.2 in
        let is_last : last ≡ h.0 = subst (λ (l : List Item). HandsAll h.0 l last) none h.2 in
        let differ : Open ≡ Over = sym c.was_open ∙ ap (λ a. a.phase) is_last ∙ over in
        cc
    by_end false e phase is_handed onward = (is_handed, onward e)
