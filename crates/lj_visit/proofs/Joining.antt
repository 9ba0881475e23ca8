-- Items behind other items: their texts, the user after them, and their marks.
use Rattle.std.proofs.Common.{◌≡◌, ℕ, Bool, List, [], ◌∷◌, ◌++◌, length, refl, ap, arith}
use Rattle.lj_session.specs.Users.{User}
use Rattle.lj_wire.specs.declared.item.Item.{Item}
use Rattle.lj_wire.specs.Streams.{AreMarks}
use Rattle.lj_wire.specs.Told.{item_text, texts, last_user}

pub texts-join : (user : User) (items others : List Item) (marks more : List Bool) → length marks ≡ length items
    → texts user (items ++ others) (marks ++ more) ≡ texts user items marks ++ texts (last_user user items marks) others more
texts-join user [] others [] more h = refl
texts-join user [] others (mark ∷ marks) more h = absurd (omega (arith, h))
texts-join user (item ∷ items) others [] more h = absurd (omega (arith, h))
texts-join user (item ∷ items) others (mark ∷ marks) more h =
    ap (λ rest. (item_text user item mark).0 ∷ rest)
    (texts-join (item_text user item mark).1 items others marks more (omega (arith, h)))

pub last_user-join : (user : User) (items others : List Item) (marks more : List Bool) → length marks ≡ length items
    → last_user user (items ++ others) (marks ++ more) ≡ last_user (last_user user items marks) others more
last_user-join user [] others [] more h = refl
last_user-join user [] others (mark ∷ marks) more h = absurd (omega (arith, h))
last_user-join user (item ∷ items) others [] more h = absurd (omega (arith, h))
last_user-join user (item ∷ items) others (mark ∷ marks) more h =
    last_user-join (item_text user item mark).1 items others marks more (omega (arith, h))

pub AreMarks-join : (marks more : List Bool) (answers others : List (List ℕ)) → AreMarks marks answers → AreMarks more others
    → AreMarks (marks ++ more) (answers ++ others)
AreMarks-join [] more [] others h k = k
AreMarks-join [] more (text ∷ answers) others h k = absurd h
AreMarks-join (mark ∷ marks) more [] others h k = absurd h
AreMarks-join (mark ∷ marks) more (text ∷ answers) others h k = (h.0, AreMarks-join marks more answers others h.1 k)
