-- Items answered one after another: the texts of their replies, and the user after the last.
use Rattle.std.proofs.Common.{◌≡◌, ℕ, suc, Bool, List, [], ◌∷◌, ◌++◌, map, length, refl, sym, ◌∙◌, ap}
use Rattle.lj_session.specs.Users.{User}
use Rattle.lj_wire.specs.declared.item.Item.{Item}
use Rattle.lj_wire.specs.ReplyTexts.{is_memory}
use Rattle.lj_wire.specs.Told.{item_text, texts, last_user}
use Rattle.lj_wire.specs.StreamLaws.{MarkIsTold}

-- a list of texts
abbrev pub Texts : Type 0
Texts = List (List ℕ)

-- From a user on, items are answered with these texts and leave this user, each for some mark.
abbrev pub AnsweredAll : User → List Item → Texts → User → Type 0
AnsweredAll user [] reply_texts last = (reply_texts ≡ []) × (last ≡ user)
AnsweredAll user (item ∷ items) reply_texts last =
    (mark : Bool) × (text : List ℕ) × (next : User) × (later : Texts)
    × ((text, next) ≡ item_text user item mark) × AnsweredAll next items later last × (reply_texts ≡ text ∷ later)

pub AnsweredAll-append : (user : User) (items : List Item) (early : Texts) (between : User) (others : List Item) (late : Texts) (last : User)
    → AnsweredAll user items early between → AnsweredAll between others late last → AnsweredAll user (items ++ others) (early ++ late) last
AnsweredAll-append user [] early between others late last (none, same) h =
    let moved : AnsweredAll user others late last = rw (sym same) h in rw none moved
AnsweredAll-append user (item ∷ items) early between others late last (mark, text, next, later, is, rest, whole) h =
    (mark, text, next, later ++ late, is, AnsweredAll-append next items later between others late last rest h, ap (λ ts. ts ++ late) whole)

-- one item more
pub AnsweredAll-push : (user : User) (items : List Item) (early : Texts) (between : User) (item : Item) (mark : Bool) (text : List ℕ) (last : User)
    → AnsweredAll user items early between → (text, last) ≡ item_text between item mark → AnsweredAll user (items ++ item ∷ []) (early ++ text ∷ []) last
AnsweredAll-push user items early between item mark text last h is =
    AnsweredAll-append user items early between (item ∷ []) (text ∷ []) last h (mark, text, last, [], is, (refl, refl), refl)

module _ (marked : MarkIsTold) where
  -- the mark of an item is whether its text is the memory refusal
  AnsweredAll-by_text : (user : User) (item : Item) (mark : Bool) (text : List ℕ) (next : User) → (text, next) ≡ item_text user item mark
      → item_text user item (is_memory text) ≡ (text, next)
  AnsweredAll-by_text user item mark text next is =
      ap (λ (p : List ℕ × User). item_text user item (is_memory p.0)) is ∙ sym (marked user item mark) ∙ sym is

  -- the texts are the first of those that the marks give, also where other items follow
  pub texts-AnsweredAll : (user : User) (items : List Item) (reply_texts : Texts) (last : User) (others : List Item) → AnsweredAll user items reply_texts last
      → texts user (items ++ others) (map is_memory reply_texts) ≡ reply_texts ++ texts last others []
  texts-AnsweredAll user [] reply_texts last others (none, same) = rw (none, same) refl
  texts-AnsweredAll user (item ∷ items) reply_texts last others (mark, text, next, later, is, rest, whole) =
      let step = AnsweredAll-by_text user item mark text next is in
      let ih = texts-AnsweredAll next items later last others rest in
      rw whole (ap (λ (p : List ℕ × User). p.0 ∷ texts p.1 (items ++ others) (map is_memory later)) step ∙ ap (λ ts. text ∷ ts) ih)

  -- and so is the last user
  pub last_user-AnsweredAll : (user : User) (items : List Item) (reply_texts : Texts) (last : User) → AnsweredAll user items reply_texts last
      → last_user user items (map is_memory reply_texts) ≡ last
  last_user-AnsweredAll user [] reply_texts last (none, same) = sym same
  last_user-AnsweredAll user (item ∷ items) reply_texts last (mark, text, next, later, is, rest, whole) =
      let step = AnsweredAll-by_text user item mark text next is in
      let ih = last_user-AnsweredAll next items later last rest in
      rw whole (ap (λ (p : List ℕ × User). last_user p.1 items (map is_memory later)) step ∙ ih)

-- as many items are answered as there are texts
pub AnsweredAll-length : (user : User) (items : List Item) (reply_texts : Texts) (last : User) → AnsweredAll user items reply_texts last → length items ≡ length reply_texts
AnsweredAll-length user [] reply_texts last (none, same) = rw none refl
AnsweredAll-length user (item ∷ items) reply_texts last (mark, text, next, later, is, rest, whole) =
    rw whole (ap suc (AnsweredAll-length next items later last rest))
