-- From item to item of a dialogue, and to its end.
use Rattle.std.proofs.Common.{◌≡◌, ℕ, suc, ◌+◌, Bool, true, false, List, [], ◌∷◌, ◌++◌, length, refl, sym, ◌∙◌, ap}
use Rattle.std.proofs.Common.{subst, arith}
use Rattle.std.specs.List.{concat}
use Rattle.std.proofs.lemmas.List.{append-nil}
use Rattle.std.proofs.lemmas.List.Folds.{concat-append}
use Rattle.lj_session.specs.Users.{User}
use Rattle.lj_wire.specs.declared.item.Item.{Item}
use Rattle.lj_wire.specs.Items.{is_ending}
use Rattle.lj_wire.specs.ReplyTexts.{is_memory}
use Rattle.lj_wire.specs.Told.{item_text, texts, last_user, first_mark, other_marks}
use Rattle.lj_wire.specs.Streams.{IsItem, IsPart, Splits, AreMarks}
use Rattle.lj_wire.specs.Progress.{TakesItems}

pub TakesItems-more : (n : ℕ) (bytes : List ℕ) (items : List Item) (left front behind : List ℕ) (item : Item)
    → TakesItems n bytes items left → left ≡ front ++ behind → IsItem (n + length items) front item → is_ending item ≡ false
    → TakesItems n bytes (items ++ item ∷ []) behind
TakesItems-more n bytes [] left front behind item t e i goes =
    (front, behind, t ∙ e, subst (λ m. IsItem m front item) (let s : n + 0 ≡ n = omega arith in s) i, goes, refl)
TakesItems-more n bytes (first ∷ items) left front behind item t e i goes =
    let s : n + suc (length items) ≡ n + 1 + length items = omega arith in (
      t.0,
      t.1,
      t.2,
      t.3,
      t.4,
      TakesItems-more (n + 1) t.1 items left front behind item t.5 e
          (subst (λ m. IsItem m front item) s i) goes,
    )

pub Splits-part : (n : ℕ) (bytes : List ℕ) (items : List Item) (left : List ℕ) → TakesItems n bytes items left
    → IsPart (n + length items) left
    → Splits n bytes items left
Splits-part n bytes [] left t p = (t, subst (λ m. IsPart m left) (let s : n + 0 ≡ n = omega arith in s) p)
Splits-part n bytes (first ∷ items) left t p =
    let s : n + suc (length items) ≡ n + 1 + length items = omega arith in
    let next = Splits-part (n + 1) t.1 items left t.5 (subst (λ m. IsPart m left) s p) in
    (t.0, t.1, t.2, t.3, (λ h. let differ : true ≡ false = sym h ∙ t.4 in cc), (λ h. next))

pub Splits-end : (n : ℕ) (bytes : List ℕ) (items : List Item) (left front behind : List ℕ) (item : Item)
    → TakesItems n bytes items left → left ≡ front ++ behind → IsItem (n + length items) front item → is_ending item ≡ true
    → Splits n bytes (items ++ item ∷ []) behind
Splits-end n bytes [] left front behind item t e i end = (
  front,
  behind,
  t ∙ e,
  subst (λ m. IsItem m front item) (let s : n + 0 ≡ n = omega arith in s) i,
  (λ h. (refl, refl)),
  (λ h. let differ : true ≡ false = sym end ∙ h in cc),
)
Splits-end n bytes (first ∷ items) left front behind item t e i end =
    let s : n + suc (length items) ≡ n + 1 + length items = omega arith in
    let next = Splits-end (n + 1) t.1 items left front behind item t.5 e (subst (λ m. IsItem m front item) s i) end in
    (t.0, t.1, t.2, t.3, (λ h. let differ : true ≡ false = sym h ∙ t.4 in cc), (λ h. next))

-- marks of texts are as many as the texts
pub marks-length : (marks : List Bool) (answers : List (List ℕ)) → AreMarks marks answers
    → length marks ≡ length answers
marks-length [] [] h = refl
marks-length [] (text ∷ answers) h = absurd h
marks-length (mark ∷ marks) [] h = absurd h
marks-length (mark ∷ marks) (text ∷ answers) h = ap suc (marks-length marks answers h.1)

pub texts-length : (user : User) (items : List Item) (marks : List Bool)
    → length (texts user items marks) ≡ length items
texts-length user [] marks = refl
texts-length user (item ∷ items) marks =
    ap suc (texts-length (item_text user item (first_mark marks)).1 items (other_marks marks))

AreMarks-more : (marks : List Bool) (answers : List (List ℕ)) (mark : Bool) (text : List ℕ) → AreMarks marks answers
    → (mark ≡ true → is_memory text ≡ true)
    → AreMarks (marks ++ mark ∷ []) (answers ++ text ∷ [])
AreMarks-more [] [] mark text h only = (only, tt)
AreMarks-more [] (next ∷ answers) mark text h only = absurd h
AreMarks-more (next ∷ marks) [] mark text h only = absurd h
AreMarks-more (next ∷ marks) (first ∷ answers) mark text h only = (h.0, AreMarks-more marks answers mark text h.1 only)

texts-more : (user : User) (items : List Item) (marks : List Bool) (item : Item) (mark : Bool)
    → length marks ≡ length items
    → texts user (items ++ item ∷ []) (marks ++ mark ∷ []) ≡ texts user items marks
    ++ (item_text (last_user user items marks) item mark).0 ∷ []
texts-more user [] [] item mark h = refl
texts-more user [] (next ∷ marks) item mark h = absurd (omega (arith, h))
texts-more user (first ∷ items) [] item mark h = absurd (omega (arith, h))
texts-more user (first ∷ items) (next ∷ marks) item mark h =
    ap (λ others. (item_text user first next).0 ∷ others)
    (texts-more (item_text user first next).1 items marks item mark (omega (arith, h)))

last_user-more : (user : User) (items : List Item) (marks : List Bool) (item : Item) (mark : Bool)
    → length marks ≡ length items
    → last_user user (items ++ item ∷ []) (marks ++ mark ∷ []) ≡ (item_text (last_user user items marks) item mark).1
last_user-more user [] [] item mark h = refl
last_user-more user [] (next ∷ marks) item mark h = absurd (omega (arith, h))
last_user-more user (first ∷ items) [] item mark h = absurd (omega (arith, h))
last_user-more user (first ∷ items) (next ∷ marks) item mark h =
    last_user-more (item_text user first next).1 items marks item mark (omega (arith, h))

-- what one item more adds to the marks, the texts and the user
pub record Added (user : User) (items : List Item) (marks : List Bool) (item : Item) (mark : Bool) : Type 0 where
  pub are_marks : AreMarks (marks ++ mark ∷ []) (texts user (items ++ item ∷ []) (marks ++ mark ∷ []))
  pub written_is : concat (texts user items marks) ++ (item_text (last_user user items marks) item mark).0
      ≡ concat (texts user (items ++ item ∷ []) (marks ++ mark ∷ []))
  pub next_is : (item_text (last_user user items marks) item mark).1
      ≡ last_user user (items ++ item ∷ []) (marks ++ mark ∷ [])

pub added : (user : User) (items : List Item) (marks : List Bool) (item : Item) (mark : Bool)
    → AreMarks marks (texts user items marks)
    → (mark ≡ true → is_memory (item_text (last_user user items marks) item mark).0 ≡ true)
    → Added user items marks item mark
added user items marks item mark are only =
    let text = (item_text (last_user user items marks) item mark).0 in
    let same = marks-length marks (texts user items marks) are ∙ texts-length user items marks in
    let more = texts-more user items marks item mark same in
    record {
      are_marks =
          subst (AreMarks (marks ++ mark ∷ [])) (sym more)
          (AreMarks-more marks (texts user items marks) mark text are only);
      written_is = ap (λ x. concat (texts user items marks) ++ x) (sym (append-nil text))
          ∙ sym (concat-append (texts user items marks) (text ∷ [])) ∙ ap concat (sym more);
      next_is = sym (last_user-more user items marks item mark same);
    }
