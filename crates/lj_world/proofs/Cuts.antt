-- Items up to the first that ends their connection.
use Rattle.std.proofs.Common.{◌≡◌, Bool, true, false, ◌||◌, cond, List, [], ◌∷◌, ◌++◌, refl, sym, ◌∙◌, ap, true≢false}
use Rattle.std.specs.List.{list_any}
use Rattle.lj_wire.specs.declared.item.Item.{Item}
use Rattle.lj_wire.specs.Items.{is_ending}
use Rattle.lj_world.specs.Scripts.{items_to_end}

-- no item ends the connection
abbrev pub NoneEnds : List Item → Type 0
NoneEnds items = list_any is_ending items ≡ false

-- an item ends the connection
abbrev pub OneEnds : List Item → Type 0
OneEnds items = list_any is_ending items ≡ true

cut-by : (b : Bool) (item : Item) (items : List Item) → is_ending item ≡ b → items_to_end (item ∷ items) ≡ item ∷ cond b [] (items_to_end items)
cut-by b item items e = ap (λ (x : Bool). item ∷ cond x [] (items_to_end items)) e

any-by : (b : Bool) (item : Item) (items : List Item) → is_ending item ≡ b → list_any is_ending (item ∷ items) ≡ (b || list_any is_ending items)
any-by b item items e = ap (λ (x : Bool). x || list_any is_ending items) e

cut-none_by : (b : Bool) (item : Item) (items others : List Item) → is_ending item ≡ b → NoneEnds (item ∷ items)
    → (NoneEnds items → items_to_end (items ++ others) ≡ items ++ items_to_end others) → items_to_end (item ∷ items ++ others) ≡ item ∷ items ++ items_to_end others
cut-none_by true item items others e h ih = absurd (true≢false (sym (any-by true item items e) ∙ h))
cut-none_by false item items others e h ih =
    cut-by false item (items ++ others) e ∙ ap (λ xs. item ∷ xs) (ih (sym (any-by false item items e) ∙ h))

pub cut-none : (items others : List Item) → NoneEnds items → items_to_end (items ++ others) ≡ items ++ items_to_end others
cut-none [] others h = refl
cut-none (item ∷ items) others h = cut-none_by (is_ending item) item items others refl h (cut-none items others)

cut-one_by : (b : Bool) (item : Item) (items others : List Item) → is_ending item ≡ b → OneEnds (item ∷ items)
    → (OneEnds items → items_to_end (items ++ others) ≡ items_to_end items) → items_to_end (item ∷ items ++ others) ≡ items_to_end (item ∷ items)
cut-one_by true item items others e h ih = cut-by true item (items ++ others) e ∙ sym (cut-by true item items e)
cut-one_by false item items others e h ih =
    cut-by false item (items ++ others) e ∙ ap (λ xs. item ∷ xs) (ih (sym (any-by false item items e) ∙ h))
    ∙ sym (cut-by false item items e)

pub cut-one : (items others : List Item) → OneEnds items → items_to_end (items ++ others) ≡ items_to_end items
cut-one [] others h = absurd (true≢false (sym h))
cut-one (item ∷ items) others h = cut-one_by (is_ending item) item items others refl h (cut-one items others)

any-append : (items others : List Item) → list_any is_ending (items ++ others) ≡ (list_any is_ending items || list_any is_ending others)
any-append [] others = refl
any-append (item ∷ items) others = ap (λ (x : Bool). is_ending item || x) (any-append items others) ∙ or_assoc (is_ending item) (list_any is_ending items) (list_any is_ending others)
  where
    or_assoc : (a b c : Bool) → (a || (b || c)) ≡ ((a || b) || c)
    or_assoc true b c = refl
    or_assoc false b c = refl

pub none-append : (items others : List Item) → NoneEnds items → NoneEnds others → NoneEnds (items ++ others)
none-append items others h k = any-append items others ∙ ap (λ (x : Bool). x || list_any is_ending others) h ∙ k

pub one-append : (items others : List Item) → OneEnds items → OneEnds (items ++ others)
one-append items others h = any-append items others ∙ ap (λ (x : Bool). x || list_any is_ending others) h

pub one-after : (items : List Item) (item : Item) (others : List Item) → is_ending item ≡ true → OneEnds (items ++ item ∷ others)
one-after items item others e =
    any-append items (item ∷ others) ∙ ap (λ (x : Bool). list_any is_ending items || x) (any-by true item others e) ∙ or_true (list_any is_ending items)
  where
    or_true : (a : Bool) → (a || true) ≡ true
    or_true true = refl
    or_true false = refl

-- the last item of a cut
pub cut-last : (item : Item) (others : List Item) → is_ending item ≡ true → items_to_end (item ∷ others) ≡ item ∷ []
cut-last item others e = cut-by true item others e

pub none-single : (item : Item) → is_ending item ≡ false → NoneEnds (item ∷ [])
none-single item e = any-by false item [] e
