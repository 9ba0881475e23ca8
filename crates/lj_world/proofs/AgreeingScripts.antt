-- The replies to scripts that agree, and the headline.
use Rattle.std.proofs.Common.{◌≡◌, ℕ, Bool, List, [], ◌∷◌, ◌++◌, length, take, drop, inl, inr, refl, sym, ap, ap₂, subst, subst₂, take-append-drop}
use Rattle.lj_session.specs.Users.{User, fresh_user}
use Rattle.lj_wire.specs.declared.item.Item.{Item}
use Rattle.lj_wire.specs.Told.{item_text, texts}
use Rattle.lj_world.specs.Scripts.{IsPrefix, OneIsPrefix}
use Rattle.lj_world.specs.RunLaws.{RepliesAreFirstTexts, AgreeingScriptsAgreeInTexts, Headline, alone_texts, script_in}

cons_head : {A : Type 0} (x y : A) (xs ys : List A) → x ∷ xs ≡ y ∷ ys → x ≡ y
cons_head x y xs ys e = cc

cons_tail : {A : Type 0} (x y : A) (xs ys : List A) → x ∷ xs ≡ y ∷ ys → xs ≡ ys
cons_tail x y xs ys e = cc

-- two lists of which one begins with the other have one head, and so have their rests
heads : {A : Type 0} (x y : A) (xs ys : List A) → OneIsPrefix (x ∷ xs) (y ∷ ys) → (x ≡ y) × OneIsPrefix xs ys
heads x y xs ys (inl (others, e)) = (sym (cons_head y x ys (xs ++ others) e), inl (others, cons_tail y x ys (xs ++ others) e))
heads x y xs ys (inr (others, e)) = (cons_head x y xs (ys ++ others) e, inr (others, cons_tail x y xs (ys ++ others) e))

with_head : {A : Type 0} (x : A) (xs ys : List A) → OneIsPrefix xs ys → OneIsPrefix (x ∷ xs) (x ∷ ys)
with_head x xs ys (inl (others, e)) = inl (others, ap (λ zs. x ∷ zs) e)
with_head x xs ys (inr (others, e)) = inr (others, ap (λ zs. x ∷ zs) e)

-- the first texts of items, one for each mark
abbrev firsts : User → List Item → List Bool → List (List ℕ)
firsts user items marks = take (length marks) (texts user items marks)

firsts_agree : (user : User) (items others : List Item) (marks signs : List Bool) → OneIsPrefix items others → OneIsPrefix marks signs
    → OneIsPrefix (firsts user items marks) (firsts user others signs)
firsts_agree user items others [] signs p q = inl (firsts user others signs, refl)
firsts_agree user items others (mark ∷ marks) [] p q = inr (firsts user items (mark ∷ marks), refl)
firsts_agree user [] others (mark ∷ marks) (sign ∷ signs) p q = inl (firsts user others (sign ∷ signs), refl)
firsts_agree user (item ∷ items) [] (mark ∷ marks) (sign ∷ signs) p q = inr (firsts user (item ∷ items) (mark ∷ marks), refl)
firsts_agree user (item ∷ items) (other ∷ others) (mark ∷ marks) (sign ∷ signs) p q =
    let a = heads item other items others p in
    let b = heads mark sign marks signs q in
    let same : item_text user item mark ≡ item_text user other sign = ap₂ (item_text user) a.0 b.0 in
    let next = item_text user item mark in
    let ih = firsts_agree next.1 items others marks signs a.1 b.1 in
    subst (λ (n : List ℕ × User). OneIsPrefix (firsts user (item ∷ items) (mark ∷ marks)) (n.0 ∷ firsts n.1 others signs)) same
    (with_head next.0 (firsts next.1 items marks) (firsts next.1 others signs) ih)

pub scripts_agree : AgreeingScriptsAgreeInTexts
scripts_agree quota one other agree = firsts_agree (fresh_user quota) one.items other.items one.marks other.marks agree.items agree.marks

take_is_prefix : {A : Type 0} (n : ℕ) (xs : List A) → IsPrefix (take n xs) xs
take_is_prefix n xs = (drop n xs, sym (take-append-drop n xs))

pub headline_from : RepliesAreFirstTexts → AgreeingScriptsAgreeInTexts → Headline
headline_from are_first agreeing quota one other agree =
    let a = are_first one.users one.events one.entries one.user quota one.is_run one.has_quota in
    let b = are_first other.users other.events other.entries other.user quota other.is_run other.has_quota in
    record {
      alike = subst₂ OneIsPrefix (sym a) (sym b) (agreeing quota (script_in one) (script_in other) agree);
      one_alone = subst (λ xs. IsPrefix xs (alone_texts quota (script_in one))) (sym a) (take_is_prefix _ (alone_texts quota (script_in one)));
      other_alone = subst (λ xs. IsPrefix xs (alone_texts quota (script_in other))) (sym b) (take_is_prefix _ (alone_texts quota (script_in other)));
    }
