-- Values under names: a value put, set or taken out, and sums over them.
use Rattle.std.proofs.Common.{◌≡◌, ◌≢◌, ◌∙◌, ℕ, suc, ◌+◌, Bool, true, false, List, [], ◌∷◌, ◌++◌, length, map, Some}
use Rattle.std.proofs.Common.{None, zero, slice_get, refl, sym, ap, arith}
use Rattle.std.proofs.lemmas.Bool.{true≢false}
use Rattle.std.specs.List.{AllByRecursion, IsDistinct, sum_by}
use Rattle.std.proofs.lemmas.List.Sums.{sum_by-cons}
use Rattle.std.specs.Option.{option_map}
use Rattle.std.specs.Str.{bytes_eq}
use Rattle.std.proofs.lemmas.Slice.Eq.{bytes_eq-Decides}
use Rattle.std.specs.Map.{set_value}
use Rattle.indexmap.specs.IndexMap.{set_value_at}
use Rattle.lj_branch.specs.Named.{value_named, with_value, without_value}

-- a test that is known either way
pub by_test : {P : Type 0} (b : Bool) → (b ≡ true → P) → (b ≡ false → P) → P
by_test true t f = t refl
by_test false t f = f refl

-- a key that is none of some names is not the i-th
apart_at : (key : List ℕ) (ks : List (List ℕ)) (i : ℕ) (name : List ℕ) → AllByRecursion (λ k. bytes_eq key k ≡ false) ks
    → slice_get ks i ≡ Some name → bytes_eq key name ≡ false
apart_at key [] i name all at = absurd (none_some at)
  where
    none_some : None ≡ Some name → ⊥
    none_some e = cc
apart_at key (k ∷ ks) zero name all at = ap (bytes_eq key) (sym (same k at)) ∙ all.0
  where
    same : (a : List ℕ) → Some a ≡ Some name → a ≡ name
    same a e = cc
apart_at key (k ∷ ks) (suc i) name all at = apart_at key ks i name all.1 at

-- a value set at a place is set where the name that stands there is found
pub set_at-name : {A : Type 0} (es : List (List ℕ × A)) (i : ℕ) (name : List ℕ) (w : A)
    → IsDistinct bytes_eq (map (λ e. e.0) es) → slice_get (map (λ e. e.0) es) i ≡ Some name
    → set_value_at es i w ≡ set_value (bytes_eq name) es w
unfolding IsDistinct
set_at-name [] i name w distinct at = absurd (none_some at)
  where
    none_some : None ≡ Some name → ⊥
    none_some e = cc
set_at-name (e ∷ es) zero name w distinct at =
    let t = (bytes_eq-Decides name e.0).1 (sym (same e.0 at)) in rw t refl
  where
    same : (a : List ℕ) → Some a ≡ Some name → a ≡ name
    same a k = cc
set_at-name (e ∷ es) (suc i) name w distinct at = by_test (bytes_eq name e.0)
    (λ t. absurd (true≢false (sym ((bytes_eq-Decides e.0 name).1 (sym ((bytes_eq-Decides name e.0).0 t)))
    ∙ apart_at e.0 (map (λ e. e.0) es) i name distinct.0 at)))
    (λ t. rw t (ap (λ l. e ∷ l) (set_at-name es i name w distinct.1 at)))

-- two names are not both one key
not_both : (name other : List ℕ) → name ≢ other → (key : List ℕ) → bytes_eq name key ≡ true
    → bytes_eq other key ≡ true → ⊥
not_both name other apart key its others =
    apart ((bytes_eq-Decides name key).0 its ∙ sym ((bytes_eq-Decides other key).0 others))

module _ {A : Type 0} (name : List ℕ) where
  none-some : (x : A) → None ≡ Some x → ⊥
  none-some x e = cc

  same_Some : (x y : A) → Some x ≡ Some y → x ≡ y
  same_Some x y e = cc

  -- a value set where its name stands is put under the name
  pub set-put : (es : List (List ℕ × A)) (v w : A) → value_named name es ≡ Some v
      → set_value (bytes_eq name) es w ≡ with_value name w es
  set-put [] v w h = absurd (none-some v h)
  set-put (e ∷ es) v w h = by_test (bytes_eq name e.0)
      (λ t. rw t refl)
      (λ t. rw t (ap (λ l. e ∷ l) (set-put es v w (rw t at h))))

  -- the value that stands there, put once more, changes nothing
  pub put-same : (es : List (List ℕ × A)) (v : A) → value_named name es ≡ Some v → with_value name v es ≡ es
  put-same [] v h = absurd (none-some v h)
  put-same (e ∷ es) v h = by_test (bytes_eq name e.0)
      (λ t. rw (t, same_Some e.1 v (rw t at h)) refl)
      (λ t. rw t (ap (λ l. e ∷ l) (put-same es v (rw t at h))))

  -- a new name goes last
  pub put-new : (es : List (List ℕ × A)) (v : A) → value_named name es ≡ None → with_value name v es ≡ es ++ (name, v) ∷ []
  put-new [] v h = refl
  put-new (e ∷ es) v h = by_test (bytes_eq name e.0)
      (λ t. absurd (none-some e.1 (sym (rw t at h))))
      (λ t. rw t (ap (λ l. e ∷ l) (put-new es v (rw t at h))))

  -- where a name stands its value is put, and is found again
  pub named-put : (es : List (List ℕ × A)) (v w : A) → value_named name es ≡ Some v → value_named name (with_value name w es) ≡ Some w
  named-put [] v w h = absurd (none-some v h)
  named-put (e ∷ es) v w h = by_test (bytes_eq name e.0)
      (λ t. rw (t, t) refl)
      (λ t. rw (t, t) (named-put es v w (rw t at h)))

  -- under another name stands what stood there, after a value is put and after one is taken out
  module _ (other : List ℕ) (apart : name ≢ other) where
    pub named-put_other : (es : List (List ℕ × A)) (v : A) → value_named other (with_value name v es) ≡ value_named other es
    named-put_other [] v = by_test (bytes_eq other name)
        (λ t. absurd (apart (sym ((bytes_eq-Decides other name).0 t))))
        (λ t. rw t refl)
    named-put_other (e ∷ es) v = by_test (bytes_eq name e.0)
        (λ t. by_test (bytes_eq other e.0) (λ u. absurd (not_both name other apart e.0 t u)) (λ u. rw (t, u) refl))
        (λ t. rw t (by_test (bytes_eq other e.0) (λ u. rw u refl) (λ u. rw u (named-put_other es v))))

    pub named-taken_other : (es : List (List ℕ × A)) → value_named other (without_value name es) ≡ value_named other es
    named-taken_other [] = refl
    named-taken_other (e ∷ es) = by_test (bytes_eq name e.0)
        (λ t. by_test (bytes_eq other e.0) (λ u. absurd (not_both name other apart e.0 t u)) (λ u. rw (t, u) refl))
        (λ t. rw t (by_test (bytes_eq other e.0) (λ u. rw u refl) (λ u. rw u (named-taken_other es))))

  -- of two values put under it the second stays
  pub put-put : (es : List (List ℕ × A)) (v first second : A) → value_named name es ≡ Some v
      → with_value name second (with_value name first es) ≡ with_value name second es
  put-put [] v first second h = absurd (none-some v h)
  put-put (e ∷ es) v first second h = by_test (bytes_eq name e.0)
      (λ t. rw (t, t) refl)
      (λ t. rw (t, t) (ap (λ l. e ∷ l) (put-put es v first second (rw t at h))))

  -- what is put under a name is found there, whether or not it stood there
  pub named-put_any : (es : List (List ℕ × A)) (v : A) → value_named name (with_value name v es) ≡ Some v
  named-put_any [] v = let same = (bytes_eq-Decides name name).1 refl in rw same refl
  named-put_any (e ∷ es) v = by_test (bytes_eq name e.0)
      (λ t. rw (t, t) refl)
      (λ t. rw (t, t) (named-put_any es v))

  -- the names stay where a value is put under one of them
  pub names-put : (es : List (List ℕ × A)) (v w : A) → value_named name es ≡ Some v
      → map (λ (e : List ℕ × A). e.0) (with_value name w es) ≡ map (λ (e : List ℕ × A). e.0) es
  names-put [] v w h = absurd (none-some v h)
  names-put (e ∷ es) v w h = by_test (bytes_eq name e.0)
      (λ t. rw t refl)
      (λ t. rw t (ap (λ ns. e.0 ∷ ns) (names-put es v w (rw t at h))))

  pub length-put : (es : List (List ℕ × A)) (v w : A) → value_named name es ≡ Some v → length (with_value name w es) ≡ length es
  length-put [] v w h = absurd (none-some v h)
  length-put (e ∷ es) v w h = by_test (bytes_eq name e.0)
      (λ t. rw t refl)
      (λ t. rw t (ap suc (length-put es v w (rw t at h))))

  pub length-new : (es : List (List ℕ × A)) (v : A) → value_named name es ≡ None → length (with_value name v es) ≡ length es + 1
  length-new [] v h = refl
  length-new (e ∷ es) v h = by_test (bytes_eq name e.0)
      (λ t. absurd (none-some e.1 (sym (rw t at h))))
      (λ t. let below = length-new es v (rw t at h) in rw t (omega (arith, below)))

  pub length-taken : (es : List (List ℕ × A)) (v : A) → value_named name es ≡ Some v
      → length (without_value name es) + 1 ≡ length es
  length-taken [] v h = absurd (none-some v h)
  length-taken (e ∷ es) v h = by_test (bytes_eq name e.0)
      (λ t. rw t (omega arith))
      (λ t. let below = length-taken es v (rw t at h) in rw t (omega (arith, below)))

  -- sums over the values
  module _ (f : A → ℕ) where
    abbrev value_of : List ℕ × A → ℕ
    value_of e = f e.1

    pub sum-put : (es : List (List ℕ × A)) (v w : A) → value_named name es ≡ Some v
        → sum_by value_of (with_value name w es) + f v ≡ sum_by value_of es + f w
    sum-put [] v w h = absurd (none-some v h)
    sum-put (e ∷ es) v w h = by_test (bytes_eq name e.0)
        (λ t. let same = ap f (same_Some e.1 v (rw t at h)) in
        let new = sum_by-cons value_of (e.0, w) es in
        let old = sum_by-cons value_of e es in
        rw t (omega (arith, same, new, old)))
        (λ t. let below = sum-put es v w (rw t at h) in
        let new = sum_by-cons value_of e (with_value name w es) in
        let old = sum_by-cons value_of e es in
        rw t (omega (arith, below, new, old)))

    pub sum-new : (es : List (List ℕ × A)) (w : A) → value_named name es ≡ None
        → sum_by value_of (with_value name w es) ≡ sum_by value_of es + f w
    sum-new [] w h = omega arith
    sum-new (e ∷ es) w h = by_test (bytes_eq name e.0)
        (λ t. absurd (none-some e.1 (sym (rw t at h))))
        (λ t. let below = sum-new es w (rw t at h) in
        let new = sum_by-cons value_of e (with_value name w es) in
        let old = sum_by-cons value_of e es in
        rw t (omega (arith, below, new, old)))

    pub sum-taken : (es : List (List ℕ × A)) (v : A) → value_named name es ≡ Some v
        → sum_by value_of (without_value name es) + f v ≡ sum_by value_of es
    sum-taken [] v h = absurd (none-some v h)
    sum-taken (e ∷ es) v h = by_test (bytes_eq name e.0)
        (λ t. let same = ap f (same_Some e.1 v (rw t at h)) in
        let old = sum_by-cons value_of e es in
        rw t (omega (arith, same, old)))
        (λ t. let below = sum-taken es v (rw t at h) in
        let new = sum_by-cons value_of e (without_value name es) in
        let old = sum_by-cons value_of e es in
        rw t (omega (arith, below, new, old)))

-- entries whose values are seen by a function: the names stand where they stood
module _ {A B : Type 0} (f : A → B) (name : List ℕ) where
  pub named-seen : (es : List (List ℕ × A)) → value_named name (map (λ e. (e.0, f e.1)) es) ≡ option_map f (value_named name es)
  named-seen [] = refl
  named-seen (e ∷ es) = by_test (bytes_eq name e.0) (λ t. rw t refl) (λ t. rw t (named-seen es))

  pub put-seen : (es : List (List ℕ × A)) (v : A) → with_value name (f v) (map (λ e. (e.0, f e.1)) es)
      ≡ map (λ e. (e.0, f e.1)) (with_value name v es)
  put-seen [] v = refl
  put-seen (e ∷ es) v =
      by_test (bytes_eq name e.0) (λ t. rw t refl) (λ t. rw t (ap (λ l. (e.0, f e.1) ∷ l) (put-seen es v)))

  pub taken-seen : (es : List (List ℕ × A)) → without_value name (map (λ e. (e.0, f e.1)) es)
      ≡ map (λ e. (e.0, f e.1)) (without_value name es)
  taken-seen [] = refl
  taken-seen (e ∷ es) =
      by_test (bytes_eq name e.0) (λ t. rw t refl) (λ t. rw t (ap (λ l. (e.0, f e.1) ∷ l) (taken-seen es)))
