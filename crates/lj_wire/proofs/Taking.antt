-- What reading and taking do to what lies ahead of a reader.
use Rattle.std.proofs.Common.{◌≡◌, ℕ, ◌||◌, List, [], ◌++◌, Option, Some, None, sym, ap, ◌∙◌, subst, append_assoc}
use Rattle.std.proofs.lemmas.List.Folds.{list_any-append}
use Rattle.std.proofs.KnownBytes.{Consumes-nil, Consumes-trans}
use Rattle.std.specs.Io.KnownBytes.{prepend_known, Consumes, Keeps}
use Rattle.std.specs.List.{list_any}
use Rattle.lj_xyz.specs.Lines.{is_line_feed}
use Rattle.lj_wire.specs.Input.{Input, bytes_untaken, TakesBytes}
use Rattle.lj_wire.specs.Streams.{LacksLineFeed}

-- nothing is kept back and nothing taken
pub TakesBytes-none : (a : Input) → TakesBytes a a []
TakesBytes-none a = Consumes-nil (bytes_untaken a)

pub TakesBytes-trans : (a b c : Input) (first second : List ℕ) → TakesBytes a b first → TakesBytes b c second
    → TakesBytes a c (first ++ second)
TakesBytes-trans a b c first second p q = Consumes-trans (bytes_untaken a) (bytes_untaken b) (bytes_untaken c) first second p q

-- what is only read is not yet taken
pub TakesBytes-kept : (a b c : Input) (bytes : List ℕ) → TakesBytes a b bytes → Keeps (bytes_untaken b) (bytes_untaken c) → TakesBytes a c bytes
TakesBytes-kept a b c bytes p q = consumed (bytes_untaken a) (bytes_untaken b) (bytes_untaken c) p q
  where
    consumed : (x y z : Option (List ℕ)) → Consumes x y bytes → Keeps y z → Consumes x z bytes
    consumed None y z p q = tt
    consumed (Some x) None z p q = absurd p
    consumed (Some x) (Some y) None p q = absurd q
    consumed (Some x) (Some y) (Some z) p q = p ∙ ap (λ (l : List ℕ). bytes ++ l) (sym q)

pub Kept-takes : (a b c : Input) (bytes : List ℕ) → Keeps (bytes_untaken a) (bytes_untaken b) → TakesBytes b c bytes → TakesBytes a c bytes
Kept-takes a b c bytes p q = consumed (bytes_untaken a) (bytes_untaken b) (bytes_untaken c) p q
  where
    consumed : (x y z : Option (List ℕ)) → Keeps x y → Consumes y z bytes → Consumes x z bytes
    consumed None y z p q = tt
    consumed (Some x) None z p q = absurd p
    consumed (Some x) (Some y) None p q = absurd q
    consumed (Some x) (Some y) (Some z) p q = sym p ∙ q

-- a front of what is held is taken
pub TakesBytes-front : (front behind : List ℕ) (unread : Option (List ℕ))
    → Consumes (prepend_known (front ++ behind) unread) (prepend_known behind unread) front
TakesBytes-front front behind None = tt
TakesBytes-front front behind (Some bytes) = append_assoc front behind bytes

pub TakesBytes-held : (a b : Input) (front behind : List ℕ) → a.held ≡ front ++ behind → b.held ≡ behind
    → b.unread ≡ a.unread → TakesBytes a b front
TakesBytes-held a b front behind e is same =
    subst (λ x. Consumes x (bytes_untaken b) front) (ap (λ h. prepend_known h a.unread) (sym e))
    (subst (λ x. Consumes (prepend_known (front ++ behind) a.unread) x front)
    (ap (λ h. prepend_known h a.unread) (sym is) ∙ ap (λ u. prepend_known b.held u) (sym same))
    (TakesBytes-front front behind a.unread))

-- bytes without a line feed, one after the other
pub lacks_both : (first second : List ℕ) → LacksLineFeed first → LacksLineFeed second → LacksLineFeed (first ++ second)
lacks_both first second h k =
    list_any-append is_line_feed first second ∙ ap (λ b. b || list_any is_line_feed second) h ∙ k
