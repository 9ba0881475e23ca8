-- A long line that is passed over: its bytes so far are taken, and only counted.
use Rattle.std.proofs.Common.{◌≡◌, ℕ, ◌+◌, ◌-◌, ◌<◌, ◌≤◌, min, List, [], ◌∷◌, ◌++◌, ◌⊎◌, inl, inr, length, take, drop}
use Rattle.std.proofs.Common.{sym, ap, ◌∙◌, subst, arith, append_assoc}
use Rattle.std.proofs.lemmas.List.{take-append-drop, drop_at, drop_all, length-append, length-take-le}
use Rattle.lj_wire.specs.declared.line_limits.TheConstants.{MAX_LINE_BYTES, LONG_LINE_BYTES}
use Rattle.lj_wire.specs.Input.{Input, TakesBytes, Grows, HoldsLine}
use Rattle.lj_wire.specs.ItemSteps.{TakesLongLine}
use Rattle.lj_wire.specs.Streams.{LacksLineFeed}
use Rattle.lj_wire.proofs.Splitting.{no_feed_beyond, no_feed_within, same_line}
use Rattle.lj_wire.proofs.Taking.{TakesBytes-none, TakesBytes-trans, TakesBytes-kept, TakesBytes-held, lacks_both}

pub record Passing (old new : Input) (seen : ℕ) : Type 0 where
  pub bytes : List ℕ
  pub taken : TakesBytes old new bytes
  pub one_line : LacksLineFeed bytes
  pub counted : length bytes ≡ seen
  pub long : MAX_LINE_BYTES < seen
  pub begun : length old.held ≤ seen
  pub bounded : seen ≤ LONG_LINE_BYTES
  pub held : seen < LONG_LINE_BYTES → new.held ≡ []
  pub errors : new.errors ≡ old.errors

-- a front of what is held is taken after what was taken before
pub taken_more : (old mid grown new : Input) (bytes front behind : List ℕ) (count : ℕ)
    → TakesBytes old mid bytes → Grows mid grown count
    → grown.held ≡ front ++ behind → new.held ≡ behind → new.unread ≡ grown.unread → TakesBytes old new (bytes ++ front)
taken_more old mid grown new bytes front behind count t g e is same =
    TakesBytes-trans old grown new bytes front (TakesBytes-kept old mid grown bytes t g.kept)
    (TakesBytes-held grown new front behind e is same)

-- the line feed comes
pub passing_feed : (old mid grown new : Input) (seen count wanted : ℕ) (line behind : List ℕ)
    → Passing old mid seen → Grows mid grown count
    → wanted ≤ LONG_LINE_BYTES - seen → wanted ≤ length grown.held
    → take wanted grown.held ≡ line ++ 10 ∷ behind → LacksLineFeed line
    → new ≡ record grown { held = drop (length line + 1) grown.held } → TakesLongLine old new
passing_feed old mid grown new seen count wanted line behind p g low within e one taken =
    let is = ap (λ a. a.held) taken in
    let same = ap (λ a. a.unread) taken in
    let rest = behind ++ drop wanted grown.held in
    let cut : grown.held ≡ (line ++ 10 ∷ []) ++ rest =
    sym (take-append-drop wanted grown.held) ∙ ap (λ (l : List ℕ). l ++ drop wanted grown.held) e
    ∙ append_assoc line (10 ∷ behind) (drop wanted grown.held) ∙ sym (append_assoc line (10 ∷ []) rest) in
    let count_is : length (line ++ 10 ∷ []) ≡ length line + 1 = length-append line (10 ∷ []) in
    let left : new.held ≡ rest =
    is ∙ ap (drop (length line + 1)) cut ∙ drop_at (line ++ 10 ∷ []) rest (length line + 1) count_is in
    let sizes = length-append line (10 ∷ behind) in
    let shorter = length-take-le wanted grown.held within in
    record {
      line = p.bytes ++ line;
      taken = subst (TakesBytes old new) (sym (append_assoc p.bytes line (10 ∷ [])))
          (taken_more old mid grown new p.bytes (line ++ 10 ∷ []) rest count p.taken g cut left same);
      is_line = (
        lacks_both p.bytes line p.one_line one,
        omega (arith, length-append p.bytes line, p.counted, ap length e, sizes, shorter),
      );
      long = omega (arith, length-append p.bytes line, p.counted, p.long);
      beyond = omega (arith, length-append p.bytes line, p.counted, p.begun);
    }

-- the first bytes of what is held are taken, after those that were taken before
record TakesFront (old grown new : Input) (bytes : List ℕ) (count : ℕ) : Type 0 where
  taken : TakesBytes old new (bytes ++ take count grown.held)
  counted : length (bytes ++ take count grown.held) ≡ length bytes + count
  emptied : length grown.held ≤ count → new.held ≡ []
  errors : new.errors ≡ grown.errors

takes_front : (old grown new : Input) (bytes : List ℕ) (count : ℕ) → TakesBytes old grown bytes → count ≤ length grown.held
    → new ≡ record grown { held = drop count grown.held } → TakesFront old grown new bytes count
takes_front old grown new bytes count t within taken =
    let front = take count grown.held in
    let held = ap (λ a. a.held) taken in
    let cut = sym (take-append-drop count grown.held) in
    record {
      taken = TakesBytes-trans old grown new bytes front t
          (TakesBytes-held grown new front (drop count grown.held) cut held (ap (λ a. a.unread) taken));
      counted = length-append bytes front ∙ ap (λ n. length bytes + n) (length-take-le count grown.held within);
      emptied = λ all. held ∙ drop_all count grown.held all;
      errors = ap (λ a. a.errors) taken;
    }

-- no line feed is among them
pub passing_more : (old mid grown new : Input) (seen count wanted : ℕ) → Passing old mid seen → Grows mid grown count
    → grown.errors ≡ mid.errors → seen < LONG_LINE_BYTES → wanted ≡ min (LONG_LINE_BYTES - seen) (length grown.held)
    → LacksLineFeed (take wanted grown.held) → new ≡ record grown { held = drop wanted grown.held }
    → Passing old new (seen + wanted)
passing_more old mid grown new seen count wanted p g errors more is one taken =
    let read = TakesBytes-kept old mid grown p.bytes p.taken g.kept in
    let front = takes_front old grown new p.bytes wanted read (omega arith) taken in
    record {
      bytes = p.bytes ++ take wanted grown.held;
      taken = front.taken;
      one_line = lacks_both p.bytes (take wanted grown.held) p.one_line one;
      counted = omega (arith, p.counted, front.counted);
      long = omega (arith, p.long);
      begun = omega (arith, p.begun);
      bounded = omega arith;
      held = λ less. front.emptied (omega (arith, is, less));
      errors = front.errors ∙ errors ∙ p.errors;
    }

-- so many bytes were to be taken, and so many of them are left
pub record Counting (old new : Input) (count left : ℕ) : Type 0 where
  pub bytes : List ℕ
  pub taken : TakesBytes old new bytes
  pub counted : length bytes + left ≡ count
  pub held : 0 < left → new.held ≡ []
  pub errors : new.errors ≡ old.errors
  pub reads_for : count ≤ length old.held → (left ≡ 0) × (new.unread ≡ old.unread)

pub counting_start : (old new : Input) (count some : ℕ) → some ≡ min (length old.held) count
    → new ≡ record old { held = drop some old.held } → Counting old new count (count - some)
counting_start old new count some is taken =
    let front = takes_front old old new [] some (TakesBytes-none old) (omega arith) taken in
    record {
      bytes = take some old.held;
      taken = front.taken;
      counted = omega (arith, is, front.counted);
      held = λ more. front.emptied (omega (arith, is, more));
      errors = front.errors;
      reads_for = λ enough. (omega (arith, is, enough), ap (λ a. a.unread) taken);
    }

pub counting_more : (old mid grown new : Input) (count left read some : ℕ) → Counting old mid count left
    → Grows mid grown read → grown.errors ≡ mid.errors → some ≡ min (length grown.held) left
    → new ≡ record grown { held = drop some grown.held } → 0 < left → Counting old new count (left - some)
counting_more old mid grown new count left read some p g errors is taken more_left =
    let front =
    takes_front old grown new p.bytes some (TakesBytes-kept old mid grown p.bytes p.taken g.kept) (omega arith) taken in
    record {
      bytes = p.bytes ++ take some grown.held;
      taken = front.taken;
      counted = omega (arith, is, p.counted, front.counted);
      held = λ more. front.emptied (omega (arith, is, more));
      errors = front.errors ∙ errors ∙ p.errors;
      reads_for = λ enough. absurd (omega (arith, more_left, (p.reads_for enough).0));
    }

-- a line is looked for: nothing was read yet, or what was held has no line feed
abbrev pub Searched : Input → Input → Type 0
Searched old new = (new ≡ old) ⊎ LacksLineFeed old.held × (more : List ℕ) × (new.held ≡ old.held ++ more)

-- more is read, since what is held has no line feed
pub searched_more : (old mid new : Input) (count : ℕ) → Searched old mid → LacksLineFeed mid.held
    → Grows mid new count → Searched old new
searched_more old mid new count (inl same) lacks g =
    inr (
      subst LacksLineFeed (ap (λ a. a.held) same) lacks,
      g.more,
      g.held
          ∙ ap (λ (h : List ℕ). h ++ g.more) (ap (λ a. a.held) same),
    )
searched_more old mid new count (inr s) lacks g =
    inr (s.0, s.1 ++ g.more, g.held ∙ ap (λ (h : List ℕ). h ++ g.more) s.2 ∙ append_assoc old.held s.1 g.more)

-- a line that was held stands where it stood
pub searched_line : (old new : Input) (line behind : List ℕ) → Searched old new → new.held ≡ line ++ 10 ∷ behind
    → length line < length old.held → new ≡ old
searched_line old new line behind (inl same) e less = same
searched_line old new line behind (inr s) e less =
    absurd (no_feed_beyond line behind old.held s.1 (sym e ∙ s.2) s.0 less)

pub searched_long : (old new : Input) → Searched old new → length old.held ≤ length new.held
searched_long old new (inl same) = omega (arith, ap (λ a. length a.held) same)
searched_long old new (inr s) = omega (arith, ap length s.2, length-append old.held s.1)

-- where a line was held, no more was read
pub searched_lacks : (old mid : Input) (count : ℕ) → Searched old mid → LacksLineFeed mid.held → HoldsLine old count → ⊥
searched_lacks old mid count (inl same) lacks h =
    no_feed_within h.line h.behind (subst LacksLineFeed (ap (λ a. a.held) same ∙ h.held) lacks)
searched_lacks old mid count (inr s) lacks h =
    no_feed_within h.line h.behind (subst LacksLineFeed h.held s.0)

-- the line that is found is the one that was held
pub searched_found : (old mid : Input) (count found : ℕ) (line behind : List ℕ) → Searched old mid
    → mid.held ≡ line ++ 10 ∷ behind → LacksLineFeed line → length line ≡ found → HoldsLine old count
    → (found ≡ count) × (mid ≡ old)
searched_found old mid count found line behind (inl same) e one is h =
    let lines = same_line line h.line behind h.behind one h.one_line (sym e ∙ ap (λ a. a.held) same ∙ h.held) in
    (sym is ∙ ap length lines.0 ∙ h.counted, same)
searched_found old mid count found line behind (inr s) e one is h =
    absurd (no_feed_within h.line h.behind (subst LacksLineFeed h.held s.0))
