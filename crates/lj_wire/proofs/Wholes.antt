-- Items read whole, and parts of items.
use Rattle.std.proofs.Common.{◌<◌, ◌≡◌, ℕ, ◌+◌, ◌≤◌, Bool, true, false, cond, if◌then◌else◌, Result, Ok, Err, IfOk, OnErr, List, [], ◌∷◌, ◌++◌, length, take, drop, Option, Some}
use Rattle.std.proofs.Common.{None, inl, inr, refl, sym, ap, ◌∙◌, subst, arith, append_assoc}
use Rattle.std.proofs.lemmas.Bool.{lt-ltb}
use Rattle.std.proofs.lemmas.List.{drop_at, take_at, length-append, length-drop}
use Rattle.std.proofs.KnownBytes.{Consumes-nil}
use Rattle.std.specs.Io.KnownBytes.{Keeps, Consumes}
use Rattle.lj_session.specs.declared.body.LoadBody.{LoadBody}
use Rattle.lj_session.specs.declared.body.LoadBody.TheVariants.{Unread, Lost, Read}
use Rattle.lj_session.specs.declared.command.Command.TheVariants.{Load, Advance, Start, Reverse, Branch, Restore, Forget, Tug}
use Rattle.lj_session.specs.declared.command.Command.TheVariants.{Measure, Show, Dump, List as ListSessions}
use Rattle.lj_session.specs.declared.command.Command.TheVariants.{ListBranches, Unload, Bye}
use Rattle.lj_wire.specs.declared.line_limits.TheConstants.{MAX_LINE_BYTES, LONG_LINE_BYTES, MAX_ITEMS}
use Rattle.lj_wire.specs.declared.reader.buffer.TheConstants.{MAX_HELD_BYTES}
use Rattle.lj_wire.specs.declared.item.Fault.TheVariants.{Line, Long, Enough}
use Rattle.lj_wire.specs.declared.source_and_sink.ReadFault.{ReadFault}
use Rattle.lj_wire.specs.declared.item.Item.{Item}
use Rattle.lj_wire.specs.declared.item.Item.TheVariants.{Command, Bad, Last}
use Rattle.lj_wire.specs.Input.{Input, bytes_untaken, TakesBytes, HoldsLine, ReadsFor}
use Rattle.lj_wire.specs.Commands.{body_len_announced, is_over, over_item, body_len, words_in, item_of_words, item_with, item_of}
use Rattle.lj_wire.specs.Items.{with_body}
use Rattle.lj_wire.specs.declared.reader.phase.Phase.TheVariants.{Open, Over}
use Rattle.lj_wire.specs.LineReader.{LineReader, BeginsWithItem, IsLost, IsHandedItem, HandsOutItem}
use Rattle.lj_wire.specs.ItemSteps.{TakesLongLine, TakesLong, TakesFewer, ReadsBody, TakesRest, FinishesItem, TakesNoItem}
use Rattle.lj_wire.specs.ItemSteps.{ReadsItem, may_take_body}
use Rattle.lj_wire.specs.Streams.{IsLine}
use Rattle.lj_wire.proofs.Filling.{line_filled}
use Rattle.lj_wire.proofs.Taking.{TakesBytes-trans, TakesBytes-held, Kept-takes}

-- a load whose body is lost
lost : (item : Item) (body : List ℕ) (handed : Item) → may_take_body item ≡ true → handed ≡ with_body item Lost
    → IsLost (with_body item (Read body)) handed
lost (Command (Load load)) body handed can is = record { load = load; body = body; found_is = refl; item_is = is }
lost (Command (Advance name steps)) body handed can is = cc
lost (Command (Start name steps)) body handed can is = cc
lost (Command (Reverse name)) body handed can is = cc
lost (Command (Branch name branch)) body handed can is = cc
lost (Command (Restore name branch)) body handed can is = cc
lost (Command (Forget name branch)) body handed can is = cc
lost (Command (Tug name atom x y z)) body handed can is = cc
lost (Command (Measure name)) body handed can is = cc
lost (Command (Show name atom)) body handed can is = cc
lost (Command (Dump name)) body handed can is = cc
lost (Command ListSessions) body handed can is = cc
lost (Command (ListBranches name)) body handed can is = cc
lost (Command (Unload name)) body handed can is = cc
lost (Command Bye) body handed can is = cc
lost (Bad fault) body handed can is = cc
lost (Last fault) body handed can is = cc

-- the body of a load was read, or passed over for want of memory
pub rest_taken : (old new : Input) (item : Item) (count : ℕ) (body : LoadBody) (handed : Item) → may_take_body item ≡ true
    → ReadsBody old (Some body) count new → handed ≡ with_body item body → TakesRest old new item count handed
rest_taken old new item count (Read body) handed can read is =
    record { body = body; taken = read.0; counted = read.1; is_handed = inl is }
rest_taken old new item count Lost handed can passed is =
    record {
      body = passed.bytes;
      taken = passed.taken;
      counted = passed.counted;
      is_handed = inr (lost item passed.bytes handed can is);
    }
rest_taken old new item count Unread handed can none is = absurd none

-- the line of an item was taken, with its line feed
pub record LineTaken (old new : Input) (line : List ℕ) : Type 0 where
  pub taken : TakesBytes old new (line ++ 10 ∷ [])
  pub is_line : IsLine line

pub line_taken : (old mid new : Input) (count : ℕ) (line : List ℕ)
    → Keeps (bytes_untaken old) (bytes_untaken mid) → HoldsLine mid count
    → line ≡ take count mid.held → length mid.held ≤ MAX_HELD_BYTES
    → new ≡ record mid { held = drop (count + 1) mid.held }
    → LineTaken old new line
line_taken old mid new count line kept h is bounded after =
    let held = ap (λ a. a.held) after in
    let unread = ap (λ a. a.unread) after in
    let same : line ≡ h.line = is ∙ ap (take count) h.held ∙ take_at h.line (10 ∷ h.behind) count h.counted in
    let feed = h.line ++ 10 ∷ [] in
    let cut : mid.held ≡ feed ++ h.behind = h.held ∙ sym (append_assoc h.line (10 ∷ []) h.behind) in
    let sizes = length-append h.line (10 ∷ h.behind) in
    let counted : length feed ≡ count + 1 = length-append h.line (10 ∷ []) ∙ ap (λ n. n + 1) h.counted in
    let left : new.held ≡ h.behind = held ∙ ap (drop (count + 1)) cut ∙ drop_at feed h.behind (count + 1) counted in
    let taken = Kept-takes old mid new feed kept (TakesBytes-held mid new feed h.behind cut left unread) in
    let is_line : IsLine h.line = (h.one_line, omega (arith, ap length h.held, sizes, bounded)) in
    record {
      taken = subst (λ (l : List ℕ). TakesBytes old new (l ++ 10 ∷ [])) (sym same) taken;
      is_line = subst IsLine (sym same) is_line;
    }

-- and more after it
line_and : (old mid new : Input) (line more : List ℕ) → LineTaken old mid line → TakesBytes mid new more
    → TakesBytes old new (line ++ 10 ∷ more)
line_and old mid new line more t taken =
    subst (TakesBytes old new) (append_assoc line (10 ∷ []) more)
    (TakesBytes-trans old mid new (line ++ 10 ∷ []) more t.taken taken)

-- less than the body was taken
pub open_body : (old mid new : Input) (line : List ℕ) (count : ℕ) → LineTaken old mid line
    → count ≡ body_len_announced line → TakesFewer mid new count
    → TakesNoItem old new
open_body old mid new line count t n f = record {
  part = line ++ 10 ∷ f.part;
  taken = line_and old mid new line f.part t f.taken;
  is_part =
      inr (record {
        line = line;
        body = f.part;
        whole = refl;
        is_line = t.is_line;
        announces = omega (arith, n, f.fewer);
      });
}

-- nothing is read for a line and so many bytes after it where they are held
abbrev pub Onward : Input → Input → Input → List ℕ → ℕ → Type 0
Onward old mid new line count = length line + 1 + count ≤ length old.held → new.unread ≡ old.unread

pub goes_onward : (old found mid new : Input) (line : List ℕ) (at count : ℕ) → length line ≡ at
    → (at < length old.held → found ≡ old)
    → mid ≡ record found { held = drop (at + 1) found.held } → ReadsFor mid new count → Onward old mid new line count
goes_onward old found mid new line at count is searched taken reads held =
    let same = searched (omega (arith, is, held)) in
    let left = ap (λ a. length a.held) taken ∙ length-drop (at + 1) found.held in
    let enough : count ≤ length mid.held = omega (arith, left, ap (λ a. length a.held) same, is, held) in
    reads enough ∙ ap (λ a. a.unread) taken ∙ ap (λ a. a.unread) same

-- the rest of the item was taken after its line
pub finished : (old mid new : Input) (line : List ℕ) (item : Item) (count : ℕ) (handed : Option Item)
    → LineTaken old mid line
    → Onward old mid new line count
    → item ≡ item_with line Unread → count ≡ body_len_announced line → FinishesItem mid item count handed new
    → ReadsItem old handed new
finished old mid new line item count (Some handed) t on is n f = record {
  front = line ++ 10 ∷ f.body;
  found = item_of line f.body;
  taken = line_and old mid new line f.body t f.taken;
  is_item =
      inl (record {
        line = line;
        body = f.body;
        whole = refl;
        is_line = t.is_line;
        announces = f.counted ∙ n;
        means = refl;
      });
  is_handed =
      subst (λ found. IsHandedItem found handed) (ap (λ i. with_body i (Read f.body)) is
      ∙ line_filled line (Read f.body)) f.is_handed;
  reads_for = λ held. on (omega (arith, held, length-append line (10 ∷ f.body), f.counted));
}
finished old mid new line item count None t on is n f = (open_body old mid new line count t n f.0, f.1)

-- a line of more than 256 bytes is an item without a body
pub long_line : (old mid new : Input) → Keeps (bytes_untaken old) (bytes_untaken mid) → length old.held ≤ length mid.held
    → TakesLongLine mid new → ReadsItem old (Some (Bad Line)) new
long_line old mid new kept more t =
    let over : is_over t.line ≡ true = lt-ltb MAX_LINE_BYTES (length t.line) t.long in
    let less = lt-ltb (length t.line) LONG_LINE_BYTES t.is_line.1 in
    record {
      front = t.line ++ 10 ∷ [];
      found = Bad Line;
      taken = Kept-takes old mid new (t.line ++ 10 ∷ []) kept t.taken;
      is_item = inl (record {
        line = t.line;
        body = [];
        whole = refl;
        is_line = t.is_line;
        announces = ap (λ b. cond b 0 (body_len (words_in t.line))) (sym over);
        means = ap (λ b. cond b (Bad Line) (Last Long)) (sym less)
            ∙ ap (λ b. cond b (over_item t.line) (item_of_words (words_in t.line) (Read []))) (sym over);
      });
      is_handed = inl refl;
      reads_for = λ held. absurd (omega (arith, held, more, t.beyond, length-append t.line (10 ∷ [])));
    }

-- what is too long for a line ends the connection
pub too_long : (old mid new : Input) → Keeps (bytes_untaken old) (bytes_untaken mid) → length old.held ≤ length mid.held
    → length mid.held ≤ MAX_HELD_BYTES → TakesLong mid new → ReadsItem old (Some (Last Long)) new
too_long old mid new kept more bounded t = record {
  front = t.bytes;
  found = Last Long;
  taken = Kept-takes old mid new t.bytes kept t.taken;
  is_item = inr (record { one_line = t.one_line; long = t.long; means = refl });
  is_handed = inl refl;
  reads_for = λ held. absurd (omega (arith, held, more, bounded, t.long));
}

-- after a million items the last fault is handed out, for which nothing is taken
pub enough : (old new : LineReader) → old.phase ≡ Open → old.items ≡ MAX_ITEMS → old.left ≡ new.left
    → new.unread ≡ old.unread → new.items ≡ old.items + 1
    → new.errors ≡ old.errors → new.phase ≡ Over → HandsOutItem old new (Last Enough)
enough old new is_open items left unread counted errors over = record {
  was_open = is_open;
  front = [];
  found = Last Enough;
  taken = subst (λ (l : Option (List ℕ)). Consumes old.left l []) left (Consumes-nil old.left);
  is_item = inr (items, refl, refl);
  is_found = inl refl;
  items_is = counted;
  errors_is = errors;
  unread_is = λ _. unread;
  phase_is = over;
}

-- an item that is held begins with a line that is held
pub held_line : (ahead : Input) (begins : BeginsWithItem ahead.held) → HoldsLine ahead (length begins.line)
held_line ahead begins =
    record { line = begins.line; behind = begins.behind; held = begins.whole; one_line = begins.one_line; counted = refl }

-- the line that is taken is the one that was held, so that no body follows it
pub bare_taken : (old mid : Input) (begins : BeginsWithItem old.held) (count : ℕ) (line : List ℕ) → count ≡ length begins.line
    → mid ≡ old → line ≡ take count mid.held → body_len_announced line ≡ 0
bare_taken old mid begins count line counted same is =
    let held = ap (λ a. take count a.held) same ∙ ap (take count) begins.whole in
    let line_is : line ≡ begins.line = is ∙ held ∙ take_at begins.line (10 ∷ begins.behind) count (sym counted) in
    ap body_len_announced line_is ∙ begins.bare

-- an item without a body is finished
pub finished_bare : (r : Result Bool ReadFault) (old new : Input) (item handed : Item) (count : ℕ) → count ≡ 0
    → IfOk r (λ whole. FinishesItem old item count (if whole then Some handed else None) new)
    → OnErr r (TakesFewer old new count) → r ≡ Ok true
finished_bare (Ok true) old new item handed count none finishes fewer = refl
finished_bare (Ok false) old new item handed count none finishes fewer = absurd (omega (arith, none, finishes.0.fewer))
finished_bare (Err fault) old new item handed count none finishes fewer = absurd (omega (arith, none, fewer.fewer))
