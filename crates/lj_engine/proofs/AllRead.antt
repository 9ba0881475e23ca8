-- What was read ahead of the items that are answered belongs to what was read.
use Rattle.std.proofs.Common.{◌≡◌, ℕ, ◌+◌, true, false, List, [], ◌∷◌, ◌++◌, Option, Some, None, inl, inr, refl, sym, ap}
use Rattle.std.proofs.Common.{◌∙◌, subst}
use Rattle.std.specs.Io.KnownBytes.{prepend_known, Consumes, IsAtEnd}
use Rattle.std.proofs.KnownBytes.{Consumes-trans}
use Rattle.std.proofs.lemmas.List.{append_assoc, append-nil}
use Rattle.lj_session.specs.Users.{User}
use Rattle.lj_session.specs.UserState.{UserState, user_of}
use Rattle.lj_wire.specs.Progress.{Progress}
use Rattle.lj_wire.specs.declared.item.Item.{Item}
use Rattle.lj_wire.specs.Items.{is_ending}
use Rattle.lj_wire.specs.Streams.{Splits}
use Rattle.lj_engine.specs.declared.served.Served.{Served}
use Rattle.lj_engine.specs.declared.served.Served.TheVariants.{End, Bye, Ended, ReadFault, WriteFault, PoolClosed}
use Rattle.lj_engine.specs.declared.served.Served.TheVariants.{TooManyStrays}
use Rattle.lj_end.specs.Seen.{Seen}
use Rattle.lj_engine.specs.Served.{AnswersAll, Reaches, StopsShort, IsServed}
use Rattle.lj_engine.specs.Served.{Serves}
use Rattle.lj_engine.proofs.Dialogues.{TakesItems-on}

-- items of which the last ends the connection are so whatever comes after them
Splits-on : (n : ℕ) (bytes : List ℕ) (earlier : List Item) (last : Item) (rest more : List ℕ) → is_ending last ≡ true
    → Splits n bytes (earlier ++ last ∷ []) rest → Splits n (bytes ++ more) (earlier ++ last ∷ []) (rest ++ more)
Splits-on n bytes [] last rest more over s = (
  s.0,
  s.1 ++ more,
  ap (λ b. b ++ more) s.2 ∙ append_assoc s.0 s.1 more,
  s.3,
  (λ e. (refl, ap (λ b. b ++ more) (s.4 e).1)),
  (λ e. absurd (let differ : true ≡ false = sym over ∙ e in cc)),
)
Splits-on n bytes (item ∷ earlier) last rest more over s = (
  s.0,
  s.1 ++ more,
  ap (λ b. b ++ more) s.2 ∙ append_assoc s.0 s.1 more,
  s.3,
  (λ e. ((s.4 e).0, ap (λ b. b ++ more) (s.4 e).1)),
  (λ e. Splits-on (n + 1) s.1 earlier last rest more over (s.5 e)),
)

module _ (state : UserState) (read written : List ℕ) (old new : Seen) (held : List ℕ) where
  abbrev user : User
  user = user_of state

  progress-on : {count : ℕ} {so_far left : List ℕ} {between : User} → Progress user read count so_far left between
      → Progress user (read ++ held) count so_far (left ++ held) between
  progress-on {count} {so_far} {left} p = record {
    items = p.items;
    marks = p.marks;
    takes = TakesItems-on 0 read p.items left held p.takes;
    counted = p.counted;
    are_marks = p.are_marks;
    written_is = p.written_is;
    next_is = p.next_is;
  }

  reaches-on : (so_far : List ℕ) (between : User) (item : Item) → Reaches user read so_far between item
      → Reaches user (read ++ held) so_far between item
  reaches-on so_far between item r = record {
    count = r.count;
    left = r.left ++ held;
    progress = progress-on r.progress;
    front = r.front;
    behind = r.behind ++ held;
    goes_on = ap (λ b. b ++ held) r.goes_on ∙ append_assoc r.front r.behind held;
    is_item = r.is_item;
  }

  ended-on : (kind : Served) (next : UserState) (a : AnswersAll kind state read written old new next)
      (earlier : List Item) (last : Item)
      → a.dialogue.items ≡ earlier ++ last ∷ [] → is_ending last ≡ true
      → AnswersAll kind state (read ++ held) written old new next
  ended-on kind next a earlier last items_are over = record {
    dialogue = record {
      items = a.dialogue.items;
      rest = a.dialogue.rest ++ held;
      marks = a.dialogue.marks;
      splits = subst (λ items. Splits 0 (read ++ held) items (a.dialogue.rest ++ held)) (sym items_are)
          (Splits-on 0 read earlier last a.dialogue.rest held over
          (subst (λ items. Splits 0 read items a.dialogue.rest) items_are a.dialogue.splits));
      are_marks = a.dialogue.are_marks;
      written_is = a.dialogue.written_is;
      next_is = a.dialogue.next_is;
    };
    ending = a.ending;
    counted = a.counted;
  }

  stops-on : StopsShort state read written old new → StopsShort state (read ++ held) written old new
  unfolding reaches-on progress-on
  stops-on (inl s) = inl (record {
    between = s.between;
    item = s.item;
    reaches = reaches-on written s.between s.item s.reaches;
    waits = s.waits;
    missing = s.missing;
  })
  stops-on (inr s) = inr (record {
    count = s.count;
    left = s.left ++ held;
    between = s.between;
    progress = progress-on s.progress;
    pending = s.pending;
    many = s.many;
  })

  same-read : held ≡ [] → read ≡ read ++ held
  same-read none = sym (ap (λ h. read ++ h) none ∙ append-nil read)

  served-on : (served : Served) (next : Option UserState) → (served ≡ End → held ≡ []) → (served ≡ ReadFault → held ≡ [])
      → IsServed served state read written old new next → IsServed served state (read ++ held) written old new next
  served-on End (Some next) at_end at_fault s =
      subst (λ r. AnswersAll End state r written old new next) (same-read (at_end refl)) s
  served-on Bye (Some next) at_end at_fault s = ended-on Bye next s s.ending.0 _ s.ending.1 refl
  served-on Ended (Some next) at_end at_fault s = ended-on Ended next s s.ending.0 _ s.ending.2 refl
  served-on ReadFault (Some next) at_end at_fault s =
      subst (λ r. AnswersAll ReadFault state r written old new next) (same-read (at_fault refl)) s
  served-on WriteFault (Some next) at_end at_fault s = record {
    before = s.before;
    between = s.between;
    item = s.item;
    reaches = reaches-on s.before s.between s.item s.reaches;
    mark = s.mark;
    only_memory = s.only_memory;
    bytes = s.bytes;
    within = s.within;
    written_is = s.written_is;
    next_is = s.next_is;
  }
  served-on PoolClosed next at_end at_fault s = (s.0, stops-on s.1)
  served-on TooManyStrays next at_end at_fault s = (s.0, stops-on s.1)
  served-on End None at_end at_fault s = absurd s
  served-on Bye None at_end at_fault s = absurd s
  served-on Ended None at_end at_fault s = absurd s
  served-on ReadFault None at_end at_fault s = absurd s
  served-on WriteFault None at_end at_fault s = absurd s

-- nothing stands before nothing
none_at_end : (held rest : List ℕ) → held ++ rest ≡ [] → held ≡ []
none_at_end [] rest e = refl
none_at_end (x ∷ held) rest e = cc

module _ (served : Served) (state : UserState) (left was is : Option (List ℕ)) (old new : Seen) (next : Option UserState) where
  -- what is told of the bytes that are left is told of those that the source has left
  pub serves-all : (rest unread : Option (List ℕ)) (held : List ℕ) → rest ≡ prepend_known held unread
      → (served ≡ End → IsAtEnd rest) → (served ≡ ReadFault → held ≡ [])
      → Serves served state left rest was is old new next → Serves served state left unread was is old new next
  serves-all rest None held ahead at_end at_fault s = record {
    read = s.read;
    written = s.written;
    taken = subst (λ r. Consumes left r s.read) ahead s.taken;
    appends = s.appends;
    is_served = s.is_served;
  }
  serves-all rest (Some bytes) held ahead at_end at_fault s = record {
    read = s.read ++ held;
    written = s.written;
    taken = Consumes-trans left (Some (held ++ bytes)) (Some bytes) s.read held
        (subst (λ r. Consumes left r s.read) ahead s.taken) refl;
    appends = s.appends;
    is_served = served-on state s.read s.written old new held served next
        (λ e. none_at_end held bytes (subst IsAtEnd ahead (at_end e)))
        at_fault
        s.is_served;
  }

-- where what is left is at its end, so is what the source has left
pub at_end-unread : (rest unread : Option (List ℕ)) (held : List ℕ) → rest ≡ prepend_known held unread
    → IsAtEnd rest → IsAtEnd unread
at_end-unread rest None held ahead ended = tt
at_end-unread rest (Some bytes) held ahead ended =
    let none : held ++ bytes ≡ [] = subst IsAtEnd ahead ended in let h =
    none_at_end held bytes none in subst (λ h. h ++ bytes ≡ []) h none
