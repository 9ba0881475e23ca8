-- A refusal leaves the sessions of all users.
use Rattle.std.proofs.Common.{◌≡◌, ◌≢◌, ℕ, zero, suc, Bool, true, false, nat_eq, List, [], ◌∷◌, slice_set, slice_index_or, Option, Some, None, option_map, option_and_then, ◌⊎◌, inl, inr, refl, sym, ◌∙◌, ap, subst, get_or-set_other, true≢false}
use Rattle.std.specs.List.{concat}
use Rattle.std.proofs.lemmas.Bool.Decides.{eqb_tells}
use Rattle.lj_session.specs.declared.reply.Reply.{Reply}
use Rattle.lj_session.specs.declared.reply.Reply.TheVariants.{Loaded, LoadedMix, Advanced, Started, Reversed, Branched}
use Rattle.lj_session.specs.declared.reply.Reply.TheVariants.{Restored, Forgotten}
use Rattle.lj_session.specs.declared.reply.Reply.TheVariants.{Tugged, Measured, Shown, Dumped, Listed, ListedBranches}
use Rattle.lj_session.specs.declared.reply.Reply.TheVariants.{Unloaded, Bye, Refused}
use Rattle.lj_branch.specs.Named.{value_named}
use Rattle.lj_session.specs.Users.{Session, User}
use Rattle.lj_session.specs.Begins.{OnRefusal}
use Rattle.lj_session.specs.Owner.{Owner, user_in, state_turned}
use Rattle.lj_wire.specs.declared.item.Item.{Item}
use Rattle.lj_wire.specs.declared.item.Item.TheVariants.{Command}
use Rattle.lj_wire.specs.ReplyTexts.{text, dump_lines, branch_lines}
use Rattle.lj_wire.specs.Told.{item_reply}
use Rattle.lj_world.specs.declared.event.Event.TheVariants.{At}
use Rattle.lj_world.specs.declared.event.ConnectionEvent.TheVariants.{Next, Turn}
use Rattle.lj_world.specs.declared.transcript.Entry.{Entry}
use Rattle.lj_world.specs.Machine.{Machine, Connection, ConnectionState, inside, connection_at}
use Rattle.lj_world.specs.Connections.{ConnectionView}
use Rattle.lj_world.specs.OwnerReplies.{Answers, BeginsAtOnce, Begins, TurnsLast, TurnsTo, OnRefusedItem}
use Rattle.lj_world.specs.Transitions.{Transition, TransitionAt, reply_entry, with_connection_view}
use Rattle.lj_world.specs.Runs.{Step}
use Rattle.lj_world.specs.RunLaws.{RefusalsLeaveSessions, IsRefusal, SessionsKept, SessionTurned, owner_inside, owner_at}

none_some : {A : Type 0} (x : A) → None ≡ Some x → ⊥
none_some x e = cc

same_some : {A : Type 0} (x y : A) → Some x ≡ Some y → x ≡ y
same_some x y e = cc

-- the first byte of a text
abbrev first_byte : List ℕ → ℕ
first_byte [] = 0
first_byte (byte ∷ bytes) = byte

abbrev is_refused : Reply → Bool
is_refused (Refused refusal) = true
is_refused _ = false

first_of_dump : (name : List ℕ) (found : Option Session) → nat_eq (first_byte (concat (dump_lines name found))) 69 ≡ false
first_of_dump name None = refl
first_of_dump name (Some session) = refl

first_of_branches : (name : List ℕ) (found : Option Session) → nat_eq (first_byte (concat (branch_lines name found))) 69 ≡ false
first_of_branches name None = refl
first_of_branches name (Some session) = refl

-- the text of a refusal begins with E, and that of no other reply does
first_of_reply : (user : User) (reply : Reply) → nat_eq (first_byte (text user reply)) 69 ≡ is_refused reply
unfolding text
first_of_reply user (Loaded name atoms) = refl
first_of_reply user (LoadedMix name atoms) = refl
first_of_reply user (Advanced name step) = refl
first_of_reply user (Started name step) = refl
first_of_reply user (Reversed name step) = refl
first_of_reply user (Branched name branch step) = refl
first_of_reply user (Restored name branch step) = refl
first_of_reply user (Forgotten name branch) = refl
first_of_reply user (Tugged name atom step) = refl
first_of_reply user (Measured name step atoms momentum kinetic potential) = refl
first_of_reply user (Shown name step atom place) = refl
first_of_reply user (Dumped name) = first_of_dump name (value_named name user.sessions)
first_of_reply user Listed = refl
first_of_reply user (ListedBranches name) = first_of_branches name (value_named name user.sessions)
first_of_reply user (Unloaded name) = refl
first_of_reply user Bye = refl
first_of_reply user (Refused refusal) = refl

-- so a fact of a refusal holds if the text is that of a refusal
where_refused : (user : User) (reply : Reply) (P : Type 0) → IsRefusal (text user reply) → OnRefusal reply P → P
where_refused user reply P refusal fact = by reply
    (sym (first_of_reply user reply) ∙ ap (λ t. nat_eq (first_byte t) 69) refusal.1) fact
  where
    by : (reply : Reply) → is_refused reply ≡ true → OnRefusal reply P → P
    by (Refused other) t h = h
    by _ t h = absurd (true≢false (sym t))

-- and if the text that answers an item is
where_replied : (owner next : Owner) (item : Item) (reply_text : List ℕ) (P : Type 0) → (answers : Answers owner item reply_text next)
    → IsRefusal reply_text → OnRefusedItem owner item answers.mark P → P
where_replied owner next item reply_text P answers refusal fact =
    let a = item_reply (user_in owner) item answers.mark in
    where_refused a.1 a.0 P (subst IsRefusal (ap (λ t. t.0) answers.is_answer) refusal) fact

-- what is written in a slot that is not empty is read there
written : (connections : List (Option Connection)) (c : ℕ) (connection new : Connection) → slice_index_or connections c None ≡ Some connection
    → slice_index_or (slice_set connections c (Some new)) c None ≡ Some new
written [] c connection new e = absurd (none_some connection e)
written (first ∷ connections) zero connection new e = refl
written (first ∷ connections) (suc c) connection new e = written connections c connection new e

-- an event at a connection changes the owner of no other
module _ (old new : Machine) (c : ℕ) (connection : Connection) (h : ConnectionView) (known : connection_at old c ≡ Some connection)
    (next : new ≡ with_connection_view c h old) where
  connections : new.connections ≡ slice_set old.connections c (Some h.connection)
  connections = ap (λ (s : Machine). s.connections) next

  owner_own : (state : ConnectionState) → h.connection.state ≡ state → owner_at new c ≡ owner_inside state
  owner_own state is =
      ap (λ o. option_and_then (λ (t : Connection). owner_inside t.state) o)
      (ap (λ ts. slice_index_or ts c None) connections ∙ written old.connections c connection h.connection known)
      ∙ ap owner_inside is

  owner_other : (d : ℕ) → d ≢ c → owner_at new d ≡ owner_at old d
  owner_other d other =
      ap (λ o. option_and_then (λ (t : Connection). owner_inside t.state) o)
      (ap (λ ts. slice_index_or ts d None) connections ∙ get_or-set_other old.connections c d (Some h.connection) None other)

-- the owner of a connection that owns the state
owner_was : (old : Machine) (c : ℕ) (connection : Connection) (owner : Owner) → connection_at old c ≡ Some connection
    → connection.state ≡ inside owner → owner_at old c ≡ Some owner
owner_was old c connection owner known owns =
    ap (λ o. option_and_then (λ (t : Connection). owner_inside t.state) o) known ∙ ap owner_inside owns

-- without a text there is no reply
not_replied : (c : ℕ) (connection : Connection) (reply : Entry) → Some reply ≡ option_map (reply_entry c connection) None → ⊥
not_replied c connection reply e = none_some reply (sym e)

-- the text that is replied
replied : (c : ℕ) (connection : Connection) (reply : Entry) (reply_text : List ℕ) → Some reply ≡ option_map (reply_entry c connection) (Some reply_text)
    → reply.text ≡ reply_text
replied c connection reply reply_text e = ap (λ (x : Entry). x.text) (same_some reply (reply_entry c connection reply_text) e)

-- NEXT: the item is refused as it is begun
module _ (old : Machine) (c : ℕ) (reply : Entry) (new : Machine) (p : TransitionAt old c Next (Some reply) new)
    (refusal : IsRefusal reply.text) where
  module _ (reply_text : List ℕ) (e : p.text ≡ Some reply_text) where
    once : BeginsAtOnce p.transition.owner p.transition.item reply_text p.transition.after
    once = subst (λ t. Begins p.transition.owner p.transition.item t p.transition.after) e p.transition.begins

    same : p.transition.after ≡ p.transition.owner
    same = where_replied p.transition.owner p.transition.after p.transition.item reply_text (p.transition.after ≡ p.transition.owner) once.answers
        (subst IsRefusal (replied c p.connection reply reply_text (p.replies ∙ ap (option_map (reply_entry c p.connection)) e)) refusal) once.unchanged

    own : owner_at new c ≡ owner_at old c
    own = owner_own old new c p.connection p.after p.known p.next (inside p.transition.after) (ap (λ (h : ConnectionView). h.connection.state) p.transition.next)
        ∙ ap (λ (o : Owner). Some o) same
        ∙ sym (owner_was old c p.connection p.transition.owner p.known p.transition.can.owns)

    each : (d : ℕ) → ((nat_eq d c ≡ true) × (d ≡ c)) ⊎ ((nat_eq d c ≡ false) × (d ≢ c)) → owner_at new d ≡ owner_at old d
    each d (inl (_, is)) = ap (owner_at new) is ∙ own ∙ sym (ap (owner_at old) is)
    each d (inr (_, other)) = owner_other old new c p.connection p.after p.known p.next d other

    kept : SessionsKept old new
    kept = record {
      rows = ap (λ (s : Machine). s.rows) p.next ∙ ap (λ (h : ConnectionView). h.rows) p.transition.next;
      owners = λ d. each d (eqb_tells d c);
    }

  next_leaves : SessionsKept old new
  next_leaves = by p.text refl
    where
      by : (reply_text : Option (List ℕ)) → p.text ≡ reply_text → SessionsKept old new
      by None e = absurd (not_replied c p.connection reply (p.replies ∙ ap (option_map (reply_entry c p.connection)) e))
      by (Some reply_text) e = kept reply_text e

-- TURN: the pending command is refused at its last turn
module _ (old : Machine) (c : ℕ) (session : Option (List ℕ)) (reply : Entry) (new : Machine)
    (p : TransitionAt old c (Turn session) (Some reply) new) (refusal : IsRefusal reply.text) where
  module _ (reply_text : List ℕ) (e : p.text ≡ Some reply_text) where
    last : TurnsLast p.transition.owner p.transition.name reply_text p.transition.after
    last = subst (λ t. TurnsTo p.transition.owner p.transition.name t p.transition.after) e p.transition.turns

    turned : SessionTurned c session old new
    turned = record {
      rows = ap (λ (s : Machine). s.rows) p.next ∙ ap (λ (h : ConnectionView). h.rows) p.transition.next;
      others = owner_other old new c p.connection p.after p.known p.next;
      owner = p.transition.owner;
      owns = owner_was old c p.connection p.transition.owner p.known p.transition.owns;
      name = p.transition.name;
      can = p.transition.can;
      after = p.transition.after;
      left = owner_own old new c p.connection p.after p.known p.next (inside p.transition.after) (ap (λ (h : ConnectionView). h.connection.state) p.transition.next);
      turned = where_replied p.transition.owner p.transition.after (Command last.command) reply_text
          (p.transition.after.state ≡ state_turned p.transition.name p.transition.owner.state) last.answers
          (subst IsRefusal (replied c p.connection reply reply_text (p.replies ∙ ap (option_map (reply_entry c p.connection)) e)) refusal) last.refused;
    }

  turn_leaves : SessionTurned c session old new
  turn_leaves = by p.text refl
    where
      by : (reply_text : Option (List ℕ)) → p.text ≡ reply_text → SessionTurned c session old new
      by None e = absurd (not_replied c p.connection reply (p.replies ∙ ap (option_map (reply_entry c p.connection)) e))
      by (Some reply_text) e = turned reply_text e

at_next : (old : Machine) (c : ℕ) (reply : Entry) (new : Machine) → Step old (At c Next) (Some reply) new
    → IsRefusal reply.text → SessionsKept old new
unfolding Transition
at_next old c reply new (inl p) refusal = next_leaves old c reply new p refusal
at_next old c reply new (inr (_, no_reply, _)) refusal = absurd (none_some reply (sym no_reply))

at_turn : (old : Machine) (c : ℕ) (session : Option (List ℕ)) (reply : Entry) (new : Machine)
    → Step old (At c (Turn session)) (Some reply) new → IsRefusal reply.text → SessionTurned c session old new
unfolding Transition
at_turn old c session reply new (inl p) refusal = turn_leaves old c session reply new p refusal
at_turn old c session reply new (inr (_, no_reply, _)) refusal = absurd (none_some reply (sym no_reply))

pub sessions_left : RefusalsLeaveSessions
sessions_left = record { at_next = at_next; at_turn = at_turn }
