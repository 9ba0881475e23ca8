-- An event that is not a user's own changes nothing of that user.
use Rattle.std.proofs.Common.{◌≡◌, ◌≢◌, ℕ, zero, suc, true, false, cond, nat_eq, List, [], ◌∷◌, slice_get, slice_set, slice_index_or, Option, Some, None, option_map, option_and_then, ◌⊎◌, inl, inr, refl, sym, ◌∙◌, ap, ne_eqb, get_or-set_other}
use Rattle.std.proofs.lemmas.Bool.Decides.{eqb_tells}
use Rattle.lj_session.specs.UserState.{with_steps_restarted}
use Rattle.lj_access.specs.UserRows.{UserRow, with_ticket, without_home, with_home}
use Rattle.lj_world.specs.declared.event.Event.{Event}
use Rattle.lj_world.specs.declared.event.Event.TheVariants.{Hello, At, By}
use Rattle.lj_world.specs.declared.transcript.Entry.{Entry}
use Rattle.lj_world.specs.Machine.{Machine, Connection, connection_at, new_connection}
use Rattle.lj_world.specs.Transitions.{Transition, reply_entry}
use Rattle.lj_world.specs.RunLaws.{OthersChangeNothing, Untouched, actor, connection_of}
use Rattle.lj_world.proofs.RowLemmas.{row_other}
use Rattle.lj_world.proofs.TicketChanges.{TicketChange, stays, enters, leaves, ticket_change}

none_some : {A : Type 0} (x : A) → None ≡ Some x → ⊥
none_some x e = cc

same_some : {A : Type 0} (x y : A) → Some x ≡ Some y → x ≡ y
same_some x y e = cc

-- the connection, if it is this user's
abbrev only : ℕ → Option Connection → Option Connection
only user o = option_and_then (λ connection. cond (nat_eq connection.user user) (Some connection) None) o

-- another user's connection is none of this user
hidden : (user : ℕ) (o : Option Connection) (connection : Connection) → connection.user ≢ user → (o ≡ Some connection) ⊎ (o ≡ None) → only user o ≡ None
hidden user o connection differs (inl e) = ap (only user) e ∙ ap (λ b. cond b (Some connection) None) (ne_eqb connection.user user differs)
hidden user o connection differs (inr e) = ap (only user) e

-- a slot that was written has what was written, or nothing
written : (connections : List (Option Connection)) (c : ℕ) (connection : Connection)
    → (slice_index_or (slice_set connections c (Some connection)) c None ≡ Some connection) ⊎ (slice_index_or (slice_set connections c (Some connection)) c None ≡ None)
written [] c connection = inr refl
written (first ∷ connections) zero connection = inl refl
written (first ∷ connections) (suc c) connection = written connections c connection

-- a slot is written with a connection of another user, and had none of this user
slot_changes : (user : ℕ) (old new : Machine) (c : ℕ) (connection : Connection) → new.connections ≡ slice_set old.connections c (Some connection) → connection.user ≢ user → connection_of user old c ≡ None
    → (d : ℕ) → connection_of user new d ≡ connection_of user old d
slot_changes user old new c connection connections differs none d = by (eqb_tells d c)
  where
    read : connection_at new d ≡ slice_index_or (slice_set old.connections c (Some connection)) d None
    read = ap (λ ts. slice_index_or ts d None) connections

    by : ((nat_eq d c ≡ true) × (d ≡ c)) ⊎ ((nat_eq d c ≡ false) × (d ≢ c)) → connection_of user new d ≡ connection_of user old d
    by (inl (_, is)) =
        ap (only user) (read ∙ ap (λ k. slice_index_or (slice_set old.connections c (Some connection)) k None) is)
        ∙ hidden user (slice_index_or (slice_set old.connections c (Some connection)) c None) connection differs (written old.connections c connection)
        ∙ sym (ap (λ k. connection_of user old k) is ∙ none)
    by (inr (_, other)) = ap (only user) (read ∙ get_or-set_other old.connections c d (Some connection) None other)

-- there is no reply
not_replied : (user : ℕ) (reply : Option Entry) → reply ≡ None → option_map (λ e. e.user) reply ≢ Some user
not_replied user reply r e = none_some user (ap (option_map (λ x. x.user)) (sym r) ∙ e)

-- the reply is to another user, or there is none
other_replied : (user : ℕ) (reply : Option Entry) (c : ℕ) (connection : Connection) (text : Option (List ℕ)) → connection.user ≢ user
    → reply ≡ option_map (reply_entry c connection) text → option_map (λ e. e.user) reply ≢ Some user
other_replied user reply c connection None differs r e = not_replied user reply r e
other_replied user reply c connection (Some text) differs r e = differs (same_some connection.user user (ap (option_map (λ x. x.user)) (sym r) ∙ e))

-- a connection stays its user's, and leaves the rows of all others
own : (user : ℕ) (connection : Connection) (rows : List UserRow) (new : Connection) (after : List UserRow) → TicketChange connection rows new after
    → (new.user ≡ connection.user) × (connection.user ≢ user → slice_get after user ≡ slice_get rows user)
own user connection rows new after (stays _ kept) = (kept.user, λ differs. refl)
own user connection rows new after (enters owner row there may) = (refl, row_other rows connection.user without_home user)
own user connection rows new after (leaves owner owns) = (refl, row_other rows connection.user (with_home (with_steps_restarted owner.state)) user)

-- no row and no connection changes
front_stays : (user : ℕ) (old new : Machine) (reply : Option Entry) → reply ≡ None → new.rows ≡ old.rows → new.connections ≡ old.connections → Untouched user old reply new
front_stays user old new reply r rows connections = record {
  row = ap (λ rs. slice_get rs user) rows;
  connections = λ d. ap (λ ts. only user (slice_index_or ts d None)) connections;
  not_replied = not_replied user reply r;
}

transition_untouched : (old : Machine) (event : Event) (reply : Option Entry) (new : Machine) (user : ℕ) → Transition old event reply new → actor old event ≢ Some user
    → Untouched user old reply new
unfolding Transition
transition_untouched old (Hello c name token) reply new user (r, p) not_mine =
    let differs : p.user ≢ user = λ e. not_mine (p.named ∙ ap (λ (n : ℕ). Some n) e) in
    record {
      row = ap (λ z. slice_get z.rows user) p.next ∙ row_other old.rows p.user with_ticket user differs;
      connections = slot_changes user old new c (new_connection p.user p.row.granted) (ap (λ z. z.connections) p.next) differs (ap (only user) p.is_new);
      not_replied = not_replied user reply r;
    }
transition_untouched old (At c event) reply new user p not_mine =
    let differs : p.connection.user ≢ user = λ e. not_mine (ap (option_map (λ t. t.user)) p.known ∙ ap (λ (n : ℕ). Some n) e) in
    let mine = own user p.connection old.rows p.after.connection p.after.rows (ticket_change p.connection old.rows event old.book p.text p.after p.transition) in
    record {
      row = ap (λ z. slice_get z.rows user) p.next ∙ mine.1 differs;
      connections = slot_changes user old new c p.after.connection (ap (λ z. z.connections) p.next) (λ e. differs (sym mine.0 ∙ e))
          (hidden user (connection_at old c) p.connection differs (inl p.known));
      not_replied = other_replied user reply c p.connection p.text differs p.replies;
    }
transition_untouched old (By id event) reply new user (r, p) not_mine =
    front_stays user old new reply r (ap (λ z. z.rows) p.next) (ap (λ z. z.connections) p.next)

pub others_leave : OthersChangeNothing
others_leave old event reply new user (inl h) not_mine = transition_untouched old event reply new user h not_mine
others_leave old event reply new user (inr (impossible, r, same)) not_mine =
    front_stays user old new reply r (ap (λ z. z.rows) same) (ap (λ z. z.connections) same)
