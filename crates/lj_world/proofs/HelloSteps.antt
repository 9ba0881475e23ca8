-- Steps of the machine in which a connection says HELLO.
use Rattle.std.proofs.Common.{◌≡◌, ◌≢◌, ℕ, ◌<◌, List, length, set, slice_get, Option, Some, None, IsSomeAnd, refl, ap, ◌∙◌, sym, subst, inl, inr, arith}
use Rattle.std.specs.Option.{option_map}
use Rattle.lj_access.specs.UserRows.{UserRow, Ticket, HasTicketLeft, user_with, next_number, with_row_changed, with_ticket}
use Rattle.lj_world.specs.declared.event.Event.TheVariants.{Hello}
use Rattle.lj_world.specs.Machine.{Machine, Connection, Worker, IsConnection, connection_at, new_connection, with_connection, with_rows}
use Rattle.lj_world.specs.Transitions.{Transition}
use Rattle.lj_world.specs.Runs.{Step}
use Rattle.lj_world.specs.Machines.{IsMachine}
use Rattle.lj_world.proofs.RowLemmas.{row_changed}
use Rattle.lj_world.proofs.RowsKept.{has_changed, put_connection}

-- no connection has a number out of range
pub hello_out_of_range : (s : Machine) (id : ℕ) (name token : List ℕ) → (IsConnection id → ⊥)
    → Step s (Hello id name token) None s
unfolding Transition
hello_out_of_range s id name token out = inr (λ p. out p.2.1.within, refl, refl)

-- a HELLO is not possible at a connection that is known
pub hello_again : (s : Machine) (id : ℕ) (name token : List ℕ) → connection_at s id ≢ None
    → Step s (Hello id name token) None s
unfolding Transition
hello_again s id name token known = inr (λ p. known p.2.1.is_new, refl, refl)

-- nobody with this name and token has a ticket left
pub denied : (s : Machine) (id : ℕ) (name token : List ℕ)
    → (IsSomeAnd (user_with s.rows name token) (λ user. IsSomeAnd (slice_get s.rows user) HasTicketLeft) → ⊥)
    → Step s (Hello id name token) None s
unfolding Transition
denied s id name token none =
    let P : Option UserRow → Type 0 = λ o. IsSomeAnd o HasTicketLeft in
    let Q : Option ℕ → Type 0 = λ o. IsSomeAnd o (λ user. P (slice_get s.rows user)) in
    inr (λ p. none (subst Q (sym p.2.1.named) (subst P (sym p.2.1.there) p.2.1.left)), refl, refl)

-- the row of a user of whom something holds
row_there : (o : Option UserRow) (P : UserRow → Type 0) → IsSomeAnd o P → (row : UserRow) × (o ≡ Some row) × P row
row_there None P fact = absurd fact
row_there (Some row) P fact = (row, refl, fact)

-- a ticket that the directory has granted
pub record IsGranted (rows : List UserRow) (name token : List ℕ) (ticket : Ticket) : Type 0 where
  pub left : IsSomeAnd (user_with rows name token) (λ user. IsSomeAnd (slice_get rows user) HasTicketLeft)
  pub user : user_with rows name token ≡ Some ticket.user
  pub number : next_number rows ticket.user ≡ Some ticket.number

-- the row from which it was granted
pub granted_row : (rows : List UserRow) (name token : List ℕ) (ticket : Ticket) → IsGranted rows name token ticket
    → (row : UserRow) × (slice_get rows ticket.user ≡ Some row) × HasTicketLeft row × (row.granted ≡ ticket.number)
granted_row rows name token ticket g =
    let P : Option UserRow → Type 0 = λ o. IsSomeAnd o HasTicketLeft in
    let Q : Option ℕ → Type 0 = λ o. IsSomeAnd o (λ user. P (slice_get rows user)) in
    let r = row_there (slice_get rows ticket.user) HasTicketLeft (subst Q g.user g.left) in
    let number : Some r.0.granted ≡ Some ticket.number =
    sym (ap (option_map (λ (row : UserRow). row.granted)) r.1) ∙ g.number in
    (r.0, r.1, r.2, cc)

-- a connection is granted a ticket
pub hello_step : (s : Machine) (id : ℕ) (name token : List ℕ) (ticket : Ticket) → IsConnection id → connection_at s id ≡ None
    → IsGranted s.rows name token ticket
    → Step s (Hello id name token) None
    (with_connection id (new_connection ticket.user ticket.number) (with_rows (with_row_changed ticket.user with_ticket s.rows) s))
unfolding Transition
hello_step s id name token ticket within new g =
    let r = granted_row s.rows name token ticket g in
    inl (
      refl,
      record {
        within = within;
        is_new = new;
        user = ticket.user;
        named = g.user;
        row = r.0;
        there = r.1;
        left = r.2;
        next = ap (λ n. with_connection id (new_connection ticket.user n) (with_rows (with_row_changed ticket.user with_ticket s.rows) s)) (sym r.3);
      },
    )

-- the machine has its connections and rows afterwards
pub hello_keeps_machine : (rows : List UserRow) (connections : List (Option Connection)) (workers : List (Option Worker)) (id : ℕ) (name token : List ℕ)
    (ticket : Ticket) → IsMachine rows connections workers → id < length connections → IsGranted rows name token ticket
    → IsMachine (with_row_changed ticket.user with_ticket rows) (set connections id (Some (new_connection ticket.user ticket.number))) workers
hello_keeps_machine rows connections workers id name token ticket m within g =
    put_connection rows (with_row_changed ticket.user with_ticket rows) connections workers id (new_connection ticket.user ticket.number) m within (
      with_ticket r.0,
      row_changed rows ticket.user with_ticket r.0 r.1,
      record {
        granted = omega (arith, r.3);
        entered = λ i. let e = i.1 in cc;
      },
    )
    (λ d other apart e. has_changed rows ticket.user with_ticket other (m.known d other e) (λ row there same is. record {
      granted = omega (arith, is.granted);
      entered = λ i. let h = is.entered i in record {
        first = record { granted = omega (arith, h.first.granted); past = h.first.past };
        lent = h.lent;
      };
    }))
    (λ d other apart e user number.
    let has = m.known d other e in
    let row : has.0 ≡ r.0 = (let k : slice_get rows ticket.user ≡ Some has.0 = ap (slice_get rows) (sym user) ∙ has.1 in cc (r.1)) in
    omega (arith, has.2.granted, ap (λ (x : UserRow). x.granted) row, r.3, number))
  where
    r : (row : UserRow) × (slice_get rows ticket.user ≡ Some row) × HasTicketLeft row × (row.granted ≡ ticket.number)
    r = granted_row rows name token ticket g
