use Rattle.std.proofs.Common.{◌≡◌, ◌<◌, ℕ, Option, length, slice_get, Some, IsSomeAnd, refl, arith, ap, subst, ◌∙◌, sym}
use Rattle.std.specs.Option.{option_map}
use Rattle.std.proofs.lemmas.List.Quantifiers.{position-Some}
use Rattle.std.proofs.lemmas.Option.{slice_get_read}
use Rattle.lj_access.specs.UserRows.{UserRow, has_credentials, HasTicketLeft, with_ticket}
use Rattle.lj_access.proofs.RowLemmas.{Writes, changed-written, IsDirectory-written}
use Rattle.lj_access.proofs.directory.Directory.hello.Goals.{After-grant-number}
use Rattle.lj_access.proofs.directory.Directory.hello.Goals as goal

-- the row of the user is there, and a ticket more is granted
written : (c : After-grant-number)
    → Writes c.self.inside.rows.items c.in_ok-user.user c.index_mut.result.now c.grant-number.new.self with_ticket
written c =
    let user_is = sym c.user_with.ensures ∙ c.in_ok-user.ensures.ok_part in
    let is_this = has_credentials c.args.name.now c.args.token.now in
    let here = position-Some is_this c.args.self.now c.in_ok-user.user c.index_mut.result.now user_is in
    record {
      within = omega (arith, here.0, ap length c.self.view_is);
      read = c.index_mut.ensures.value;
      written = c.grant-number.ensures.granted;
    }

pub invariant_of-self : goal.invariant_of-self
invariant_of-self c =
    IsDirectory-written c.self.inside.rows.items _ c.index_mut.result.now _ with_ticket
    (written (goal.at.invariant_of-self c).After-grant-number) refl c.self.invariant

pub returns-clause-granted : goal.returns-clause-granted
returns-clause-granted c =
    let rows = c.self.inside.rows.items in
    let row = c.index.result.now in
    let user_is = sym c.user_with.ensures ∙ c.in_ok-user.ensures.ok_part in
    let here = position-Some (has_credentials c.args.name.now c.args.token.now) c.args.self.now c.in_ok-user.user row user_is in
    let within : c.in_ok-user.user < length rows = omega (arith, here.0, ap length c.self.view_is) in
    let read = slice_get_read rows (length rows) c.in_ok-user.user row refl within c.index.ensures in
    let found : slice_get c.args.self.now c.in_ok-user.user ≡ Some row = cc in
    let P : Option UserRow → Type 0 = λ o. IsSomeAnd o HasTicketLeft in
    let Q : Option ℕ → Type 0 = λ o. IsSomeAnd o (λ user. P (slice_get c.args.self.now user)) in
    (λ _. subst Q (sym user_is) (subst P (sym found) (c.has_ticket_left.ensures.0 c.if-not-has_ticket_left.false)), λ _. refl)

pub returns-clause-number : goal.returns-clause-number
returns-clause-number c =
    let rows = c.self.inside.rows.items in
    let row = c.index_mut.result.now in
    let w = written (goal.at.returns-clause-number c).After-grant-number in
    let read = slice_get_read rows (length rows) c.in_ok-user.user row refl w.within w.read in
    let found : slice_get c.args.self.now c.new.result.user ≡ Some row = cc in
    let number : row.granted ≡ c.new.result.number = cc in
    ap (option_map (λ (r : UserRow). r.granted)) found ∙ ap (λ (n : ℕ). Some n) number

pub returns-clause-counted : goal.returns-clause-counted
returns-clause-counted c =
    let rows = c.self.inside.rows.items in
    let row = c.index_mut.result.now in
    let w = written (goal.at.returns-clause-counted c).After-grant-number in
    let e = changed-written rows c.in_ok-user.user row c.grant-number.new.self with_ticket w in
    cc
