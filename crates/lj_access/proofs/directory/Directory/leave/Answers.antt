use Rattle.std.proofs.Common.{◌≡◌, ◌<◌, length, slice_get, Some, refl, arith, ap, subst}
use Rattle.std.proofs.lemmas.Option.{slice_get_read}
use Rattle.lj_access.specs.UserRows.{HasEntered, with_home}
use Rattle.lj_access.proofs.RowLemmas.{Writes, fact_of_row, user_within, changed-written, IsDirectory-written}
use Rattle.lj_access.proofs.directory.Directory.leave.Goals.{After-take_home}
use Rattle.lj_access.proofs.directory.Directory.leave.Goals as goal

pub index_mut-requires : goal.index_mut-requires
index_mut-requires c =
    let here = user_within c.args.self.now _ (HasEntered c.args.ticket.number) (c.has_entered.ensures.0 c.if-not-has_entered.false) in
    omega (arith, here, ap length c.self.view_is)

pub take_home-requires : goal.take_home-requires
take_home-requires c =
    let rows = c.self.inside.rows.items in
    let row = c.index_mut.result.now in
    let entered = c.has_entered.ensures.0 c.if-not-has_entered.false in
    let here = user_within c.args.self.now _ (HasEntered c.args.ticket.number) entered in
    let within : c.from-user.result < length rows = omega (arith, here, ap length c.self.view_is) in
    let read = slice_get_read rows (length rows) c.from-user.result row refl within c.index_mut.ensures.value in
    let found : slice_get c.args.self.now c.args.ticket.user ≡ Some row = cc in
    let number : c.args.ticket.number ≡ c.number.result = cc in
    subst (λ n. HasEntered n row) number (fact_of_row _ row (HasEntered c.args.ticket.number) found entered)

-- the row of the ticket's user is there, and the state is home
written : (c : After-take_home)
    → Writes c.self.inside.rows.items c.from-user.result c.index_mut.result.now c.take_home.new.self (with_home c.args.state)
written c =
    let entered = c.has_entered.ensures.0 c.if-not-has_entered.false in
    let here = user_within c.args.self.now _ (HasEntered c.args.ticket.number) entered in
    record {
      within = omega (arith, here, ap length c.self.view_is);
      read = c.index_mut.ensures.value;
      written = c.take_home.ensures;
    }

pub invariant_of-self : goal.invariant_of-self
invariant_of-self c =
    IsDirectory-written c.self.inside.rows.items _ c.index_mut.result.now _ (with_home c.args.state)
    (written (goal.at.invariant_of-self c).After-take_home) refl c.self.invariant

pub returns-clause-home : goal.returns-clause-home
returns-clause-home c =
    let e = changed-written _ _ _ _ _ (written (goal.at.returns-clause-home c).After-take_home) in
    cc
