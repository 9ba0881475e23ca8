use Rattle.std.proofs.Common.{◌≡◌, length, slice_get, Some, refl, arith, ap, ◌∙◌}
use Rattle.std.specs.Option.{option_and_then}
use Rattle.lj_access.specs.UserRows.{UserRow, CanEnter, without_home}
use Rattle.lj_access.proofs.RowLemmas.{Writes, user_within, slice_get-read, changed-written, IsDirectory-written}
use Rattle.lj_access.proofs.directory.Directory.try_enter.Goals.{After-lend}
use Rattle.lj_access.proofs.directory.Directory.try_enter.Goals as goal

-- the row of the ticket's user is there, and its state is lent
written : (c : After-lend) → Writes c.self.inside.rows.items c.from-user.result c.index_mut.result.now c.lend.new.self without_home
written c =
    let entering = c.can_enter.ensures.0 c.if-not-can_enter.false in
    let here = user_within c.args.self.now _ (CanEnter c.args.ticket.now.number) entering in
    record {
      within = omega (arith, here, ap length c.self.view_is);
      read = c.index_mut.ensures.value;
      written = c.lend.ensures.lent;
    }

pub invariant_of-self : goal.invariant_of-self
invariant_of-self c =
    IsDirectory-written c.self.inside.rows.items _ c.index_mut.result.now _ without_home
    (written (goal.at.invariant_of-self c).After-lend) refl c.self.invariant

pub returns-clause-state : goal.returns-clause-state
returns-clause-state c =
    let row = c.index_mut.result.now in
    let read = slice_get-read _ _ row _ _ (written (goal.at.returns-clause-state c).After-lend) in
    let found : slice_get c.args.self.now c.args.ticket.now.user ≡ Some row = cc in
    ap (option_and_then (λ (r : UserRow). r.home)) found ∙ c.lend.ensures.state

pub returns-clause-lent : goal.returns-clause-lent
returns-clause-lent c =
    let e = changed-written _ _ _ _ _ (written (goal.at.returns-clause-lent c).After-lend) in
    cc
