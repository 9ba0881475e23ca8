use Rattle.std.proofs.Common.{◌≡◌, Some, sym}
use Rattle.lj_access.specs.UserRows.{home_of}
use Rattle.lj_program.proofs.Homes.{history_there, lend_homes}
use Rattle.lj_program.proofs.serve.shared_directory.DirectoryState.enter.Goals as goal

pub invariant_of-self-2 : goal.invariant_of-self-2
invariant_of-self-2 g c =
    lend_homes g.J.HistoryIdentity.users c.self.inside.histories c.self.inside.directory c.try_enter.new.self
    c.ticket.result.now.user c.in-Some-try_enter.ensures.lent c.self.invariant

pub unreachable-requires : goal.unreachable-requires
unreachable-requires g c =
    let home : home_of c.self.inside.directory c.user.result ≡ Some c.in-Some-try_enter.state =
    rw (c.user.ensures, c.take_back-ticket.ensures, ← c.ticket.ensures) c.in-Some-try_enter.ensures.state in
    history_there g.J.HistoryIdentity.users c.self.inside.histories c.self.inside.directory c.user.result c.in-Some-try_enter.state
    c.self.invariant home (sym c.in_default-seen.ensures.states)

pub invariant_of-self-3 : goal.invariant_of-self-3
invariant_of-self-3 g c =
    lend_homes g.J.HistoryIdentity.users c.self.inside.histories c.self.inside.directory c.try_enter.new.self
    c.ticket.result.now.user c.in-Some-try_enter.ensures.lent c.self.invariant
