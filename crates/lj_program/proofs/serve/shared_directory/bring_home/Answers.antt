use Rattle.std.proofs.Common.{◌≡◌}
use Rattle.lj_access.specs.UserRows.{with_home, with_row_changed}
use Rattle.lj_program.specs.Histories.{UserHistory}
use Rattle.lj_program.proofs.Homes.{note_home}
use Rattle.lj_program.proofs.serve.shared_directory.bring_home.Goals as goal

pub returns-clause-homes : goal.returns-clause-homes
returns-clause-homes g c =
    let changed : c.leave.new.self ≡ with_row_changed c.user-user.result (with_home c.of-next.result) c.args.directory.now =
    rw (c.user-user.ensures, c.of-next.ensures) c.in-Ok.ensures.home in
    note_home c.note.result (λ (seen : UserHistory). seen.states) g.J.HistoryIdentity.users c.args.histories.now c.note.new.self
    c.args.directory.now c.leave.new.self c.user-user.result c.of-next.result c.note.ensures.noted c.note.ensures.others
    c.note.ensures.none c.note.ensures.unchanged changed c.requires.homes
