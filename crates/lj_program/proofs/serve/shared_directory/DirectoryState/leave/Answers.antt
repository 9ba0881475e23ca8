use Rattle.lj_program.proofs.Homes.{pass_homes}
use Rattle.lj_program.proofs.serve.shared_directory.DirectoryState.leave.Goals as goal

pub invariant_of-self : goal.invariant_of-self
invariant_of-self g c =
    pass_homes g.J.HistoryIdentity.users c.bring_home-seen.new.histories c.bring_home-seen.new.directory c.pass.new.directory
    c.user-user.result c.pass.ensures.passed c.bring_home-seen.ensures.homes
