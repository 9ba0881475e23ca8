use Rattle.lj_book.specs.Book.{IsOpenAt}
use Rattle.lj_world.proofs.Picking.{puts_picked}
use Rattle.lj_world.proofs.worker.take.Goals as goal

pub returns-in-Some-clause-picked : goal.returns-in-Some-clause-picked
returns-in-Some-clause-picked c =
    let taken = c.in-Some.ensures in
    puts_picked (IsOpenAt c.args.book.now) c.args.pick c.args.book.now c.take.new.self c.in-Some.key _ taken.some.puts taken.picked
