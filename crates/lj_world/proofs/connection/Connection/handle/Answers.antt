use Rattle.lj_world.proofs.connection.Connection.handle.Goals.{in-Arrive+in_ok-arrive-in-Arrive, in-End, in-Enter, in-Post, in-Fetch, in-Leave}
use Rattle.lj_world.proofs.connection.Connection.handle.Goals as goal

pub returns-clause-step : goal.returns-clause-step
returns-clause-step c = elim c.match-event.branch [
  | in-Arrive+in_ok-arrive-in-Arrive w ↦
      rw (w.in-Arrive.is, w.self-is, w.directory-is, w.book-is)
      (w.in_ok-arrive-in-Arrive.ensures.step c.args.directory.now c.args.book.now)
  | in-End w ↦ rw (w.in-End.is, w.self-is, w.directory-is, w.book-is) (w.end.ensures c.args.directory.now c.args.book.now)
  | in-Enter w ↦ rw (w.in-Enter.is, w.self-is, w.directory-is, w.book-is) (w.enter.ensures c.args.book.now)
  | in-Post w ↦ rw (w.in-Post.is, w.self-is, w.directory-is, w.book-is) (w.post.ensures c.args.directory.now)
  | in-Fetch w ↦ rw (w.in-Fetch.is, w.self-is, w.directory-is, w.book-is) (w.fetch.ensures.step c.args.directory.now)
  | in-Leave w ↦ rw (w.in-Leave.is, w.self-is, w.directory-is, w.book-is) w.leave.ensures
]

pub returns-clause-picked : goal.returns-clause-picked
returns-clause-picked c = elim c.match-event.branch [
  | in-Arrive+in_ok-arrive-in-Arrive w ↦ rw w.in-Arrive.is tt
  | in-End w ↦ rw w.in-End.is tt
  | in-Enter w ↦ rw w.in-Enter.is tt
  | in-Post w ↦ rw w.in-Post.is tt
  | in-Fetch w ↦ rw (w.in-Fetch.is, w.book-is) w.fetch.ensures.picked
  | in-Leave w ↦ rw w.in-Leave.is tt
]
