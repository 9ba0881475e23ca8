use Rattle.lj_program.specs.Histories.{book_at}
use Rattle.lj_program.proofs.serve.server.serve_on.Given as goal

abbrev pub ghosts-serve_known : goal.ghosts-serve_known
ghosts-serve_known g a = record { books = book_at a.histories; users = a.users.items }
