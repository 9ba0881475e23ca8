use Rattle.std.proofs.Common.{◌≡◌, take}
use Rattle.lj_end.specs.Seen.{ArePosted}
use Rattle.lj_end.proofs.account.Account.note_posts.Given as goal

abbrev pub invariant-loop-here : goal.invariant-loop-here
invariant-loop-here g l = record {
  posted : ArePosted (take l.here l.tasks) l.fn.self l.self;
  closed : l.self.closed ≡ l.fn.self.closed;
}
