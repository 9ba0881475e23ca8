use Rattle.std.proofs.Common.{◌≡◌, []}
use Rattle.std.specs.List.{All}
use Rattle.lj_program.specs.Histories.{OneHistory}
use Rattle.lj_program.proofs.serve.history.NewHistories.new.Given as goal

abbrev pub invariant-loop : goal.invariant-loop
invariant-loop l =
    (l.all.len ≡ l.counter) × All (λ (history : OneHistory). history.states ≡ []) l.all.items
