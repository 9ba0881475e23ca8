use Rattle.std.proofs.Common.{◌*◌}
use Rattle.lj_book.specs.declared.key_states.TheConstants.{GROUP}
use Rattle.lj_book.specs.KeyStates.{HasNone}
use Rattle.lj_book.proofs.key_states.KeyStates.least_from.Given as goal

abbrev pub invariant-loop-group : goal.invariant-loop-group
invariant-loop-group l = HasNone l.fn.self l.key_state l.from (GROUP * l.group)
