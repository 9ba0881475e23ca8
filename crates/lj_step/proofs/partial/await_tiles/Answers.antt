use Rattle.std.proofs.Common.{◌*◌, ◌≤◌, length, arith}
use Rattle.std.proofs.lemmas.List.FromFn.{fill_by_all}
use Rattle.lj_step.specs.OpenSteps.{blocks, is_tile}
use Rattle.lj_step.proofs.partial.await_tiles.Goals as goal

pub returns : goal.returns
returns c =
    let all : 64 * blocks (length c.args.frame.now) ≤ c.loop-number.number = omega arith in
    fill_by_all (is_tile c.args.atoms.now c.args.frame.now) c.loop-number.awaited.items
    (64 * blocks (length c.args.frame.now)) _ (omega arith)
    (λ k h. c.loop-number.invariant.done k (omega arith))
