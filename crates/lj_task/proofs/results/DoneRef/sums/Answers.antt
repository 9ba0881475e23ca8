use Rattle.std.proofs.Common.{rules}
use Rattle.lj_task.specs.Task.{task_force}
use Rattle.lj_task.proofs.FirstSums.{first_sums}
use Rattle.lj_task.proofs.results.DoneRef.sums.Goals as goal

pub returns : goal.returns
returns c =
    first_sums (task_force c.args.self.now) c.self.inside.sums.now.pushes.first c.first_sums.result.now _ _ c.first_sums.ensures.value
    c.first_sums.ensures.count (search rules) (λ k below. search (rules, c.self.invariant.first))
