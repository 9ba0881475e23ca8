use Rattle.std.proofs.Common.{rules}
use Rattle.lj_task.specs.Task.{task_second}
use Rattle.lj_task.proofs.FirstSums.{first_sums}
use Rattle.lj_task.proofs.results.DoneRef.second_sums.Goals as goal

pub returns : goal.returns
returns c =
    first_sums (task_second c.args.self.now) c.self.inside.sums.now.pushes.second c.second_sums.result.now _ _ c.second_sums.ensures.value
    c.second_sums.ensures.count (search rules) (λ k below. search (rules, c.self.invariant.second))
