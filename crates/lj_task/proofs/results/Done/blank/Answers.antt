use Rattle.std.proofs.Common.{refl, arith}
use Rattle.lj_task.specs.Blank.{blank_task}
use Rattle.lj_task.specs.Task.{IsTask, task_energy}
use Rattle.lj_task.proofs.results.Done.blank.Goals as goal

sound : IsTask blank_task
sound = record {
  some_first = omega arith;
  some_second = omega arith;
  most_first = omega arith;
  most_second = omega arith;
  first_index = omega arith;
  second_index = omega arith;
  diagonal = λ _. refl;
  in_order = omega arith;
}

pub invariant_of-result : goal.invariant_of-result
unfolding task_energy
invariant_of-result c = rw c.blank.ensures record {
  sound = sound;
  first = λ force. absurd cc;
  second = λ force. absurd cc;
  sum = λ _. c.blank-2.ensures;
}
