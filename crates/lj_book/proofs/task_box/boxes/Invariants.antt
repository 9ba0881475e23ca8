use Rattle.std.specs.Prelude.{◌≡◌, ◌≤◌, vec_len}
use Rattle.std.specs.Vec.{vec_capacity}
use Rattle.lj_book.proofs.task_box.boxes.Given as goal

abbrev pub invariant-loop : goal.invariant-loop
invariant-loop l = record {
  count : vec_len l.made ≡ l.counter;
  room : l.count ≤ vec_capacity l.made;
}
