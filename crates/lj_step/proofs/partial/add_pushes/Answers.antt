use Rattle.std.proofs.Common.{◌≡◌, length, ap, ◌∙◌, arith, rules}
use Rattle.std.proofs.lemmas.List.FromFn.{length-map-range_with_len}
use Rattle.lj_task.specs.Task.{task_force, task_second}
use Rattle.lj_step.specs.Sums.{HasBlockAdded}
use Rattle.lj_step.proofs.BlockAdded.{added_by}
use Rattle.lj_step.proofs.partial.add_pushes.Goals as goal

pub add_block-requires : goal.add_block-requires
add_block-requires c =
    let index : c.from.result ≡ c.args.done.now.name.bi = search rules in
    let count : length c.sums.result.now ≡ length c.args.done.now.a.places =
    ap length c.sums.ensures ∙ length-map-range_with_len (task_force c.args.done.now) 0 _ in
    record { count = omega (arith, index, count, c.requires.first) }

pub add_block-requires-then-name : goal.add_block-requires-then-name
add_block-requires-then-name c =
    let index : c.from-then-name.result ≡ c.args.done.now.name.bj = search rules in
    let count : length c.second_sums.result.now ≡ length c.args.done.now.b.places =
    ap length c.second_sums.ensures ∙ length-map-range_with_len (task_second c.args.done.now) 0 _ in
    record { count = omega (arith, index, count, c.requires.second, c.add_block.ensures.count) }

pub returns-then-name : goal.returns-then-name
returns-then-name c =
    let w = c.args.done.now in
    let first : HasBlockAdded w.name.bi (length w.a.places) (task_force w) c.args.pushes.now c.add_block.new.pushes =
    added_by _ _ _ _ _ _ _ (search rules) c.sums.ensures c.add_block.ensures in
    let second : HasBlockAdded w.name.bj (length w.b.places) (task_second w) c.add_block.new.pushes
    c.add_block-then-name.new.pushes =
    added_by _ _ _ _ _ _ _ (search rules) c.second_sums.ensures c.add_block-then-name.ensures in
    search (rules, first, second)

pub returns-else-name : goal.returns-else-name
returns-else-name c =
    let w = c.args.done.now in
    let first : HasBlockAdded w.name.bi (length w.a.places) (task_force w) c.args.pushes.now c.add_block.new.pushes =
    added_by _ _ _ _ _ _ _ (search rules) c.sums.ensures c.add_block.ensures in
    search (rules, first)
