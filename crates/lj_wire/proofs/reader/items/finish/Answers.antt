use Rattle.lj_wire.proofs.Wholes.{rest_taken}
use Rattle.lj_wire.proofs.reader.items.finish.Goals as goal
use Rattle.std.proofs.Common.{◌≡◌, true, rules, Some}
use Rattle.lj_wire.specs.ItemSteps.{may_take_body, ReadsBody}

pub returns-in-Some-clause-item : goal.returns-in-Some-clause-item
returns-in-Some-clause-item g c =
    let can : may_take_body c.args.item.now ≡ true = search rules in
    let read : ReadsBody c.args.input.now (Some c.in-Some.body) c.args.count c.read_body.new.input =
    rw c.in-Some.is at c.in_ok-body.ensures.body in
    rest_taken c.args.input.now c.read_body.new.input c.args.item.now c.args.count c.in-Some.body c.put_body.new.self can
    read c.put_body.ensures.value
