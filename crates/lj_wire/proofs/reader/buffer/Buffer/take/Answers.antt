use Rattle.std.proofs.Common.{ℕ, ◌+◌, ◌≤◌, length, drop, ap, ◌∙◌, arith}
use Rattle.std.proofs.lemmas.List.{length-take, length-drop}
use Rattle.lj_wire.proofs.Buffers.{taken}
use Rattle.lj_wire.proofs.reader.buffer.Buffer.take.Goals as goal

pub returns : goal.returns
returns c =
    let b = c.self.inside in
    let inside : b.start + c.args.count ≤ b.end =
    omega (arith, c.requires, ap length c.self.view_is, length-take {A = ℕ}, length-drop {A = ℕ}) in
    taken b.bytes b.start b.end c.args.count inside ∙ ap (drop c.args.count) c.self.view_is
