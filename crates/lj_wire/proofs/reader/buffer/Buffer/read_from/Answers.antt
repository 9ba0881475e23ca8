use Rattle.std.proofs.Common.{ℕ, ◌-◌, ◌≤◌, List, ◌++◌, length, take, ap, ◌∙◌, arith}
use Rattle.std.proofs.lemmas.List.{length-take-le}
use Rattle.lj_wire.proofs.Buffers.{grown}
use Rattle.lj_wire.proofs.reader.buffer.Buffer.read_from.Goals as goal

pub returns-clause-more : goal.returns-clause-more
returns-clause-more g c =
    let held = c.self.inside.end - c.self.inside.start in
    let bytes = c.move_to_front.new.bytes in
    let within : held ≤ length bytes = omega arith in
    let low : 0 ≤ held = omega arith in
    let n = c.in_ok-count.count in
    let fits = c.in_ok-count.ensures.bound in (
      take n c.read.new.buf,
      length-take-le n c.read.new.buf fits,
      grown bytes c.read.new.buf 0 held _ n low within fits
          ∙ ap (λ (t : List ℕ). t ++ take n c.read.new.buf) (c.move_to_front.ensures ∙ c.self.view_is),
      c.in_ok-count.ensures.bytes.0,
    )
