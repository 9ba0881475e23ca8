use Rattle.std.proofs.Common.{◌≡◌, ◌+◌, refl, sym, ap, ◌∙◌, arith}
use Rattle.lj_wire.specs.declared.line_limits.TheConstants.{MAX_ITEMS}
use Rattle.lj_wire.specs.declared.reader.phase.Phase.TheVariants.{Open}
use Rattle.lj_wire.proofs.Wholes.{enough}
use Rattle.lj_wire.proofs.reader.LineReader.next_into.Goals as goal

pub returns-then-self-eq-MAX_ITEMS-clause-item : goal.returns-then-self-eq-MAX_ITEMS-clause-item
returns-then-self-eq-MAX_ITEMS-clause-item g c = λ some.
    let old = c.args.self.now in
    let is_open : old.phase ≡ Open = sym (ap (λ s. s.phase) c.self.view_is) ∙ c.in-Open.is in
    let items = ap (λ s. s.items) c.self.view_is in
    let most : old.items ≡ MAX_ITEMS = omega (arith, items, c.if-self-eq-MAX_ITEMS.true) in
    enough old _ is_open most (sym (ap (λ s. s.left) c.self.view_is)) (ap (λ s. s.unread) c.self.view_is)
    (ap (λ n. n + 1) items) (ap (λ s. s.errors) c.self.view_is) refl
