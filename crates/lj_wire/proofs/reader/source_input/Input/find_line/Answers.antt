use Rattle.std.proofs.Common.{ℕ, length, Ok, refl, sym, ap, ◌∙◌}
use Rattle.lj_wire.specs.declared.reader.source_input.Front.TheVariants.{Line}
use Rattle.lj_wire.proofs.Passing.{searched_line, searched_found}
use Rattle.lj_wire.proofs.reader.source_input.Input.find_line.Goals as goal

pub returns-in-Some-clause-searched : goal.returns-in-Some-clause-searched
returns-in-Some-clause-searched g c =
    searched_line c.args.self.now c.reads.self c.in-Some.line.now c.in-Some.field-0-1.now c.reads.invariant.searched
    (sym c.held.ensures.value ∙ c.in-Some.ensures.0)

pub returns-in-Some-clause-at_once : goal.returns-in-Some-clause-at_once
returns-in-Some-clause-at_once g c = λ count h.
    let found = searched_found c.args.self.now c.reads.self count (length c.in-Some.line.now) c.in-Some.line.now
    c.in-Some.field-0-1.now c.reads.invariant.searched (sym c.held.ensures.value ∙ c.in-Some.ensures.0)
    c.in-Some.ensures.1 refl h in (ap (λ (n : ℕ). Ok (Line n)) found.0, found.1)
