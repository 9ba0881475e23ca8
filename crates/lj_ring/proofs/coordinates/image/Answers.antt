use Rattle.std.proofs.Common.{rules, subst, ℤ}
use Rattle.std.proofs.lemmas.Int.{to_z-of_z}
use Rattle.lj_ring.specs.Ring.{IsLeastImage}
use Rattle.lj_ring.proofs.RingLemmas.{image-least}
use Rattle.lj_ring.proofs.coordinates.image.Goals as goal

pub returns-clause-least : goal.returns-clause-least
returns-clause-least c =
    let P : ℤ → Type 0 = λ z. IsLeastImage c.args.to c.args.from z in
    subst P (search (rules, to_z-of_z)) (image-least c.args.to c.args.from (search rules) (search rules))
