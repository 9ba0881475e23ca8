use Rattle.std.proofs.Common.{◌+◌, ◌&&◌, get_or, drop, ap, ap₂, ◌∙◌}
use Rattle.lj_ring.specs.declared.coordinates.Place.{Place}
use Rattle.lj_task.specs.Block.{are_same_lanes, are_same_places}
use Rattle.lj_task.proofs.SameLemmas.{same_lanes, four_more}
use Rattle.lj_task.proofs.blocks.differences_of_four.Goals as goal

origin : Place
origin = record { x = 0; y = 0; z = 0 }

pub returns : goal.returns
unfolding origin
returns c =
    let a = c.args.a.now in
    let b = c.args.b.now in
    let i = c.args.from in
    let first = c.differences-first.ensures ∙ ap₂ are_same_lanes c.first_lanes.ensures c.first_lanes-2.ensures in
    let middle = c.differences-middle.ensures ∙ ap₂ are_same_lanes c.middle_lanes.ensures c.middle_lanes-2.ensures in
    let last = c.differences-last.ensures ∙ ap₂ are_same_lanes c.last_lanes.ensures c.last_lanes-2.ensures in
    let none = c.either-2.ensures ∙ ap₂ ◌&&◌ (c.either.ensures ∙ ap₂ ◌&&◌ first middle) last
    ∙ same_lanes (get_or a i origin) (get_or a (i + 1) origin) (get_or a (i + 2) origin) (get_or a (i + 3) origin)
    (get_or b i origin) (get_or b (i + 1) origin) (get_or b (i + 2) origin) (get_or b (i + 3) origin) in
    ap (λ t. t && are_same_places (drop (i + 4) a) (drop (i + 4) b)) none
    ∙ four_more a b origin i c.requires.enough c.requires.count
