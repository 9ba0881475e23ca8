use Rattle.std.proofs.Common.{FitsSigned, w64, w32, rules, sym, ◌∙◌, ap}
use Rattle.std.proofs.lemmas.Int.{to_z-of_z}
use Rattle.lj_table.specs.Entries.{push_at}
use Rattle.lj_task.specs.Pushes.{opposite_push}
use Rattle.lj_task.proofs.Opposites.{push_back_is, nothing_back}
use Rattle.lj_tile.proofs.PushLemmas.{push_is, push_self, zero_bits}
use Rattle.lj_task.proofs.Opposites.{nothing_is}
use Rattle.lj_tile.proofs.pairs.pair_push.Goals as goal

pub returns-then-entry-eq0-clause-value : goal.returns-then-entry-eq0-clause-value
returns-then-entry-eq0-clause-value c =
    let e : FitsSigned w64 c.push-entry.result = search rules in
    nothing_is c.args.scale.now c.args.here.now c.args.there.now
    (ap (push_at c.args.scale.now) (sym c.dist2.ensures.value) ∙ sym c.push-entry.ensures.value
    ∙ zero_bits c.push-entry.result e c.if-entry-eq0.true)

pub returns-clause-value : goal.returns-clause-value
returns-clause-value c =
    let e : FitsSigned w64 c.push-entry.result = search rules in
    let f : FitsSigned w64 c.multiplied-factor.result = search rules in
    let x : FitsSigned w32 c.image.result = search rules in
    let y : FitsSigned w32 c.image-2.result = search rules in
    let z : FitsSigned w32 c.image-3.result = search rules in
    push_is _ _ _ c.multiplied-factor.result c.image.result c.image-2.result c.image-3.result _ _ _
    (rw (to_z-of_z w64 _ e, c.push-entry.ensures.value, c.dist2.ensures.value, c.step_factor.ensures.value)
    at c.multiplied-factor.ensures.value)
    c.image.ensures.value
    c.image-2.ensures.value
    c.image-3.ensures.value
    (rw (to_z-of_z w64 _ f, to_z-of_z w32 _ x) at c.push_along.ensures)
    (rw (to_z-of_z w64 _ f, to_z-of_z w32 _ y) at c.push_along-2.ensures)
    (rw (to_z-of_z w64 _ f, to_z-of_z w32 _ z) at c.push_along-3.ensures)

pub returns-clause-itself : goal.returns-clause-itself
returns-clause-itself c same =
    returns-clause-value c
    ∙ push_self c.args.scale.now c.args.here.now c.args.there.now c.image.result c.image-2.result c.image-3.result
    c.image.ensures.value c.image-2.ensures.value c.image-3.ensures.value c.image.ensures.least
    c.image-2.ensures.least c.image-3.ensures.least same

pub returns-then-entry-eq0-clause-back : goal.returns-then-entry-eq0-clause-back
returns-then-entry-eq0-clause-back c =
    let e : FitsSigned w64 c.push-entry.result = search rules in
    nothing_back c.args.scale.now c.args.here.now c.args.there.now c.dist2.ensures.first c.dist2.ensures.second
    (ap (push_at c.args.scale.now) (sym c.dist2.ensures.value) ∙ sym c.push-entry.ensures.value
    ∙ zero_bits c.push-entry.result e c.if-entry-eq0.true)

pub returns-clause-back : goal.returns-clause-back
returns-clause-back c =
    push_back_is c.args.scale.now c.args.here.now c.args.there.now c.step_factor.ensures.near c.dist2.ensures.first
    c.dist2.ensures.second
    ∙ ap opposite_push (sym (returns-clause-value c))
