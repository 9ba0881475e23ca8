use Rattle.std.proofs.Common.{◌≡◌, ◌<◌, ◌/◌, ◌∙◌, [], get_or, length, arith}
use Rattle.std.proofs.lemmas.List.{get_or_default}
use Rattle.lj_book.specs.declared.key_states.TheConstants.{GROUP}
use Rattle.lj_book.specs.KeyStates.{key_state_at}
use Rattle.lj_book.specs.declared.key_states.KeyState.TheVariants.{Vacant}
use Rattle.lj_book.proofs.KeyStateLemmas.{IsIndexed-set}
use Rattle.lj_book.proofs.key_states.KeyStates.set.Goals as goal

pub invariant_of-self : goal.invariant_of-self
invariant_of-self c =
    let within : c.args.key < length c.self.inside.key_states.items = rw c.self.view_is c.requires in
    let in_groups : c.args.key / GROUP < length c.self.inside.masks.items = omega (arith, c.self.invariant.enough, within) in
    let was : c.index-was.result.now ≡ key_state_at c.self.inside.key_states.items c.args.key =
    c.index-was.ensures ∙ get_or_default c.self.inside.key_states.items c.args.key c.index-was.result.now Vacant within in
    let masks : c.index_mut-masks.result.now ≡ get_or c.self.inside.masks.items (c.args.key / GROUP) [] =
    c.index_mut-masks.ensures.value
    ∙ get_or_default c.self.inside.masks.items (c.args.key / GROUP) c.index_mut-masks.result.now [] in_groups in
    IsIndexed-set c.self.inside.key_states.items c.self.inside.masks.items c.clear_bit.new.masks c.set_bit.new.masks
    c.args.key c.args.key_state within
    (rw (← was, ← c.kind.ensures.value, ← masks) c.clear_bit.ensures)
    (rw (← c.kind-2.ensures.value) c.set_bit.ensures)
    c.self.invariant
