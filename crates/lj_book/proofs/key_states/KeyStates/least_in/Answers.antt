use Rattle.std.proofs.Common.{◌≡◌, ◌<◌, ◌∙◌, [], get_or, length, ap, arith}
use Rattle.std.proofs.lemmas.List.{get_or_default}
use Rattle.lj_book.proofs.KeyStateLemmas.{least_is}
use Rattle.lj_book.proofs.key_states.KeyStates.least_in.Goals as goal

pub returns-clause-some : goal.returns-clause-some
returns-clause-some c =
    let in_groups : c.args.group < length c.self.inside.masks.items =
    omega (arith, c.self.invariant.enough, c.requires.group, ap length c.self.view_is) in
    let masks : c.index-masks.result.now ≡ get_or c.self.inside.masks.items c.args.group [] =
    c.index-masks.ensures ∙ get_or_default c.self.inside.masks.items c.args.group c.index-masks.result.now [] in_groups in
    rw (← c.self.view_is, ← c.max.ensures)
    (least_is c.self.inside.key_states.items c.self.inside.masks.items c.args.key_state c.args.group c.max.result c.in_ok-at.at
    c.self.invariant c.requires.searched
    (omega (arith, c.max.ensures))
    (omega (arith, c.max.ensures, c.requires.near))
    (rw (← masks, ← c.kind.ensures.value) c.in_ok-at.ensures.some))
