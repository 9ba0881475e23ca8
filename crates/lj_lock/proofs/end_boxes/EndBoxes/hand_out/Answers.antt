use Rattle.std.proofs.Common.{◌<◌, ◌+◌, Some, cond, length, map, get_or, ap, sym, subst, ◌∙◌, arith}
use Rattle.std.specs.Prelude.{is_some}
use Rattle.std.specs.List.{remove}
use Rattle.std.proofs.lemmas.List.{length-map}
use Rattle.lj_task.specs.Blank.{blank_task}
use Rattle.lj_lock.specs.EndBoxes.{ArePlaced, EndBoxes, result_in}
use Rattle.lj_lock.proofs.EndBoxLemmas.{map-remove, placed_left, read_result}
use Rattle.lj_lock.proofs.end_boxes.EndBoxes.hand_out.Goals as goal

pub invariant_of-self : goal.invariant_of-self
invariant_of-self c =
    let hand = c.self.inside.hand.items in
    let inside : c.in-Some.here < length hand =
    omega (arith, c.in-Some.ensures.some.within, ap (λ (own : EndBoxes). length own.hand) c.self.view_is, length-map hand result_in) in
    subst (λ left. ArePlaced left c.self.inside.spare.items) (sym c.remove.ensures.items)
    (placed_left hand c.self.inside.spare.items c.in-Some.here c.self.invariant inside)

pub returns-clause-some : goal.returns-clause-some
returns-clause-some c =
    let hand = c.self.inside.hand.items in
    let here = c.in-Some.here in
    let seen = ap (λ (own : EndBoxes). own.hand) c.self.view_is in
    let inside : here < length hand =
    omega (arith, c.in-Some.ensures.some.within, ap (λ (own : EndBoxes). length own.hand) c.self.view_is, length-map hand result_in) in
    λ _. record {
      here = here;
      first = c.in-Some.ensures.some;
      last = ap (λ (own : EndBoxes). own.last) c.show.ensures
          ∙ ap Some (read_result hand here c.remove.result c.unwrap-done.result inside c.remove.ensures.value c.unwrap-done.ensures
          ∙ ap (λ tasks. get_or tasks here blank_task) seen);
      hand = ap (λ (own : EndBoxes). own.hand) c.show.ensures ∙ ap (map result_in) c.remove.ensures.items
          ∙ map-remove result_in hand here ∙ ap (λ tasks. remove tasks here) seen;
      spare = ap (λ (own : EndBoxes). own.spare) c.show.ensures
          ∙ ap (λ (own : EndBoxes). own.spare + cond (is_some own.last) 1 0) c.self.view_is;
    }
