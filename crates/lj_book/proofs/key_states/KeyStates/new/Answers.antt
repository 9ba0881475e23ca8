use Rattle.std.proofs.Common.{◌≡◌, ◌+◌, ◌/◌, ◌∙◌, ℕ, sym, ap, length, replicate, arith}
use Rattle.std.proofs.lemmas.List.{same_lists, length-replicate}
use Rattle.lj_book.specs.declared.key_states.KeyState.TheVariants.{Vacant}
use Rattle.lj_book.specs.declared.key_states.TheConstants.{GROUP, KINDS}
use Rattle.lj_book.proofs.KeyStateLemmas.{IsIndexed-vacant}
use Rattle.lj_book.proofs.key_states.KeyStates.new.Goals as goal

pub invariant_of-result : goal.invariant_of-result
invariant_of-result c =
    let key_states : c.in_ok-key_states.key_states.items ≡ replicate c.args.keys Vacant =
    c.in_ok-key_states.ensures.items_if_clones_equal (λ y clone. clone) in
    let long : length c.no_bits.result ≡ KINDS = ap length c.no_bits.ensures ∙ length-replicate {A = ℕ} KINDS 0 in
    let masks : c.in_ok-masks.masks.items ≡ replicate (c.args.keys / GROUP + 1) c.no_bits.result =
    c.in_ok-masks.ensures.items_if_clones_equal
    (λ y clone. same_lists y c.no_bits.result (clone.long ∙ sym long) (λ k d below. clone.at k d d (omega (arith, clone.long)))) in
    rw (masks, key_states) (IsIndexed-vacant c.args.keys c.no_bits.result c.no_bits.ensures)
