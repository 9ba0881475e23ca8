use Rattle.std.proofs.Common.{◌≡◌, ◌+◌, ◌*◌, ◌^◌, ◌<◌, ℕ, Bool, take, length, [], ◌∷◌, ◌++◌, sym, ap, ◌∙◌, subst, arith}
use Rattle.std.specs.Prelude.{if◌then◌else◌}
use Rattle.std.proofs.lemmas.List.{length-take-le, take_more}
use Rattle.lj_session.specs.Interactions.{species_bits_among}
use Rattle.lj_xyz.specs.declared.atom_row.AtomRow.{AtomRow}
use Rattle.lj_xyz.specs.Symbols.{is_second}
use Rattle.lj_session.proofs.PlacesWhere.{bit_of, places-few, places-more}
use Rattle.lj_session.proofs.species_bits.bits_of.Goals.{then-is_second, else-is_second}
use Rattle.lj_session.proofs.species_bits.bits_of.Goals as goal

pub loop-t-preserved : goal.loop-t-preserved
loop-t-preserved c =
    let rows = c.args.block.now in
    let row = c.index-block-t.result in
    let t = c.loop-t.t in
    let all : AtomRow → Bool = λ row. is_second c.args.symbols.now row.symbol in
    let taken : take (t + 1) rows ≡ take t rows ++ row ∷ [] =
    take_more rows t row c.loop-t-test.true ∙ ap (λ r. take t rows ++ r ∷ []) (sym c.index-block-t.is) in
    let count : length (take t rows) ≡ t = length-take-le t rows (omega (arith, c.loop-t-test.true)) in
    let more : (bit : ℕ) → (if all row then 1 else 0) ≡ bit
    → species_bits_among c.args.symbols.now (take (t + 1) rows) ≡ c.loop-t.bits + 2 ^ t * bit =
    λ bit is. ap (species_bits_among c.args.symbols.now) taken ∙ places-more all (take t rows) row bit is
    ∙ ap (λ n. species_bits_among c.args.symbols.now (take t rows) + 2 ^ n * bit) count
    ∙ ap (λ n. n + 2 ^ t * bit) (sym c.loop-t.invariant.value) in
    let value : c.if-is_second.bits ≡ species_bits_among c.args.symbols.now (take (t + 1) rows) =
    elim c.if-is_second.branch [
      | then-is_second w ↦
          w.bits-is ∙ ap (λ n. c.loop-t.bits + n) (bit_of t (omega (arith, c.requires, c.loop-t-test.true)))
          ∙ sym (more 1 (ap (λ b. if b then 1 else 0) (sym c.is_second.ensures ∙ w.if-is_second.true)))
      | else-is_second w ↦
          w.bits-is
          ∙ sym (more 0 (ap (λ b. if b then 1 else 0) (sym c.is_second.ensures ∙ w.if-is_second.false)) ∙ omega arith)
    ] in
    record {
      value = value;
      few = rw value (subst (λ n. species_bits_among c.args.symbols.now (take (t + 1) rows) < 2 ^ n)
          (length-take-le (t + 1) rows (omega (arith, c.loop-t-test.true))) (places-few all (take (t + 1) rows)));
    }
