use Rattle.std.proofs.Common.{◌≡◌, ◌≤◌, ◌<◌, ◌+◌, ◌*◌, ◌^◌, length, [], ◌∷◌, ◌++◌, sym, ap, ◌∙◌, arith}
use Rattle.std.proofs.lemmas.List.{nil_from_length}
use Rattle.lj_step.specs.Sets.{number_of_bits}
use Rattle.lj_session.specs.Interactions.{species_bits_among}
use Rattle.lj_xyz.specs.declared.atom_row.AtomRow.{AtomRow}
use Rattle.lj_xyz.specs.Symbols.{is_second}
use Rattle.lj_session.proofs.PlacesWhere.{block-more}
use Rattle.lj_session.proofs.species_bits.blocks_of.Goals as goal

pub loop-rest-preserved : goal.loop-rest-preserved
loop-rest-preserved c =
    let symbols = c.args.symbols.now in
    let species_bits = c.loop-rest.species_bits.items in
    let block = c.split_at.result.0.now in
    let others = c.split_at.result.1.now in
    let whole : c.loop-rest.rest.now ≡ block ++ others = c.split_at.ensures.by_index.0 in
    let most : length block ≤ 64 = omega (arith, c.split_at.ensures.front_len, c.min.ensures) in
    let last : length block < 64 → others ≡ [] =
    λ fewer. nil_from_length others (omega (arith, c.split_at.ensures.front_len, c.split_at.ensures.back_len, c.min.ensures, fewer)) in
    let pushed : c.push.new.self.items ≡ species_bits ++ species_bits_among symbols block ∷ [] =
    c.in_ok-push.ensures.items ∙ ap (λ n. species_bits ++ n ∷ []) c.bits_of.ensures in
    c.loop-rest.invariant
    ∙ ap (λ r. number_of_bits species_bits + 2 ^ (64 * length species_bits) * species_bits_among symbols r) whole
    ∙ block-more (λ (row : AtomRow). is_second symbols row.symbol) species_bits block others most last
    ∙ ap (λ list. number_of_bits list + 2 ^ (64 * length list) * species_bits_among symbols others) (sym pushed)
