use Rattle.std.proofs.Common.{rules, ◌≡◌, ap, ◌∙◌, slice_index_or}
use Rattle.lj_task.specs.Species.{Composition}
use Rattle.lj_step.specs.Sets.{species_bits_in}
use Rattle.lj_step.proofs.SetLemmas.{word_in}
use Rattle.lj_step.proofs.atoms.Atoms.species_bits.Goals as goal

pub returns : goal.returns
returns c =
    let its : c.unwrap_or.result ≡ slice_index_or c.self.inside.species_bits.items c.args.block 0 = search rules in
    word_in c.self.inside.species_bits.items c.args.block c.unwrap_or.result c.unwrap_or.type_inv its
    ∙ ap (λ (atoms : Composition). species_bits_in atoms.species_bits c.args.block) c.self.view_is
