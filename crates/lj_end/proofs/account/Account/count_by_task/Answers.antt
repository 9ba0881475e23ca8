use Rattle.std.proofs.Common.{◌≡◌, ap, sym, ◌∙◌, inl, inr, rules}
use Rattle.lj_step.specs.OpenSteps.{tile_number_of}
use Rattle.lj_end.proofs.Places.{is_stray, of_another_tile, taken_off}
use Rattle.lj_end.proofs.account.Account.count_by_task.Goals as goal

pub returns-in-Some-clause-handed_out : goal.returns-in-Some-clause-handed_out
returns-in-Some-clause-handed_out g c =
    let counted = c.count_owed.ensures in
    let task = c.args.task.now in
    inl (taken_off _ task c.args.self.now _ c.in-Some.here c.in-Some.ensures.some (λ other _ returned answer. elim answer [
      | inl agrees ↦ search rules
      | inr apart ↦ of_another_tile _ other returned (other ≡ task) (λ is. ap tile_number_of is ∙ sym c.tile_number_of.ensures) apart
    ]) counted.owed counted.expected counted.strays)

pub returns-in-None-clause-handed_out : goal.returns-in-None-clause-handed_out
returns-in-None-clause-handed_out g c =
    let counted = c.count_stray.ensures in
    let task = c.args.task.now in
    inr (is_stray _ task c.args.self.now _ c.in-None.ensures.none (λ other _ returned answer. elim answer [
      | inl agrees ↦ search rules
      | inr apart ↦ of_another_tile _ other returned (other ≡ task) (λ is. ap tile_number_of is ∙ sym c.tile_number_of.ensures) apart
    ]) counted.owed counted.expected counted.strays)
