use Rattle.std.proofs.Common.{◌≡◌, ap, sym, ◌∙◌, inl, inr, rules}
use Rattle.lj_task.specs.declared.task_name.TaskName.{TaskName}
use Rattle.lj_step.specs.OpenSteps.{tile_number}
use Rattle.lj_end.proofs.Places.{is_stray, of_another_tile, taken_off, returns_by_name}
use Rattle.lj_end.proofs.account.Account.count_by_name.Goals as goal

pub returns-in-Some-clause-handed_out : goal.returns-in-Some-clause-handed_out
returns-in-Some-clause-handed_out g c =
    let counted = c.count_owed.ensures in
    let task = c.args.task.now in
    let owed = c.args.self.now.owed in
    inl (taken_off _ task c.args.self.now _ c.in-Some.here c.in-Some.ensures.some (λ other owes returned answer.
    returns_by_name owed task other returned c.requires owes (elim answer [
      | inl agrees ↦ search rules
      | inr apart ↦ of_another_tile _ other returned (other.name ≡ task.name)
          (λ is. ap (λ (name : TaskName). tile_number name.bi name.bj) is ∙ sym c.tile_number_of.ensures) apart
    ])) counted.owed counted.expected counted.strays)

pub returns-in-None-clause-handed_out : goal.returns-in-None-clause-handed_out
returns-in-None-clause-handed_out g c =
    let counted = c.count_stray.ensures in
    let task = c.args.task.now in
    let owed = c.args.self.now.owed in
    inr (is_stray _ task c.args.self.now _ c.in-None.ensures.none (λ other owes returned answer.
    returns_by_name owed task other returned c.requires owes (elim answer [
      | inl agrees ↦ search rules
      | inr apart ↦ of_another_tile _ other returned (other.name ≡ task.name)
          (λ is. ap (λ (name : TaskName). tile_number name.bi name.bj) is ∙ sym c.tile_number_of.ensures) apart
    ])) counted.owed counted.expected counted.strays)
