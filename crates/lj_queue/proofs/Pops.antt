-- What a pass has popped and pushed again once it pops one ticket more.
use Rattle.std.proofs.Common.{◌≡◌, ℕ, ◌+◌, ◌-◌, ◌≤◌, [], ◌∷◌, ◌++◌, sym, ap, ◌∙◌, append-nil, append_assoc, refl, arith}
use Rattle.std.proofs.lemmas.List.{length-append}
use Rattle.std.proofs.lemmas.List.Elements.{All-nil, All-push}
use Rattle.std.proofs.lemmas.List.Sums.{sum_by_push}
use Rattle.lj_task.specs.declared.task_name.TaskName.{TaskName}
use Rattle.lj_queue.specs.declared.open_task.OpenTask.{OpenTask}
use Rattle.lj_queue.specs.PoolPass.{PopsFor, PoolPass, with_pop, with_push}

-- none is popped yet
pub none_more : (sent : TaskName → Type 0) (start : ℕ) (pass : PoolPass) → PopsFor (start - start) sent pass pass
none_more sent start pass = record {
  more = [];
  again = [];
  others = [];
  popped = sym (append-nil pass.popped);
  pushed = sym (append-nil pass.pushed);
  each = λ h. refl;
  sent_back = All-nil (λ (t : OpenTask). sent t.task.name);
  enough = omega arith;
}

-- a ticket that is popped and not pushed again
pub pops_more : (sent : TaskName → Type 0) (old mid new : PoolPass) (ticket : OpenTask) (start was is : ℕ)
    → PopsFor (was - start) sent old mid → new ≡ with_pop mid ticket → is ≤ was + 1
    → PopsFor (is - start) sent old new
pops_more sent old mid new ticket start was is pops took most = record {
  more = pops.more ++ ticket ∷ [];
  again = pops.again;
  others = pops.others ++ ticket ∷ [];
  popped = ap (λ (t : PoolPass). t.popped) took ∙ ap (λ l. l ++ ticket ∷ []) pops.popped
      ∙ append_assoc old.popped pops.more (ticket ∷ []);
  pushed = ap (λ (t : PoolPass). t.pushed) took ∙ pops.pushed;
  each = λ h. omega (arith, pops.each h, sum_by_push h pops.more ticket, sum_by_push h pops.others ticket);
  sent_back = pops.sent_back;
  enough = omega (arith, pops.enough, most, length-append pops.others (ticket ∷ []));
}

-- a ticket that is popped and pushed again
pub pushes_again : (sent : TaskName → Type 0) (old mid took new : PoolPass) (ticket : OpenTask) (results : ℕ)
    → PopsFor results sent old mid → took ≡ with_pop mid ticket → new ≡ with_push took ticket
    → sent ticket.task.name → PopsFor results sent old new
pushes_again sent old mid took new ticket results pops popped pushed may = record {
  more = pops.more ++ ticket ∷ [];
  again = pops.again ++ ticket ∷ [];
  others = pops.others;
  popped = ap (λ (t : PoolPass). t.popped) (pushed ∙ ap (λ (t : PoolPass). with_push t ticket) popped)
      ∙ ap (λ l. l ++ ticket ∷ []) pops.popped ∙ append_assoc old.popped pops.more (ticket ∷ []);
  pushed = ap (λ (t : PoolPass). t.pushed) (pushed ∙ ap (λ (t : PoolPass). with_push t ticket) popped)
      ∙ ap (λ l. l ++ ticket ∷ []) pops.pushed ∙ append_assoc old.pushed pops.again (ticket ∷ []);
  each = λ h. omega (arith, pops.each h, sum_by_push h pops.more ticket, sum_by_push h pops.again ticket);
  sent_back = All-push (λ (t : OpenTask). sent t.task.name) pops.again ticket pops.sent_back may;
  enough = pops.enough;
}
