-- Results of calls, by their cases.
use Rattle.std.proofs.Common.{◌≡◌, ℕ, Bool, true, false, List, length, Option, Some, None, Result, Ok, Err, refl, sym}
use Rattle.std.proofs.Common.{ap, ◌∙◌, subst}
use Rattle.std.specs.Option.{option_map}
use Rattle.lj_step.specs.Motion.{Simulation}
use Rattle.lj_branch.specs.Named.{value_named}
use Rattle.std.specs.Prelude.{is_some, IsSome, IfSome, IsErrAnd, OnOk, OnErr}
use Rattle.std.proofs.lemmas.Bool.{true≢false, false≢true}
use Rattle.lj_branch.specs.declared.branch_faults.SaveFault.{SaveFault}
use Rattle.lj_branch.specs.declared.branch_faults.SaveFault.TheVariants as save
use Rattle.lj_session.specs.declared.command.Command.{Command}
use Rattle.lj_session.specs.declared.refusal.Refusal.{Refusal}
use Rattle.lj_session.specs.declared.refusal.Refusal.TheVariants.{Memory}
use Rattle.lj_session.specs.declared.reply.Reply.{Reply}
use Rattle.lj_session.specs.Faults.{save_refusal}
use Rattle.lj_session.specs.Answers.{command_result}
use Rattle.lj_session.specs.UserState.{UserState, Performs, user_of}

-- a refusal that is handed on
pub refused : {A : Type 0} (r : Result A Refusal) (refusal : Refusal) → IsErrAnd r (λ e. e ≡ refusal) → r ≡ Err refusal
refused (Ok x) refusal h = absurd h
refused (Err e) refusal h = ap Err h

pub performs-refused : (old new : UserState) (command : Command) (r : Result Reply Refusal) (refusal : Refusal)
    → IsErrAnd r (λ e. e ≡ refusal)
    → Performs old command (Err refusal) new → Performs old command r new
performs-refused old new command r refusal h performs =
    subst (λ r. Performs old command r new) (sym (refused r refusal h)) performs

-- what holds anyway holds after an error
pub on_err : {A : Type 0} {P : Type 0} (r : Result A Refusal) → P → OnErr r P
on_err (Ok x) p = tt
on_err (Err e) p = p

module _ {A : Type 0} where
  pub none-if : (o : Option A) → (IsSome o → false ≡ true) → o ≡ None
  none-if None h = refl
  none-if (Some x) h = absurd (false≢true (h refl))

  pub none-of : (o : Option A) → is_some o ≡ false → o ≡ None
  none-of None h = refl
  none-of (Some x) h = absurd (true≢false h)

  pub some-of : (o : Option A) → is_some o ≡ true → (x : A) × (o ≡ Some x)
  some-of None h = absurd (false≢true h)
  some-of (Some x) h = (x, refl)

  pub some-with : (P : A → Type 0) (o : Option A) → is_some o ≡ true → IfSome o P → (x : A) × (o ≡ Some x) × P x
  some-with P None h p = absurd (false≢true h)
  some-with P (Some x) h p = (x, refl, p)

-- where the name is new, a simulation is not saved for want of memory alone
pub not-saved : (fault : SaveFault) (taken : Bool)
    → (◌≡◌ {A = Result (Unit {0}) SaveFault} (Err fault) (Err save.Exists) → taken ≡ true) → taken ≡ false
    → save_refusal fault ≡ Memory
not-saved save.Exists taken h new = absurd (true≢false (sym (h refl) ∙ new))
not-saved save.Memory taken h new = refl

-- a fault that is want of memory
pub performs-starved : (old new : UserState) (command : Command) (fault : Refusal) → fault ≡ Memory
    → command_result (user_of old) command true ≡ Err Memory → Performs old command (Err fault) new
performs-starved old new command fault is h =
    record { mark = true; performs = h ∙ ap Err (sym is); only_memory = λ marked. ap Err is; others = tt; steps = tt }

-- what is saved under a name is found by its count of atoms
pub is_some-counted : (name : List ℕ) (saved : List (List ℕ × Simulation)) (count : Option ℕ)
    → count ≡ option_map (λ (s : Simulation). length s.cur) (value_named name saved)
    → is_some (value_named name saved) ≡ is_some count
is_some-counted name saved count is = sym (ap is_some is ∙ mapped (value_named name saved))
  where
    mapped : (o : Option Simulation) → is_some (option_map (λ (s : Simulation). length s.cur) o) ≡ is_some o
    mapped None = refl
    mapped (Some s) = refl

module _ {A E : Type 0} where
  pub on_ok-then : {P Q : Type 0} (r : Result A E) → (P → Q) → OnOk r P → OnOk r Q
  on_ok-then (Ok x) f p = f p
  on_ok-then (Err e) f p = tt

  pub on_err-then : {P Q : Type 0} (r : Result A E) → (P → Q) → OnErr r P → OnErr r Q
  on_err-then (Ok x) f p = tt
  on_err-then (Err e) f p = f p

  -- what is seen alike of both outcomes
  pub same-either : {B C : Type 0} (r : Result A E) (see : B → C) (new old taken : B) → OnOk r (new ≡ taken)
      → OnErr r (new ≡ old) → see taken ≡ see old → see new ≡ see old
  same-either (Ok x) see new old taken is same alike = ap see is ∙ alike
  same-either (Err e) see new old taken is same alike = ap see same
