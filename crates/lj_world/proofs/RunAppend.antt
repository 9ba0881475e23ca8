-- A run with one more step.
use Rattle.std.proofs.Common.{List, [], ◌∷◌, ◌++◌, Option, option_to_list, refl, sym, ◌∙◌, ap, subst, append_assoc, append-nil}
use Rattle.lj_world.specs.declared.event.Event.{Event}
use Rattle.lj_world.specs.declared.transcript.Entry.{Entry}
use Rattle.lj_world.specs.Machine.{Machine}
use Rattle.lj_world.specs.Runs.{Run, RunBy}
use Rattle.lj_world.specs.Picked.{PickedStep}

-- one more event, with its reply
pub run_push : (IsStep : Machine → Event → Option Entry → Machine → Type 0) (old : Machine) (events : List Event) (entries : List Entry) (last new : Machine) (event : Event) (reply : Option Entry) → RunBy IsStep old events entries last
    → IsStep last event reply new → RunBy IsStep old (events ++ event ∷ []) (entries ++ option_to_list reply) new
run_push IsStep old [] entries last new event reply (none, same) step =
    (reply, new, [], subst (λ z. IsStep z event reply new) same step, (refl, refl), ap (λ es. es ++ option_to_list reply) none ∙ sym (append-nil (option_to_list reply)))
run_push IsStep old (first ∷ events) entries last new event reply (reply_text, between, later, taken, more, whole) step = (
  reply_text,
  between,
  later ++ option_to_list reply,
  taken,
  run_push IsStep between events later last new event reply more step,
  ap (λ es. es ++ option_to_list reply) whole ∙ append_assoc (option_to_list reply_text) later (option_to_list reply),
)

-- a run in which each pick decides is a run
pub run_of : (old : Machine) (events : List Event) (entries : List Entry) (last : Machine) → RunBy PickedStep old events entries last
    → Run old events entries last
run_of old [] entries last same = same
run_of old (event ∷ events) entries last (reply, between, later, step, more, whole) =
    (reply, between, later, step.0, run_of between events later last more, whole)
