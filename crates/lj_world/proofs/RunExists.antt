-- No list of events is without a run.
use Rattle.std.proofs.Common.{List, [], ◌∷◌, ◌++◌, Option, None, option_to_list, inl, inr, refl}
use Rattle.lj_world.specs.declared.event.Event.{Event}
use Rattle.lj_world.specs.declared.transcript.Entry.{Entry}
use Rattle.lj_world.specs.Machine.{Machine}
use Rattle.lj_world.specs.Runs.{Step, IsPossible}
use Rattle.lj_world.specs.RunLaws.{HasRun, EachListHasARun}

-- a step from which the other events have a run begins a run
begins_run : (old : Machine) (event : Event) (events : List Event) → ¬ HasRun old (event ∷ events)
    → (reply : Option Entry) (between : Machine) → Step old event reply between → ¬ HasRun between events
begins_run old event events none reply between step r =
    none (option_to_list reply ++ r.0, r.1, (reply, between, r.0, step, r.2, refl))

-- without one the first event could not happen, but that is a step too
pub runs_exist : EachListHasARun
runs_exist old [] none = none ([], old, (refl, refl))
runs_exist old (event ∷ events) none =
    let impossible : ¬ IsPossible old event =
    λ p. runs_exist p.1 events (begins_run old event events none p.0 p.1 (inl p.2)) in
    runs_exist old events (begins_run old event events none None old (inr (impossible, refl, refl)))
