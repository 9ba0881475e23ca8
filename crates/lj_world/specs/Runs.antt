-- Runs of the machine: one step for each event, in which an event that is not possible changes nothing.
use Rattle.std.specs.Prelude.{◌≡◌, List, [], ◌∷◌, ◌++◌, Option, None, option_to_list, ◌⊎◌}
use Rattle.lj_access.specs.declared.user.User.{User}
use Rattle.lj_world.specs.declared.event.Event.{Event}
use Rattle.lj_world.specs.declared.transcript.Entry.{Entry}
use Rattle.lj_world.specs.Machine.{Machine, initial_machine}
use Rattle.lj_world.specs.Transitions.{Transition}

-- the event is possible
abbrev pub IsPossible : Machine → Event → Type 0
IsPossible old event = (reply : Option Entry) × (new : Machine) × Transition old event reply new

-- A step: the event happens, or it is not possible, and then nothing is replied and nothing changes.
abbrev pub Step : Machine → Event → Option Entry → Machine → Type 0
Step old event reply new =
    Transition old event reply new ⊎ (¬ IsPossible old event) × (reply ≡ None) × (new ≡ old)

-- Steps of one kind over these events, one after the other, which give these replies.
abbrev pub RunBy : (Machine → Event → Option Entry → Machine → Type 0) → Machine → List Event → List Entry → Machine → Type 0
RunBy IsStep old [] replies new = (replies ≡ []) × (new ≡ old)
RunBy IsStep old (event ∷ events) replies new =
    (reply : Option Entry) × (between : Machine) × (later : List Entry)
    × IsStep old event reply between × RunBy IsStep between events later new
    × (replies ≡ option_to_list reply ++ later)

-- Steps over these events, one after the other, which give these replies.
abbrev pub Run : Machine → List Event → List Entry → Machine → Type 0
Run old events replies new = RunBy Step old events replies new

-- These replies are the whole transcript of a run from these users over just these events, in their order.
abbrev pub IsTranscript : List User → List Event → List Entry → Type 0
IsTranscript users events replies = (last : Machine) × Run (initial_machine users) events replies last
